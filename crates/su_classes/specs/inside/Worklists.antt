-- Lists of numbers that stand for places in other lists.
-- member: an item, by its number, or a spot, by its place after them; ring: for each member the next one of its class
-- No public contract cites this module.
use Rattle.std.specs.Prelude.{◌≡◌, ℕ, ◌+◌, ◌<◌, length, All, Contains}
use Rattle.su_classes.specs.inside.Firsts.{AreMembersBelow}
use Rattle.su_classes.specs.declared.rules.Rule.{Rule}
use Rattle.su_classes.specs.declared.worklist.Spot.{Spot}
use Rattle.su_classes.specs.declared.worklist.Worklist.{Worklist}

-- a dependency with the attributes of its sides
pub record IsRule (r : Rule) : Type 0 where
  pub left : AreMembersBelow 128 r.fd.left r.left
  pub right : AreMembersBelow 128 r.fd.right r.right

-- each mark is an item's number, each next member a member's, and what is pending is a spot
pub record IsWell (w : Worklist) : Type 0 where
  pub marks : All (λ m. m < length w.marks.items) w.marks.items
  pub sizes : length w.sizes.items ≡ length w.marks.items
  pub members : length w.next.items ≡ length w.marks.items + length w.spots
  pub ring : All (λ n. n < length w.next.items) w.next.items
  pub pending : All (Contains w.spots) w.pending

-- with the same items and spots
pub record IsSame (old new : Worklist) : Type 0 where
  pub well : IsWell new
  pub items : length new.marks.items ≡ length old.marks.items
  pub spots : new.spots ≡ old.spots

-- a spot of so many rows
pub record IsSpot (rows : ℕ) (s : Spot) : Type 0 where
  pub row : s.row < rows
  pub attribute : s.attribute < 128

-- so many items, and spots of so many rows
pub record IsFor (items rows : ℕ) (w : Worklist) : Type 0 where
  pub well : IsWell w
  pub count : length w.marks.items ≡ items
  pub spots : All (IsSpot rows) w.spots
