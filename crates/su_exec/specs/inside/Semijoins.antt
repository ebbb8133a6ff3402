-- Semijoins: an edge without the rows that have no partner in another, and bodies that lose ears.
-- key: the cells of a row at some places; partner of a row: a row on the other side with the same key
-- No public contract cites this module.
use Rattle.std.specs.Prelude.{◌≡◌, ◌↔◌, ◌<◌, ℕ, Bool, true, false, IsTrue, List, [], length, get_or, slice_index_or}
use Rattle.su_base.specs.declared.values.Value.{Value}
use Rattle.su_exec.specs.declared.checks.Check.{Check}
use Rattle.su_exec.specs.inside.Bodies.{AreThere}
use Rattle.su_exec.specs.inside.Checks.{all_hold}
use Rattle.su_exec.specs.inside.Edges.{Edge, Fits, Keeps, has}
use Rattle.su_reduce.specs.Sheets.{pick}

-- the key of one of the first n rows
pub record HasKey (rows : List (List ℕ)) (places : List ℕ) (n : ℕ) (key : List ℕ) : Type 0 where
  pub place : ℕ
  pub below : place < n
  pub is : pick places (slice_index_or rows place []) ≡ key

-- the marks are those of the rows on the left that have a partner
abbrev pub ArePartnered : List (List ℕ) → List ℕ → List (List ℕ) → List ℕ → List Bool → Type 0
ArePartnered ls left_key rs right_key marks = (i : ℕ) → i < length ls → IsTrue (get_or marks i false) ↔ HasKey rs right_key (length rs) (pick left_key (get_or ls i []))

-- a valuation of the edge that has the same values of the variables of both
pub record AgreesWith (a b : Edge ℕ) (v : ℕ → ℕ) : Type 0 where
  pub valuation : ℕ → ℕ
  pub fits : Fits valuation b
  pub same : (k : ℕ) → has a.vars k ≡ true → has b.vars k ≡ true → v k ≡ valuation k

-- edge a without the rows that have no partner in edge b
pub record IsSemijoin (a b g : Edge ℕ) : Type 0 where
  pub vars : g.vars ≡ a.vars
  pub stays : (v : ℕ → ℕ) → Fits v a → Fits v b → Fits v g
  pub fewer : (v : ℕ → ℕ) → Fits v g → Fits v a
  pub partner : (v : ℕ → ℕ) → Fits v g → AgreesWith a b v

-- a body with the same checks that gives the needed variables the same values
pub record Leaves (needed : List ℕ) (es : List (Edge ℕ)) (cs : List Check) (fs : List (Edge ℕ)) (ds : List Check) : Type 0 where
  pub checks : ds ≡ cs
  pub keeps : (values : List Value) → Keeps needed es (all_hold values cs) fs (all_hold values cs)
  pub there : AreThere needed cs es → AreThere needed cs fs
  pub some : 0 < length es → 0 < length fs
