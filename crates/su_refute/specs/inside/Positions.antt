-- How the making of a tree stands, where some rows have their targets.
-- p: the rows that have targets; open: those that have none yet; left: for each open row the targets that fit it
-- No public contract cites this module.
use Rattle.std.specs.Prelude.{◌≡◌, ◌≢◌, ◌<◌, ◌≤◌, ◌↔◌, ◌⊎◌, ℕ, List, length, get_or, All, Contains, count_ones}
use Rattle.std.specs.Int.{bit_at}
use Rattle.su_base.specs.Lists.{IsAscending}
use Rattle.su_tableau.specs.Tableaux.{Tab}
use Rattle.su_check.specs.declared.sending.Sent.{Sent}
use Rattle.su_check.specs.SentRows.{Lines, AreSent}
use Rattle.su_check.specs.inside.Widths.{AreWide, IsWithin}
use Rattle.su_check.specs.Refutations.{IsOpen, IsFitting}
use Rattle.su_refute.specs.declared.nets.Net.{Net}
use Rattle.su_refute.specs.inside.Nets.{IsNet}
use Rattle.su_check.specs.declared.nodes.Node.{Node}
use Rattle.su_refute.specs.Trees.{lines_in, node_count, IsTreeAt}

-- rows of one width, kept rows that ascend, and a partial list of rows that go to rows under one list of symbols
pub record IsReady (t : Lines) (p : List Sent) : Type 0 where
  pub wide : AreWide t.rows
  pub ascending : IsAscending t.kept
  pub kept : All (λ k. k < length t.rows) t.kept
  pub within : All (IsWithin t) p
  pub sent : AreSent t p

-- the target is kept, and not the row that is left out
abbrev pub IsFree : Lines → ℕ → Sent → Type 0
IsFree t r x = Contains t.kept x.target × (x.target ≢ r)

-- no list sends all kept rows to kept ones other than r
abbrev pub IsNeeded : Lines → ℕ → Type 0
IsNeeded t r = (p : List Sent) → AreSent t p → All (IsFree t r) p → ((s : ℕ) → Contains t.kept s → IsOpen t p s → ⊥) → ⊥

-- where the search stands: the rows sent so far, the rows still open, and the targets left of each
pub record IsAt (t : Tab) (m r : ℕ) (p : List Sent) (todo : ℕ) (left : List ℕ) : Type 0 where
  pub ready : IsReady (lines_in t m) p
  pub free : All (IsFree (lines_in t m) r) p
  pub open_rows : (q : ℕ) → (bit_at todo q ≡ 1) ↔ IsOpen (lines_in t m) p q
  pub targets : (q i : ℕ) → bit_at todo q ≡ 1 → (bit_at (get_or left q 0) i ≡ 1) ↔ IsFitting (lines_in t m) r p q i

-- it stands so for some tableau, in which row r can't be left out
pub record Stands (net : Net) (todo : ℕ) (left : List ℕ) : Type 0 where
  pub tableau : Tab
  pub mask : ℕ
  pub left_out : ℕ
  pub sent : List Sent
  pub small : length tableau.rows ≤ 64
  pub one_each : length left ≡ length tableau.rows
  pub is_net : IsNet tableau mask net
  pub is_at : IsAt tableau mask left_out sent todo left
  pub needed : IsNeeded (lines_in tableau mask) left_out

-- the tree where it stands so
abbrev pub IsTreeFor : (net : Net) (todo : ℕ) (left : List ℕ) → Stands net todo left → Node → Type 0
IsTreeFor net todo left s n = IsTreeAt (lines_in s.tableau s.mask) s.left_out n s.sent

-- the row of the set has the fewest targets, and is the least such row
pub record IsFewestOf (left : List ℕ) (set s : ℕ) : Type 0 where
  pub member : bit_at set s ≡ 1
  pub fewest : (q : ℕ) → bit_at set q ≡ 1 → (count_ones (get_or left s 0) < count_ones (get_or left q 0)) ⊎ ((count_ones (get_or left s 0) ≡ count_ones (get_or left q 0)) × (s ≤ q))

-- of each row the targets that are left to it and agree
abbrev pub AreLeftAndAgree : List ℕ → List ℕ → List ℕ → Type 0
AreLeftAndAgree left agree next = (q i : ℕ) → q < length left → (bit_at (get_or next q 0) i ≡ 1) ↔ ((bit_at (get_or left q 0) i ≡ 1) × (bit_at (get_or agree q 0) i ≡ 1))

-- each tree for where the search stands has more nodes than so many
abbrev pub NeedMoreThan : ℕ → Net → ℕ → List ℕ → Type 0
NeedMoreThan budget net todo left = (s : Stands net todo left) (n : Node) → IsTreeFor net todo left s n → budget < node_count n
