-- The tree of a row that is left out.
-- fewest: of the open rows the one with the fewest fitting targets, the least such row
use Rattle.std.specs.Prelude.{◌≡◌, ℕ, ◌+◌, ◌<◌, ◌≤◌, ◌⊎◌, List, [], length, sum}
use Rattle.su_base.specs.Lists.{AreExactly}
use Rattle.su_tableau.specs.Tableaux.{Tab}
use Rattle.su_map.specs.Lists.{row_numbers}
use Rattle.su_check.specs.declared.sending.Sent.{Sent}
use Rattle.su_check.specs.declared.nodes.Node.{Node, fold-Node}
use Rattle.su_check.specs.declared.nodes.Branch.TheOpen.{Node-F}
use Rattle.su_check.specs.SentRows.{Lines}
use Rattle.su_check.specs.Refutations.{IsOpen, IsFitting, RefutesBy}

-- the lines of the tableau, and the rows in m as the kept ones
abbrev pub lines_in : Tab → ℕ → Lines
lines_in t m = record { head = t.head; rows = t.rows; kept = row_numbers t m }

-- no open row has fewer fitting targets, and none before it has as few
abbrev pub IsFewest : Lines → ℕ → List Sent → ℕ → Type 0
IsFewest t r p s =
    (q : ℕ) (js ks : List ℕ) → IsOpen t p q → AreExactly (IsFitting t r p s) js → AreExactly (IsFitting t r p q) ks
    → (length js < length ks) ⊎ ((length js ≡ length ks) × (s ≤ q))

-- each node refutes what it is for, and names the fewest
abbrev pub IsTreeAt : Lines → ℕ → Node → List Sent → Type 0
IsTreeAt t r = RefutesBy (IsFewest t r) t r

-- the tree of row r
abbrev pub IsTree : Lines → ℕ → Node → Type 0
IsTree t r n = IsTreeAt t r n []

-- a node counts itself and those below it
abbrev pub count_step : Node-F ℕ ℕ → ℕ
count_step n = 1 + sum n.next

-- how many nodes the tree has
abbrev pub node_count : Node → ℕ
node_count = fold-Node ℕ ℕ (λ b. b.node) count_step
