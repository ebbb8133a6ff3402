-- Why a row can't be left out: a tree whose nodes try all targets.
-- r: the kept row that is left out
use Rattle.std.specs.Prelude.{◌≢◌, ℕ, List, map, All, Contains}
use Rattle.su_base.specs.Lists.{AreExactly}
use Rattle.su_check.specs.declared.sending.Sent.{Sent}
use Rattle.su_check.specs.declared.nodes.Node.{Node, out-Node}
use Rattle.su_check.specs.declared.nodes.Branch.{Branch, out-Branch}
use Rattle.su_check.specs.SentRows.{Lines, AreSent, sent_too}

-- a kept row without a target
pub record IsOpen (t : Lines) (p : List Sent) (s : ℕ) : Type 0 where
  pub member : Contains t.kept s
  pub free : All (λ x. x.row ≢ s) p

-- j is a kept row other than r to which row s can go, beside the rows of the partial list
pub record IsFitting (t : Lines) (r : ℕ) (p : List Sent) (s j : ℕ) : Type 0 where
  pub member : Contains t.kept j
  pub other : j ≢ r
  pub sent : AreSent t (sent_too p s j)

-- what a node and a branch hold
abbrev pub row_named : Node → ℕ
row_named n = (out-Node n).row

-- the branches of a node
abbrev pub branches_of : Node → List Branch
branches_of n = (out-Node n).next

-- the target row that a branch stands for
abbrev pub target_of : Branch → ℕ
target_of b = (out-Branch b).target

-- the node at the end of a branch
abbrev pub node_of : Branch → Node
node_of b = (out-Branch b).node

-- The node names an open row that may be named, its branches are exactly the targets that fit that row, and each branch's node refutes the longer list.
-- Names: which rows a node may name, after which partial list
pub data RefutesBy (Names : List Sent → ℕ → Type 0) (t : Lines) (r : ℕ) : Node → List Sent → Type 0 where
  refuting : (n : Node) (p : List Sent)
      → IsOpen t p (row_named n)
      → Names p (row_named n)
      → AreExactly (IsFitting t r p (row_named n)) (map target_of (branches_of n))
      → ((b : Branch) → Contains (branches_of n) b → RefutesBy Names t r (node_of b) (sent_too p (row_named n) (target_of b)))
      → RefutesBy Names t r n p

-- any open row may be named
abbrev pub Refutes : Lines → ℕ → Node → List Sent → Type 0
Refutes t r = RefutesBy (λ p s. Unit {0}) t r
