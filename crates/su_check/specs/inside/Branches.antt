-- What a branch of a tree shows.
-- node: a row that is to go somewhere, with a branch for each target that fits it; to refute a list: to show that not all kept rows get targets beside it
-- t: the head, the rows and the kept rows of a term; r: the row that is left out; p: rows with their targets so far; s, target: rows, by number
-- No public contract cites this module.
use Rattle.std.specs.Prelude.{◌≡◌, ℕ, List}
use Rattle.su_check.specs.declared.nodes.Branch.{Branch}
use Rattle.su_check.specs.declared.sending.Sent.{Sent}
use Rattle.su_check.specs.SentRows.{Lines, sent_too}
use Rattle.su_check.specs.Refutations.{Refutes, target_of, node_of}

-- the branch is that of the target, and its node refutes the list in which row s goes there too
abbrev pub BranchRefutes : Lines → ℕ → List Sent → ℕ → ℕ → Branch → Type 0
BranchRefutes t r p s target branch = (target_of branch ≡ target) × Refutes t r (node_of branch) (sent_too p s target)
