use Rattle.std.proofs.Common.{◌<◌, ℕ, List, get_or}
use Rattle.su_blame_tests.specs.inside.Groups.{AreIn}
use Rattle.su_blame_tests.proofs.tests.GroupsTrial.fails.Given as goal

abbrev pub invariant-loop-k : goal.invariant-loop-k
invariant-loop-k l = (n : ℕ) (d : List ℕ) → n < l.k → ¬ AreIn (get_or l.self.groups n d) l.set
