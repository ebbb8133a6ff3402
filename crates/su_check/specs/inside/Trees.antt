-- When the trees of a term are good.
-- x: a term of a certificate; tree: what shows that one kept row can't be left out
-- k: a place among the kept rows, from 0, and among the trees; kept: the numbers of these rows
-- No public contract cites this module.
use Rattle.std.specs.Prelude.{◌<◌, ◌≤◌, ℕ, length}
use Rattle.su_check.specs.declared.certificates.StatedTerm.{StatedTerm}
use Rattle.su_check.specs.Certificate.{IsGoodTree}

-- each kept row has its tree, and there are no more
pub record HasGoodTrees (x : StatedTerm) : Type 0 where
  pub trees : (k : ℕ) → k < length x.kept → IsGoodTree x k
  pub no_surplus : length x.trees ≤ length x.kept
