-- The attributes listed are the members of the left side, by which the rows are told apart.
use Rattle.std.proofs.Common.{ℕ, List, sym, subst}
use Rattle.su_classes.specs.inside.Firsts.{AreMembersBelow}
use Rattle.su_classes.proofs.firsts.firsts.Goals as goal

pub firsts_by-requires-clause-left : goal.firsts_by-requires-clause-left
firsts_by-requires-clause-left c = subst (λ (list : List ℕ). AreMembersBelow 128 c.args.fd.now.left list) (sym c.as_slice.ensures) c.in_ok-left.ensures
