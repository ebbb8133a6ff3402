-- The constants found are those of the rows, ascending and each once.
use Rattle.std.proofs.Common.{◌↔◌, List, Contains, subst, sym}
use Rattle.su_base.specs.declared.values.Value.{Value}
use Rattle.su_chase.specs.inside.Rows.{constants_in}
use Rattle.su_chase.proofs.naming.close.Goals as goal

pub close_by-requires-clause-all : goal.close_by-requires-clause-all
close_by-requires-clause-all c = subst (λ (vs : List Value). (v : Value) → Contains vs v ↔ Contains (constants_in c.args.rows.now) v) (sym c.as_slice.ensures) c.in_ok-constants.ensures.all
