-- What is gathered are the constants of the rows so far, of all in the end; putting them in order, each once, keeps the members.
use Rattle.std.proofs.Common.{◌≡◌, List, Contains, subst, sym, arith}
use Rattle.su_base.specs.declared.values.Value.{Value}
use Rattle.su_chase.specs.inside.Rows.{constants_in}
use Rattle.su_chase.proofs.FirstClash.{constants_all}
use Rattle.su_chase.proofs.numbering.constants_of.Goals as goal

pub returns-clause-all : goal.returns-clause-all
returns-clause-all c = λ v.
    let rows = c.args.rows.now in
    let found : c.loop-row.constants ≡ constants_in rows = constants_all rows c.loop-row.row-index c.loop-row.constants (omega arith) c.loop-row.invariant in
    let same = c.sorted_values.ensures.members v in (
      λ h. subst (λ (xs : List Value). Contains xs v) found (same.0 h),
      λ h. same.1 (subst (λ (xs : List Value). Contains xs v) (sym found) h),
    )
