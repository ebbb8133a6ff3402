use Rattle.std.proofs.Common.{◌≡◌, map, take}
use Rattle.su_sql.specs.Conditions.{condition_text}
use Rattle.su_sql.proofs.conditions.+condition.Given as goal

abbrev pub invariant-condition_parts-loop-cond : goal.invariant-condition_parts-loop-cond
invariant-condition_parts-loop-cond l = l.parts ≡ map (condition_text l.dialect) (take l.cond-index l.conds)
