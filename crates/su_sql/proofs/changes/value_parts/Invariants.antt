use Rattle.std.proofs.Common.{◌≡◌, map, take}
use Rattle.su_sql.specs.Texts.{value_text}
use Rattle.su_sql.proofs.changes.value_parts.Given as goal

abbrev pub invariant-loop-value : goal.invariant-loop-value
invariant-loop-value l = l.parts ≡ map (value_text l.dialect) (take l.value-index l.row)
