use Rattle.std.proofs.Common.{◌≡◌, map, take}
use Rattle.su_sql.specs.Queries.{null_text}
use Rattle.su_sql.proofs.writing.null_parts.Given as goal

abbrev pub invariant-loop-name : goal.invariant-loop-name
invariant-loop-name l = l.parts ≡ map (null_text l.dialect) (take l.name-index l.header)
