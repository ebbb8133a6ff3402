use Rattle.std.proofs.Common.{◌≡◌, map, take}
use Rattle.su_sql.specs.Clauses.{join_text}
use Rattle.su_sql.proofs.writing.join_parts.Given as goal

abbrev pub invariant-loop-join : goal.invariant-loop-join
invariant-loop-join l = l.parts ≡ map (join_text l.dialect l.schema l.select.tables) (take l.join-index l.select.joins)
