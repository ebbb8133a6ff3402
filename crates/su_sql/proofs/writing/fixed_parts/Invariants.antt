use Rattle.std.proofs.Common.{◌≡◌, map, take}
use Rattle.su_sql.specs.Clauses.{fixed_text}
use Rattle.su_sql.proofs.writing.fixed_parts.Given as goal

abbrev pub invariant-loop-fixed : goal.invariant-loop-fixed
invariant-loop-fixed l = l.parts ≡ map (fixed_text l.dialect l.schema l.select.tables) (take l.fixed-index l.select.fixed)
