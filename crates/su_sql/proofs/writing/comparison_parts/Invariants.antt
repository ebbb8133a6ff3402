use Rattle.std.proofs.Common.{◌≡◌, map, take}
use Rattle.su_sql.specs.Clauses.{comparison_text}
use Rattle.su_sql.proofs.writing.comparison_parts.Given as goal

abbrev pub invariant-loop-comparison : goal.invariant-loop-comparison
invariant-loop-comparison l = l.parts ≡ map (comparison_text l.dialect l.schema l.select.tables) (take l.comparison-index l.select.comparisons)
