use Rattle.std.proofs.Common.{◌≡◌, map}
use Rattle.std.specs.List.{range_with_len}
use Rattle.su_sql.specs.Clauses.{output_text}
use Rattle.su_sql.proofs.writing.output_parts.Given as goal

abbrev pub invariant-loop-i : goal.invariant-loop-i
invariant-loop-i l = l.parts ≡ map (output_text l.dialect l.schema l.header l.select) (range_with_len 0 l.i)
