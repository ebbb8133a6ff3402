use Rattle.std.proofs.Common.{◌≡◌, map}
use Rattle.std.specs.List.{range_with_len}
use Rattle.su_sql.specs.Queries.{place_number}
use Rattle.su_sql.proofs.writing.number_parts.Given as goal

abbrev pub invariant-loop-i : goal.invariant-loop-i
invariant-loop-i l = l.parts ≡ map place_number (range_with_len 0 l.i)
