use Rattle.std.proofs.Common.{◌≡◌, flat_map}
use Rattle.std.specs.List.{range_with_len}
use Rattle.su_sql.specs.Changes.{create_text}
use Rattle.su_sql.proofs.scripts.tables.Given as goal

abbrev pub invariant-loop-relation : goal.invariant-loop-relation
invariant-loop-relation l = l.out.items ≡ flat_map (create_text l.dialect l.schema) (range_with_len 0 l.relation)
