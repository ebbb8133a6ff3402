use Rattle.std.proofs.Common.{◌≡◌, map, take, codes}
use Rattle.su_sql.specs.Queries.{select_text}
use Rattle.su_sql.proofs.writing.select_parts.Given as goal

abbrev pub invariant-loop-select : goal.invariant-loop-select
invariant-loop-select l = l.parts ≡ map (select_text l.dialect l.schema l.header (codes "select ")) (take l.select-index l.selects)
