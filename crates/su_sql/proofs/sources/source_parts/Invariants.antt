use Rattle.std.proofs.Common.{◌≡◌, map, take}
use Rattle.su_sql.specs.Tables.{source_text}
use Rattle.su_sql.proofs.sources.source_parts.Given as goal

abbrev pub invariant-loop-source : goal.invariant-loop-source
invariant-loop-source l = l.parts ≡ map (source_text l.dialect l.schema) (take l.source-index l.sources)
