use Rattle.std.proofs.Common.{◌≡◌, map, take}
use Rattle.su_lex.specs.Spelling.{spaced}
use Rattle.su_query.specs.ShownParts.{ref_symbols}
use Rattle.su_show.proofs.headers.header.Given as goal

abbrev pub invariant-loop-output : goal.invariant-loop-output
invariant-loop-output l = l.names ≡ map (λ ref. spaced (ref_symbols ref)) (take l.output-index l.query.outputs)
