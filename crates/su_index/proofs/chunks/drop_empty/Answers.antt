-- A chunk without entries adds none to the whole, so leaving it out keeps the entries of all chunks.
use Rattle.std.proofs.Common.{◌∙◌, ap, arith}
use Rattle.std.proofs.lemmas.Bool.Decides.{nat_tests}
use Rattle.su_index.specs.Entries.{entries_of}
use Rattle.su_index.proofs.Chunked.{dropped-entries}
use Rattle.su_index.proofs.chunks.drop_empty.Goals as goal

pub returns-then-is_empty-clause-entries : goal.returns-then-is_empty-clause-entries
returns-then-is_empty-clause-entries c =
    ap entries_of c.remove-chunk.ensures.items
    ∙ dropped-entries c.args.chunks.now.items c.args.chunk c.index.result.now c.requires.within (rw (← c.index.ensures) (grind (arith, nat_tests, c.is_empty.ensures, c.if-is_empty.true)))
