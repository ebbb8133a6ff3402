-- The rank of a place counts the entries before its chunk and in it, so the entry there is that of the whole at the rank.
use Rattle.std.proofs.Common.{sym, ◌∙◌}
use Rattle.su_index.proofs.Chunked.{entry-at}
use Rattle.su_index.proofs.chunks.entry.Goals as goal

pub index-requires : goal.index-requires
index-requires c = c.requires.there c.index-chunks-place.result

pub returns : goal.returns
returns c = c.index.ensures ∙ sym (entry-at c.args.chunks.now c.args.place.chunk c.args.place.at c.index-chunks-place.result c.index.result.now c.requires.within (c.requires.there c.index-chunks-place.result))
