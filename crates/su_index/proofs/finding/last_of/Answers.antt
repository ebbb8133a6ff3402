-- A chunk with a chunk behind it has entries, so its last one stands right before the first of the next chunk.
use Rattle.std.proofs.Common.{◌≡◌, ◌<◌, ◌+◌, ◌-◌, ◌∙◌, ap, get_or, arith}
use Rattle.su_index.specs.Entries.{entries_of}
use Rattle.su_index.specs.inside.Chunks.{before_chunk}
use Rattle.su_index.proofs.Chunked.{len-some, before-len, before-most}
use Rattle.su_index.proofs.finding.last_of.Goals as goal

pub overflow_sub-at : goal.overflow_sub-at
overflow_sub-at c = len-some c.args.chunks.now c.args.chunk c.len_of-at.result c.requires.some c.requires.within c.len_of-at.ensures

pub returns-clause-there : goal.returns-clause-there
returns-clause-there c = before-most c.args.chunks.now (c.args.chunk + 1)

pub returns-clause-some : goal.returns-clause-some
returns-clause-some c =
    let some : 0 < c.len_of-at.result = len-some c.args.chunks.now c.args.chunk c.len_of-at.result c.requires.some c.requires.within c.len_of-at.ensures in
    omega (arith, some, before-len c.args.chunks.now c.args.chunk c.len_of-at.result (omega (arith, c.requires.within)) c.len_of-at.ensures)

pub returns-clause-last : goal.returns-clause-last
returns-clause-last c =
    let chunks = c.args.chunks.now in
    let chunk = c.args.chunk in
    let len = c.len_of-at.result in
    let some : 0 < len = len-some chunks chunk len c.requires.some c.requires.within c.len_of-at.ensures in
    let last : before_chunk chunks chunk + (len - 1) ≡ before_chunk chunks (chunk + 1) - 1 = omega (arith, some, before-len chunks chunk len (omega (arith, c.requires.within)) c.len_of-at.ensures) in
    c.entry.ensures ∙ ap (λ k. get_or (entries_of chunks) k c.entry.result) last
