-- The entries of the chunks so far and the rest are the whole run, and each chunk so far has entries, since one is cut off only where more than a full one is left.
use Rattle.std.proofs.Common.{◌∙◌, ap, length, arith}
use Rattle.su_index.proofs.Chunked.{pushed-entries, pushed-all}
use Rattle.su_index.proofs.chunks.chunks_of.Goals as goal

pub loop-rest-preserved : goal.loop-rest-preserved
loop-rest-preserved c =
    let items = rw (c.is_err.ensures.negation, c.if-is_err.false) at c.push.ensures.items in
    let len = ap length c.in_ok-chunk.ensures ∙ c.parted.ensures.len in
    record {
      whole = rw items (pushed-entries c.loop-rest.chunks.items c.in_ok-chunk.chunk c.parted.result.0.now c.parted.result.1.now c.loop-rest.rest.now c.in_ok-chunk.ensures c.parted.ensures.parts ∙ c.loop-rest.invariant.whole);
      some = rw items (pushed-all c.loop-rest.chunks.items c.in_ok-chunk.chunk c.loop-rest.invariant.some (omega (arith, len)));
    }
