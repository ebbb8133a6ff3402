-- The last entry of the chunk found doesn't come before the value, so the place in it isn't past its entries, and its rank parts those before the value from the others.
use Rattle.std.proofs.Common.{◌<◌, ◌+◌, ◌-◌, ◌∙◌, sym, inl, inr, arith}
use Rattle.std.proofs.lemmas.Bool.{false≢true, cases_lt}
use Rattle.su_index.specs.inside.Chunks.{len_at, before_chunk}
use Rattle.su_index.proofs.Chunked.{before-next, before-most}
use Rattle.su_index.proofs.finding.find.Goals as goal

pub returns-clause-place : goal.returns-clause-place
returns-clause-place c =
    let chunks = c.args.chunks.now in
    let chunk = c.chunk_for-chunk.result in
    let at = c.place_in-at.result in
    let within = c.chunk_for-chunk.ensures.within in
    record {
      gap = record { within = within; most = c.place_in-at.ensures.most };
      inner = λ d less. elim (cases_lt at (len_at chunks chunk d)) [
        | inr all ↦
            let some : 0 < len_at chunks chunk d = c.requires.some chunk d less in
            let last = before_chunk chunks chunk + (len_at chunks chunk d - 1) in
            let next = before-next chunks chunk d within in
            absurd (false≢true (sym (c.chunk_for-chunk.ensures.above last less (omega (arith, some, next)) (omega (arith, some, next, before-most chunks (chunk + 1)))) ∙ c.place_in-at.ensures.below last (omega (arith, some, all))))
        | inl more ↦ more
      ];
    }
