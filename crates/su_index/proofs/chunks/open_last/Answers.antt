-- Making room changes how much a chunk may hold and none of its entries, so the entries of all chunks stay.
use Rattle.std.proofs.Common.{◌<◌, ◌-◌, ◌∙◌, ap, length, arith}
use Rattle.su_index.proofs.Chunked.{same-entries}
use Rattle.su_index.proofs.chunks.open_last.Goals as goal

pub returns-in_err-reserve-clause-entries : goal.returns-in_err-reserve-clause-entries
returns-in_err-reserve-clause-entries c =
    let open' = rw (c.if-is_open.true, c.as_slice.ensures.value) at c.is_open.ensures.open in
    let within : c.len-last.result - 1 < length c.args.chunks.now.items = omega (arith, open', c.len-last.ensures, c.args.chunks.now.ok) in
    same-entries c.args.chunks.now.items (c.len-last.result - 1) (record { entries = c.reserve.new.self }) c.index_mut.result.now within (c.reserve.ensures.items ∙ ap (λ x. x.entries.items) c.index_mut.ensures.value)

pub returns-then-is_open-clause-entries : goal.returns-then-is_open-clause-entries
returns-then-is_open-clause-entries c =
    let open' = rw (c.if-is_open.true, c.as_slice.ensures.value) at c.is_open.ensures.open in
    let within : c.len-last.result - 1 < length c.args.chunks.now.items = omega (arith, open', c.len-last.ensures, c.args.chunks.now.ok) in
    same-entries c.args.chunks.now.items (c.len-last.result - 1) (record { entries = c.reserve.new.self }) c.index_mut.result.now within (c.reserve.ensures.items ∙ ap (λ x. x.entries.items) c.index_mut.ensures.value)
