-- Each column has an index without entries, which is the index of no rows; and there are no notes to be kept.
use Rattle.std.proofs.Common.{arith}
use Rattle.su_index.proofs.Whole.{indexed_none}
use Rattle.su_index.proofs.tables.Table.new.Goals as goal

pub invariant_of-result : goal.invariant_of-result
invariant_of-result c = (indexed_none c.new-2.result c.loop.indexes.items c.new-2.ensures.empty (omega (arith, c.loop.invariant.len, c.new-2.ensures.width)) c.loop.invariant.empty, λ k d h. absurd (omega arith))
