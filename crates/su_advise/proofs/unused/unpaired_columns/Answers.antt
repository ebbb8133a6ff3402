-- Those so far from which no object takes an attribute; the next comes to the end where none does.
use Rattle.std.proofs.Common.{length, ap, arith}
use Rattle.su_schema.specs.Known.{columns_at}
use Rattle.su_advise.specs.Unused.{IsRead, IsPaired}
use Rattle.su_advise.proofs.Passed.{passed_none, passed_next, passed_two}
use Rattle.su_advise.proofs.unused.unpaired_columns.Goals as goal

pub loop-c-init : goal.loop-c-init
loop-c-init c = passed_none _ _ c.new-found.ensures

pub loop-c-preserved : goal.loop-c-preserved
loop-c-preserved c = passed_next (λ n. IsRead c.args.schema.now c.args.r × (IsPaired c.args.schema.now c.args.r n → ⊥)) _ _ _ _ (c.is_unpaired.ensures) c.loop-c.invariant c.in_ok-push_if.ensures.ok

pub returns : goal.returns
returns c = passed_two (λ n. IsRead c.args.schema.now c.args.r) (λ n. (IsPaired c.args.schema.now c.args.r n → ⊥)) c.loop-c.c (length (columns_at c.args.schema.now c.args.r)) c.loop-c.found (let end = ap length c.columns_at.ensures in omega arith) c.loop-c.invariant
