-- The pairs so far are those that the object has of the attributes so far, and each attribute adds its own or none.
use Rattle.std.proofs.Common.{[]}
use Rattle.su_ddl.proofs.Lines.{one_pair, none_yet}
use Rattle.su_ddl.proofs.entries.pairs_at.Goals as goal

pub loop-a-init : goal.loop-a-init
loop-a-init c = rw c.new-pairs.ensures (none_yet [] c.args.schema.now.objects c.args.o c.requires.object)

pub loop-a-preserved : goal.loop-a-preserved
loop-a-preserved c =
    rw c.in_ok-push_pair_if.ensures (one_pair c.args.schema.now c.args.o c.loop-a.a c.loop-a.pairs c.in_ok-pair_at.field-0 c.loop-a.invariant c.in_ok-pair_at.ensures)
