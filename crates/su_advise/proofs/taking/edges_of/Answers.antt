-- The edges so far are those of the objects so far, and the next object's comes to the end.
use Rattle.std.proofs.Common.{◌∙◌, ap, sym, refl}
use Rattle.su_base.specs.Sets.{set_at}
use Rattle.su_base.proofs.Subsets.{set_at_read}
use Rattle.su_advise.specs.Acyclic.{edge_of}
use Rattle.su_advise.proofs.Readings.{edges_more}
use Rattle.su_advise.proofs.taking.edges_of.Goals as goal

pub loop-o-preserved : goal.loop-o-preserved
loop-o-preserved c =
    edges_more (λ o. edge_of (set_at c.args.objects.now o)) c.args.members.now _ _ _ c.loop-o.o-index _ c.loop-o-test.true refl c.loop-o.invariant
    (c.in_ok-edge_of.ensures ∙ ap edge_of (sym (set_at_read _ _ _ (c.requires c.loop-o.o-index 0 c.loop-o-test.true) c.index-objects-o.is))) c.in_ok-push.ensures.ok
