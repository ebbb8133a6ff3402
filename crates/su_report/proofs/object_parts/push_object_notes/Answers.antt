-- The lines so far are those of the objects before the number.
use Rattle.std.proofs.Common.{◌≡◌, ◌∙◌, List, true, length, ap, subst, arith}
use Rattle.std.specs.List.{range_with_len}
use Rattle.std.specs.Ordering.{nat_cmp}
use Rattle.std.specs.FinSet.{FinSet, contains}
use Rattle.std.proofs.lemmas.List.{length-map}
use Rattle.su_base.specs.Sets.{set_at}
use Rattle.su_base.proofs.Subsets.{set_at_read}
use Rattle.su_schema.specs.Entries.{attributes_of}
use Rattle.su_maxobj.specs.MaximalObjects.{object_sets}
use Rattle.su_show.specs.Lines.{AreLines}
use Rattle.su_show.specs.inside.AddedTexts.{Adds}
use Rattle.su_show.proofs.Lines.{adds_none, adds_next}
use Rattle.su_report.specs.ObjectParts.{ObjectNotes}
use Rattle.su_report.proofs.LowAttributes.{attributes_low}
use Rattle.su_report.proofs.object_parts.push_object_notes.Goals as goal

pub loop-o-init : goal.loop-o-init
loop-o-init c = adds_none (ObjectNotes c.args.schema.now) c.args.out.now.items

pub loop-o-preserved : goal.loop-o-preserved
loop-o-preserved c = adds_next (ObjectNotes c.args.schema.now) c.loop-o.o c.args.out.now.items c.loop-o.out.items c.push_notes_on.new.out.items c.loop-o.invariant c.in_ok-push_notes_on.ensures

pub push_notes_on-requires-clause-below : goal.push_notes_on-requires-clause-below
push_notes_on-requires-clause-below c = λ a one.
    let here : contains (set_at (object_sets c.args.schema.now) c.loop-o.o) a ≡ true =
    subst (λ (objects : List (FinSet nat_cmp)). contains (set_at objects c.loop-o.o) a ≡ true) c.requires (ap (λ (s : FinSet nat_cmp). contains s a) (set_at_read c.args.objects.now c.loop-o.o _ c.loop-o-test.true c.index-objects-o.is) ∙ one) in
    attributes_low c.args.schema.now c.keeps_its_rules.ensures c.loop-o.o a here

pub returns : goal.returns
returns c =
    let schema = c.args.schema.now in
    let past : c.loop-o.o ≡ length schema.objects = let t = c.loop-o-test.false in let end = c.loop-o.auto.o-end in let long = ap length c.requires ∙ length-map schema.objects attributes_of in omega (arith, t, end, long) in
    subst (λ n. Adds (AreLines (ObjectNotes schema) (range_with_len 0 n)) c.args.out.now.items c.loop-o.out.items) past c.loop-o.invariant
