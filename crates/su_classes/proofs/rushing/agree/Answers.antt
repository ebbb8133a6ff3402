-- Looking for roots only shortens ways, which keeps the labellings; items with one root have one label, so rows with the same roots so far have the same labels there.
use Rattle.std.proofs.Common.{◌≡◌, get_or, sym, ap, ◌∙◌, arith}
use Rattle.std.proofs.lemmas.List.{get_or_default}
use Rattle.su_classes.specs.Items.{item_of}
use Rattle.su_classes.proofs.Trees.{shortened_then}
use Rattle.su_classes.proofs.Rushed.{same_roots, first_more}
use Rattle.su_classes.proofs.rushing.agree.Goals as goal

pub returns-then-root-clause-shortened : goal.returns-then-root-clause-shortened
returns-then-root-clause-shortened c =
    let old = c.args.table.now in
    let mid = c.root.new.table in
    shortened_then old mid c.root-in-loop-a.new.table (shortened_then old c.loop-a.table mid c.loop-a.invariant.shortened c.root.ensures.shortened) c.root-in-loop-a.ensures.shortened

pub loop-a-preserved : goal.loop-a-preserved
loop-a-preserved c =
    let old = c.args.table.now in
    let mid = c.root.new.table in
    let new = c.root-in-loop-a.new.table in
    let xs = c.args.attributes.now in
    let i = c.loop-a.a-index in
    let to_mid = shortened_then old c.loop-a.table mid c.loop-a.invariant.shortened c.root.ensures.shortened in
    record {
      shortened = shortened_then old mid new to_mid c.root-in-loop-a.ensures.shortened;
      together = λ label sound.
          first_more (λ a. label (item_of c.args.row.now a) ≡ label (item_of c.args.other.now a)) xs i (get_or xs i 0) c.loop-a-test.true
          (get_or_default xs i 0 (get_or xs i 0) c.loop-a-test.true) (c.loop-a.invariant.together label sound)
          (ap label (sym c.item_at.ensures)
          ∙ same_roots old mid new c.item_at.result c.item_at-in-loop-a.result c.root.result c.root-in-loop-a.result to_mid c.root-in-loop-a.ensures.shortened c.root.ensures.of c.root-in-loop-a.ensures.of c.if-root.false label sound
          ∙ ap label c.item_at-in-loop-a.ensures);
    }

pub returns-clause-together : goal.returns-clause-together
returns-clause-together c = λ _ label sound k d l. c.loop-a.invariant.together label sound k d (omega arith)
