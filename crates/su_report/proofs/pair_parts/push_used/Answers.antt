-- The lines so far are those of the used attributes below the number.
use Rattle.std.proofs.Common.{sym, ap, ◌∙◌}
use Rattle.std.specs.FinSet.{contains}
use Rattle.su_show.proofs.Lines.{adds_none}
use Rattle.su_report.specs.MaximalParts.{PairsOf}
use Rattle.su_report.proofs.Texts.{adds_passed, adds_left_out}
use Rattle.su_report.proofs.pair_parts.push_used.Goals as goal
use Rattle.su_report.proofs.pair_parts.push_used.Goals.{then-contains+in_ok-push_pairs_of, else-contains}

pub loop-a-init : goal.loop-a-init
loop-a-init c = adds_none (PairsOf c.args.schema.now c.args.used c.args.covers.now) c.args.out.now.items

pub loop-a-preserved : goal.loop-a-preserved
loop-a-preserved c =
    let P = PairsOf c.args.schema.now c.args.used c.args.covers.now in
    let p = contains c.args.used in
    let a = c.loop-a.a in
    let old = c.args.out.now.items in
    elim c.if-contains.branch [
      | then-contains+in_ok-push_pairs_of w ↦ rw w.out-is (adds_passed P p a old c.loop-a.out.items w.push_pairs_of.new.out.items c.loop-a.invariant (sym c.contains.ensures ∙ w.if-contains.true) w.in_ok-push_pairs_of.ensures)
      | else-contains w ↦ adds_left_out P p a old c.loop-a.out.items c.if-contains.out.items c.loop-a.invariant (sym c.contains.ensures ∙ w.if-contains.false) (ap (λ v. v.items) w.out-is)
    ]
