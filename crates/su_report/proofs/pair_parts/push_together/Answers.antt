-- The lines so far are those of the later attributes below the number.
use Rattle.std.proofs.Common.{◌≡◌, true, false, ap, arith}
use Rattle.std.specs.Prelude.{nat_lt}
use Rattle.std.proofs.lemmas.Bool.Decides.{nat_tests}
use Rattle.su_show.proofs.Lines.{adds_none}
use Rattle.su_report.specs.MaximalParts.{CoveredBy}
use Rattle.su_report.proofs.Texts.{adds_passed, adds_left_out}
use Rattle.su_report.proofs.pair_parts.push_together.Goals as goal
use Rattle.su_report.proofs.pair_parts.push_together.Goals.{then-a-b+in_ok-push_pair, else-a-b}

pub loop-b-init : goal.loop-b-init
loop-b-init c = adds_none (CoveredBy c.args.schema.now c.args.covers.now c.args.a) c.args.out.now.items

pub loop-b-preserved : goal.loop-b-preserved
loop-b-preserved c =
    let P = CoveredBy c.args.schema.now c.args.covers.now c.args.a in
    let p = nat_lt c.args.a in
    let b = c.loop-b.b in
    let old = c.args.out.now.items in
    elim c.if-a-b.branch [
      | then-a-b+in_ok-push_pair w ↦
          let has : nat_lt c.args.a b ≡ true = grind (arith, nat_tests, w.if-a-b.true) in
          rw w.out-is (adds_passed P p b old c.loop-b.out.items w.push_pair.new.out.items c.loop-b.invariant has w.in_ok-push_pair.ensures)
      | else-a-b w ↦
          let lacks : nat_lt c.args.a b ≡ false = grind (arith, nat_tests, w.if-a-b.false) in
          adds_left_out P p b old c.loop-b.out.items c.if-a-b.out.items c.loop-b.invariant lacks (ap (λ v. v.items) w.out-is)
    ]
