-- What was added are exactly the places of the symbol's equals among the cells so far, each with the symbol's own place.
use Rattle.std.proofs.Common.{inl, inr, sym, ◌∙◌, true≢false, arith}
use Rattle.su_base.proofs.Items.{get_or-is}
use Rattle.su_tableau.specs.declared.symbols.Sym.TheVariants.{Var}
use Rattle.su_refute.proofs.SharedPlaces.{places_pushed, places_kept}
use Rattle.su_refute.proofs.places.add_places.Goals as goal
use Rattle.su_refute.proofs.places.add_places.Goals.{then-same+in_ok-push, else-same}

pub loop-second-preserved : goal.loop-second-preserved
loop-second-preserved c =
    let ys = c.args.ys.now in let n = c.loop-second.second in
    let at = sym (get_or-is ys n c.index-ys-second.result (Var 0) c.loop-second-test.true c.index-ys-second.is) in
    elim c.if-same.branch [
      | then-same+in_ok-push w ↦ places_pushed c.args.places.now c.loop-second.places c.if-same.places c.args.first c.args.x.now ys n (w.places-is ∙ w.in_ok-push.ensures.ok) (c.same.ensures.0 w.if-same.true ∙ at) c.loop-second.invariant
      | else-same w ↦ places_kept c.args.places.now c.loop-second.places c.if-same.places c.args.first c.args.x.now ys n w.places-is (λ same. true≢false (sym (c.same.ensures.1 (same ∙ sym at)) ∙ w.if-same.false)) c.loop-second.invariant
    ]

pub returns : goal.returns
returns c = λ p. (
  λ h. elim ((c.loop-second.invariant p).0 h) [
    | inl o ↦ inl o
    | inr o ↦ let l = o.1 in inr (o.0, omega arith, o.2)
  ],
  λ h. (c.loop-second.invariant p).1 (elim h [
    | inl o ↦ inl o
    | inr o ↦ let l = o.1 in inr (o.0, omega arith, o.2)
  ]),
)
