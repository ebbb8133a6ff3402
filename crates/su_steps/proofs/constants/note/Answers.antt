-- A place below the length is where the constant stands; one at the length shows that it is in none, so that it can be put at the end and the constants are still distinct.
use Rattle.std.proofs.Common.{◌++◌, ◌∷◌, [], ◌∙◌, sym, ap, subst, arith}
use Rattle.su_classes.specs.inside.Symbols.{constant_place, has_constant, AreDistinct}
use Rattle.su_steps.proofs.ConstantNames.{place_has, place_out, has_push, kept_push, distinct_push}
use Rattle.su_steps.proofs.constants.note.Goals as goal

pub returns-then-place-len-clause-there : goal.returns-then-place-len-clause-there
returns-then-place-len-clause-there c =
    let e = c.place.ensures ∙ ap (λ vs. constant_place vs c.args.value.now) c.as_slice.ensures in
    place_has c.args.constants.now c.args.value.now (omega arith)

pub returns-clause-distinct : goal.returns-clause-distinct
returns-clause-distinct c = λ d.
    let e = c.place.ensures ∙ ap (λ vs. constant_place vs c.args.value.now) c.as_slice.ensures in
    let out = place_out c.args.constants.now c.args.value.now (omega arith) in
    subst AreDistinct (sym (c.in_ok-push.ensures.ok ∙ ap (λ v. c.args.constants.now ++ v ∷ []) c.in_ok-copy.ensures)) (distinct_push c.args.constants.now c.args.value.now out d)

pub returns-clause-there : goal.returns-clause-there
returns-clause-there c =
    ap (λ vs. has_constant vs c.args.value.now) (c.in_ok-push.ensures.ok ∙ ap (λ v. c.args.constants.now ++ v ∷ []) c.in_ok-copy.ensures) ∙ has_push c.args.constants.now c.args.value.now

pub returns-clause-kept : goal.returns-clause-kept
returns-clause-kept c = λ v h.
    ap (λ vs. has_constant vs v) (c.in_ok-push.ensures.ok ∙ ap (λ v. c.args.constants.now ++ v ∷ []) c.in_ok-copy.ensures) ∙ kept_push c.args.constants.now c.args.value.now v h
