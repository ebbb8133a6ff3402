-- The values so far and any that may follow are a list from the start, and a list from the start begins with the values so far.
use Rattle.std.proofs.Common.{◌≡◌, ◌∷◌, ◌++◌, [], sym, refl, ap, ◌∙◌, append_assoc, Err}
use Rattle.std.proofs.lemmas.Result.{err_from_is_err_and}
use Rattle.su_lex.specs.declared.ends.LexEnd.TheVariants.{Syntax}
use Rattle.su_query.specs.inside.ReadItems.{ReadsValue}
use Rattle.su_query.proofs.Items.{value_unique}
use Rattle.su_query.proofs.Listed.{first_then, first_only, next_then, next_only, next_none, last, whole}
use Rattle.su_query.proofs.lists.values.Goals as goal

pub loop-values-init : goal.loop-values-init
loop-values-init c =
    let parts = rw c.in_ok-values.ensures at c.in_ok-push.ensures.ok in
    record {
      before = first_then ReadsValue _ c.in_ok-value.field-0 _ _ parts c.in_ok-value.ensures.found;
      only = first_only ReadsValue value_unique _ c.in_ok-value.field-0 _ _ parts c.in_ok-value.ensures.found;
    }

pub returns-in_err-value-2-clause-syntax : goal.returns-in_err-value-2-clause-syntax
returns-in_err-value-2-clause-syntax c =
    let p = err_from_is_err_and c.from_residual-in_err-value-2.result c.from_residual-in_err-value-2.ensures.1 in
    rw (p.1, p.2) (λ s all r hs.
    let h : c.in_err-value-2.field-0.0 ≡ Syntax = cc in
    let m = c.loop-values.invariant.only all r hs in
    next_none ReadsValue _ _ (c.loop-values-test.ensures.yes refl) (c.in_err-value-2.ensures.syntax (ap Err h)) m.0 r m.2)

pub loop-values-preserved : goal.loop-values-preserved
loop-values-preserved c =
    let d = c.in_ok-value-2.field-0 in
    let found = c.in_ok-value-2.ensures.found in
    let here = c.loop-values-test.ensures.yes refl in
    record {
      before = λ more r hs. rw (c.in_ok-push-2.ensures.ok, append_assoc) (c.loop-values.invariant.before (d ∷ more) r (next_then ReadsValue d _ _ _ here found more r hs));
      only = λ all r hs.
          let m = c.loop-values.invariant.only all r hs in
          let n = next_only ReadsValue value_unique d _ _ _ here found m.0 r m.2 in
          (n.0, m.1 ∙ ap (λ x. c.loop-values.values ++ x) n.1 ∙ sym (append_assoc c.loop-values.values (d ∷ []) n.0) ∙ ap (λ x. x ++ n.0) (sym c.in_ok-push-2.ensures.ok), n.2);
    }

pub returns-clause-found : goal.returns-clause-found
returns-clause-found c =
    let end = c.loop-values-test.ensures.no refl in
    rw end.0 (whole ReadsValue c.loop-values.values _ _ (c.loop-values.invariant.before [] _ (last ReadsValue _ end.1)))
