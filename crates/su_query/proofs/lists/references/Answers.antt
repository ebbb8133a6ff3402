-- The refs so far and any that may follow are a list from the start, and a list from the start begins with the refs so far.
use Rattle.std.proofs.Common.{◌≡◌, ◌∷◌, ◌++◌, [], sym, refl, ap, ◌∙◌, append_assoc, Err}
use Rattle.std.proofs.lemmas.Result.{err_from_is_err_and}
use Rattle.su_lex.specs.declared.ends.LexEnd.TheVariants.{Syntax}
use Rattle.su_query.specs.inside.ReadItems.{ReadsRef}
use Rattle.su_query.proofs.Items.{ref_unique}
use Rattle.su_query.proofs.Listed.{first_then, first_only, next_then, next_only, next_none, last, whole}
use Rattle.su_query.proofs.lists.references.Goals as goal

pub loop-references-init : goal.loop-references-init
loop-references-init c =
    let parts = rw c.new-references.ensures at c.in_ok-push.ensures.ok in
    record {
      before = first_then ReadsRef _ c.in_ok-reference.field-0 _ _ parts c.in_ok-reference.ensures.found;
      only = first_only ReadsRef ref_unique _ c.in_ok-reference.field-0 _ _ parts c.in_ok-reference.ensures.found;
    }

pub returns-in_err-reference-2-clause-syntax : goal.returns-in_err-reference-2-clause-syntax
returns-in_err-reference-2-clause-syntax c =
    let p = err_from_is_err_and c.from_residual-in_err-reference-2.result c.from_residual-in_err-reference-2.ensures.1 in
    rw (p.1, p.2) (λ s all r hs.
    let h : c.in_err-reference-2.field-0.0 ≡ Syntax = cc in
    let m = c.loop-references.invariant.only all r hs in
    next_none ReadsRef _ _ (c.loop-references-test.ensures.yes refl) (c.in_err-reference-2.ensures.syntax (ap Err h)) m.0 r m.2)

pub loop-references-preserved : goal.loop-references-preserved
loop-references-preserved c =
    let d = c.in_ok-reference-2.field-0 in
    let found = c.in_ok-reference-2.ensures.found in
    let here = c.loop-references-test.ensures.yes refl in
    record {
      before = λ more r hs. rw (c.in_ok-push-2.ensures.ok, append_assoc) (c.loop-references.invariant.before (d ∷ more) r (next_then ReadsRef d _ _ _ here found more r hs));
      only = λ all r hs.
          let m = c.loop-references.invariant.only all r hs in
          let n = next_only ReadsRef ref_unique d _ _ _ here found m.0 r m.2 in
          (n.0, m.1 ∙ ap (λ x. c.loop-references.references ++ x) n.1 ∙ sym (append_assoc c.loop-references.references (d ∷ []) n.0) ∙ ap (λ x. x ++ n.0) (sym c.in_ok-push-2.ensures.ok), n.2);
    }

pub returns-clause-found : goal.returns-clause-found
returns-clause-found c =
    let end = c.loop-references-test.ensures.no refl in
    rw end.0 (whole ReadsRef c.loop-references.references _ _ (c.loop-references.invariant.before [] _ (last ReadsRef _ end.1)))
