-- The parts so far and any that may follow are a condition from the start, and a condition from the start begins with the parts so far: so where the next part fails no condition is read, and where no `or` or `and` follows the parts are all.
use Rattle.std.proofs.Common.{◌≡◌, ◌∷◌, ◌++◌, [], sym, refl, ap, ◌∙◌, append_assoc, Err}
use Rattle.std.proofs.lemmas.Result.{err_from_is_err_and, IfOk-weaker}
use Rattle.su_query.specs.inside.ReadConditions as g
use Rattle.su_lex.specs.declared.ends.LexEnd.TheVariants.{Syntax}
use Rattle.su_query.specs.inside.ReadConditions.{ReadsFactor, ReadsPrimary, ReadsComparison}
use Rattle.su_query.proofs.Steps.{or_first, or_first_only, or_next, or_next_only, or_next_none, or_last, or_all, or_parts, and_first, and_first_only, and_next, and_next_only, and_next_none, and_last, and_all, and_parts, not_none, open_none, close_none, compared_none, shorter_step}
use Rattle.su_query.proofs.conds.+reader.Goals as goal

pub cond-loop-parts-init : goal.cond-loop-parts-init
cond-loop-parts-init t c =
    let parts = rw c.new-parts.ensures at c.in_ok-push.ensures.ok in
    record {
      shorter = c.in_ok-conj.ensures.shorter;
      before = or_first _ c.in_ok-conj.field-0 _ _ parts c.in_ok-conj.ensures.found;
      only = or_first_only _ c.in_ok-conj.field-0 _ _ parts c.in_ok-conj.ensures.found;
    }

pub cond-returns-in_err-conj-2-clause-syntax : goal.cond-returns-in_err-conj-2-clause-syntax
cond-returns-in_err-conj-2-clause-syntax t c =
    let p = err_from_is_err_and c.from_residual-in_err-conj-2.result c.from_residual-in_err-conj-2.ensures.1 in
    rw (p.1, p.2) (λ s d r all.
    let h : c.in_err-conj-2.field-0.0 ≡ Syntax = cc in
    let parts = or_parts d _ r all in
    let m = c.loop-parts.invariant.only parts.0 r parts.1 in
    or_next_none _ _ (c.loop-parts-test.ensures.yes refl) (c.in_err-conj-2.ensures.syntax (ap Err h)) m.0 r m.2)

pub cond-loop-parts-preserved : goal.cond-loop-parts-preserved
cond-loop-parts-preserved t c =
    let d = c.in_ok-conj-2.field-0 in
    let found = c.in_ok-conj-2.ensures.found in
    let here = c.loop-parts-test.ensures.yes refl in
    record {
      shorter = shorter_step _ _ _ _ _ here c.in_ok-conj-2.ensures.shorter c.loop-parts.invariant.shorter;
      before = λ more r hs. rw (c.in_ok-push-2.ensures.ok, append_assoc) (c.loop-parts.invariant.before (d ∷ more) r (or_next d _ _ _ here found more r hs));
      only = λ all r hs.
          let m = c.loop-parts.invariant.only all r hs in
          let n = or_next_only d _ _ _ here found m.0 r m.2 in
          (n.0, m.1 ∙ ap (λ x. c.loop-parts.parts ++ x) n.1 ∙ sym (append_assoc c.loop-parts.parts (d ∷ []) n.0) ∙ ap (λ x. x ++ n.0) (sym c.in_ok-push-2.ensures.ok), n.2);
    }

pub cond-returns-clause-found : goal.cond-returns-clause-found
cond-returns-clause-found t c =
    let last = c.loop-parts-test.ensures.no refl in
    rw last.0 (or_all _ c.loop-parts.parts _ _ c.any_of.ensures (c.loop-parts.invariant.before [] _ (or_last _ last.1)))

pub conj-loop-parts-init : goal.conj-loop-parts-init
conj-loop-parts-init t c =
    let parts = rw c.new-parts.ensures at c.in_ok-push.ensures.ok in
    record {
      shorter = c.in_ok-factor.ensures.shorter;
      before = and_first _ c.in_ok-factor.field-0 _ _ parts c.in_ok-factor.ensures.found;
      only = and_first_only _ c.in_ok-factor.field-0 _ _ parts c.in_ok-factor.ensures.found;
    }

pub conj-returns-in_err-factor-2-clause-syntax : goal.conj-returns-in_err-factor-2-clause-syntax
conj-returns-in_err-factor-2-clause-syntax t c =
    let p = err_from_is_err_and c.from_residual-in_err-factor-2.result c.from_residual-in_err-factor-2.ensures.1 in
    rw (p.1, p.2) (λ s d r all.
    let h : c.in_err-factor-2.field-0.0 ≡ Syntax = cc in
    let parts = and_parts d _ r all in
    let m = c.loop-parts.invariant.only parts.0 r parts.1 in
    and_next_none _ _ (c.loop-parts-test.ensures.yes refl) (c.in_err-factor-2.ensures.syntax (ap Err h)) m.0 r m.2)

pub conj-loop-parts-preserved : goal.conj-loop-parts-preserved
conj-loop-parts-preserved t c =
    let d = c.in_ok-factor-2.field-0 in
    let found = c.in_ok-factor-2.ensures.found in
    let here = c.loop-parts-test.ensures.yes refl in
    record {
      shorter = shorter_step _ _ _ _ _ here c.in_ok-factor-2.ensures.shorter c.loop-parts.invariant.shorter;
      before = λ more r hs. rw (c.in_ok-push-2.ensures.ok, append_assoc) (c.loop-parts.invariant.before (d ∷ more) r (and_next d _ _ _ here found more r hs));
      only = λ all r hs.
          let m = c.loop-parts.invariant.only all r hs in
          let n = and_next_only d _ _ _ here found m.0 r m.2 in
          (n.0, m.1 ∙ ap (λ x. c.loop-parts.parts ++ x) n.1 ∙ sym (append_assoc c.loop-parts.parts (d ∷ []) n.0) ∙ ap (λ x. x ++ n.0) (sym c.in_ok-push-2.ensures.ok), n.2);
    }

pub conj-returns-clause-found : goal.conj-returns-clause-found
conj-returns-clause-found t c =
    let last = c.loop-parts-test.ensures.no refl in
    rw last.0 (and_all _ c.loop-parts.parts _ _ c.all_of.ensures (c.loop-parts.invariant.before [] _ (and_last _ last.1)))

pub factor-returns-then-takes_word-clause-found : goal.factor-returns-then-takes_word-clause-found
factor-returns-then-takes_word-clause-found t c =
    rw c.in_ok-new.ensures (g.negated _ c.in_ok-inner.inner _ _ _ refl (c.if-takes_word.ensures.yes refl) c.in_ok-inner.ensures.found)

pub factor-returns-clause-found : goal.factor-returns-clause-found
factor-returns-clause-found t c =
    let here = c.if-takes_word.ensures.no refl in
    let s = c.args.reader.now in
    let r = c.primary-2.new.reader in
    IfOk-weaker c.primary-2.result (λ d. ReadsPrimary d s r) (λ d. ReadsFactor d s r) (λ d h. g.plain d s r h) (rw here.0 at c.primary-2.ensures.found)

pub primary-returns-then-takes_sign-2-clause-found : goal.primary-returns-then-takes_sign-2-clause-found
primary-returns-then-takes_sign-2-clause-found t c =
    g.nested _ _ _ _ _ (c.if-takes_sign.ensures.yes refl) c.in_ok-inner.ensures.found (c.if-takes_sign-2.ensures.yes refl)

pub primary-returns-then-takes_sign-clause-syntax : goal.primary-returns-then-takes_sign-clause-syntax
primary-returns-then-takes_sign-clause-syntax t c =
    λ _. close_none _ _ _ c.in_ok-inner.inner (c.if-takes_sign.ensures.yes refl) c.in_ok-inner.ensures.found (c.if-takes_sign-2.ensures.no refl).1

pub primary-returns-clause-found : goal.primary-returns-clause-found
primary-returns-clause-found t c =
    let here = c.if-takes_sign.ensures.no refl in
    let s = c.args.reader.now in
    let r = c.comparison.new.reader in
    IfOk-weaker c.comparison.result (λ d. ReadsComparison d s r) (λ d. ReadsPrimary d s r) (λ d h. g.compare d s r h) (rw here.0 at c.comparison.ensures.found)

pub primary-returns-clause-syntax : goal.primary-returns-clause-syntax
primary-returns-clause-syntax t c =
    let here = c.if-takes_sign.ensures.no refl in
    let bad = rw here.0 at c.comparison.ensures.syntax in
    λ s. compared_none c.args.reader.now here.1 (bad s)

pub factor-returns-in_err-inner-clause-syntax : goal.factor-returns-in_err-inner-clause-syntax
factor-returns-in_err-inner-clause-syntax t c =
    let p = err_from_is_err_and c.from_residual.result c.from_residual.ensures.1 in
    rw (p.1, p.2) (λ s d r.
    let h : c.in_err-inner.field-0.0 ≡ Syntax = cc in
    not_none c.args.reader.now c.takes_word.new.self (c.if-takes_word.ensures.yes refl) (c.in_err-inner.ensures.syntax (ap Err h)) d r)

pub primary-returns-in_err-inner-clause-syntax : goal.primary-returns-in_err-inner-clause-syntax
primary-returns-in_err-inner-clause-syntax t c =
    let p = err_from_is_err_and c.from_residual.result c.from_residual.ensures.1 in
    rw (p.1, p.2) (λ s d r.
    let h : c.in_err-inner.field-0.0 ≡ Syntax = cc in
    open_none c.args.reader.now c.takes_sign.new.self (c.if-takes_sign.ensures.yes refl) (c.in_err-inner.ensures.syntax (ap Err h)) d r)
