-- The symbols of a certificate determine it: each part is read as the one that any certificate of these symbols has, so a refusal contradicts there being one.
use Rattle.std.proofs.Common.{◌≡◌, length, All, codes, Err, sym, ap, subst, ◌∙◌, arith}
use Rattle.std.proofs.lemmas.Result.{err_from_is_err_and}
use Rattle.su_check.specs.Ranges.{IsTermInRange}
use Rattle.su_check.proofs.Runs.{gives_on}
use Rattle.su_check.proofs.TermSymbols.{behind_word, certificate_at, certificate_found, same_certificate, stops_terms}
use Rattle.su_check.proofs.lines.certificate.Goals as goal
use Rattle.su_check.proofs.lines.certificate.Goals.{then-width-eq0-via-then-width-eq0, then-width-eq0-via-else-width-eq0+then-len-width}

pub returns-in_err-expect_word-clause-only : goal.returns-in_err-expect_word-clause-only
returns-in_err-expect_word-clause-only c = λ d are e.
    absurd (c.in_err-expect_word.ensures.syntax (ap Err c.in_err-expect_word.ensures.refused) (_, e ∙ certificate_at d))

pub returns-in_err-width-clause-only : goal.returns-in_err-width-clause-only
returns-in_err-width-clause-only c = λ d are e.
    let p = err_from_is_err_and c.from_residual-in_err-width.result c.from_residual-in_err-width.ensures.1 in
    gives_on _ _ c.in_err-width.field-0.0 c.from_residual-in_err-width.result (p.1 ∙ ap Err p.2)
    (c.in_err-width.ensures.only (length d.kinds) _ are.most (behind_word (codes "certificate") _ _ _ c.in_ok-expect_word.ensures.found (e ∙ certificate_at d)))

pub returns-then-width-eq0-clause-only : goal.returns-then-width-eq0-clause-only
returns-then-width-eq0-clause-only c = λ d are e.
    let width = c.in_ok-width.ensures.only (length d.kinds) _ are.most (behind_word (codes "certificate") _ _ _ c.in_ok-expect_word.ensures.found (e ∙ certificate_at d)) in
    let kinds = c.in_ok-kinds.ensures.only d.kinds _ (stops_terms d.terms) (behind_word (codes "kinds") _ _ _ c.in_ok-expect_word-2.ensures.found width.1) in
    let w = width.0 in
    let k = ap length kinds.0 in
    let some = are.some in
    elim c.then-width-eq0.branch [
      | then-width-eq0-via-then-width-eq0 v ↦ let z = v.if-width-eq0.true in omega arith
      | then-width-eq0-via-else-width-eq0+then-len-width v ↦ v.if-len-width.true (v.len.ensures ∙ k ∙ sym w)
    ]

pub returns-in_err-terms-clause-only : goal.returns-in_err-terms-clause-only
returns-in_err-terms-clause-only c = λ d are e.
    let p = err_from_is_err_and c.from_residual-in_err-terms.result c.from_residual-in_err-terms.ensures.1 in
    let width = c.in_ok-width.ensures.only (length d.kinds) _ are.most (behind_word (codes "certificate") _ _ _ c.in_ok-expect_word.ensures.found (e ∙ certificate_at d)) in
    let kinds = c.in_ok-kinds.ensures.only d.kinds _ (stops_terms d.terms) (behind_word (codes "kinds") _ _ _ c.in_ok-expect_word-2.ensures.found width.1) in
    let same : length d.kinds ≡ c.len-2.result = ap length (sym kinds.0) ∙ sym c.len-2.ensures in
    gives_on _ _ c.in_err-terms.field-0.0 c.from_residual-in_err-terms.result (p.1 ∙ ap Err p.2) (c.in_err-terms.ensures.only d.terms (subst (λ w. All (IsTermInRange w) d.terms) same are.terms) kinds.1)

pub returns-in_err-end-clause-only : goal.returns-in_err-end-clause-only
returns-in_err-end-clause-only c = λ d are e.
    let width = c.in_ok-width.ensures.only (length d.kinds) _ are.most (behind_word (codes "certificate") _ _ _ c.in_ok-expect_word.ensures.found (e ∙ certificate_at d)) in
    let kinds = c.in_ok-kinds.ensures.only d.kinds _ (stops_terms d.terms) (behind_word (codes "kinds") _ _ _ c.in_ok-expect_word-2.ensures.found width.1) in
    let same : length d.kinds ≡ c.len-2.result = ap length (sym kinds.0) ∙ sym c.len-2.ensures in
    let terms = c.in_ok-terms.ensures.only d.terms (subst (λ w. All (IsTermInRange w) d.terms) same are.terms) kinds.1 in
    let none = ap length terms.1 in
    let some = c.in_err-end.ensures.syntax (ap Err c.in_err-end.ensures.refused) in
    absurd (omega (arith, none, some))

pub returns-clause-found : goal.returns-clause-found
returns-clause-found c =
    let width : length c.in_ok-kinds.kinds ≡ c.in_ok-width.width = sym c.len.ensures ∙ c.if-len-width.false in
    let most = c.in_ok-width.ensures.found.1 in (
      certificate_found (record { kinds = c.in_ok-kinds.kinds; terms = c.in_ok-terms.terms }) c.in_ok-width.width _ _ _ _ _ _ c.in_ok-expect_word.ensures.found c.in_ok-width.ensures.found.0 c.in_ok-expect_word-2.ensures.found c.in_ok-kinds.ensures.found
          c.in_ok-terms.ensures.found.0 c.in_ok-end.ensures.found width,
      record {
        some = let z = c.if-width-eq0.false in omega arith;
        most = omega arith;
        terms = subst (λ w. All (IsTermInRange w) c.in_ok-terms.terms) c.len-2.ensures c.in_ok-terms.ensures.found.1;
      },
    )

pub returns-clause-only : goal.returns-clause-only
returns-clause-only c = λ d are e.
    let width = c.in_ok-width.ensures.only (length d.kinds) _ are.most (behind_word (codes "certificate") _ _ _ c.in_ok-expect_word.ensures.found (e ∙ certificate_at d)) in
    let kinds = c.in_ok-kinds.ensures.only d.kinds _ (stops_terms d.terms) (behind_word (codes "kinds") _ _ _ c.in_ok-expect_word-2.ensures.found width.1) in
    let same : length d.kinds ≡ c.len-2.result = ap length (sym kinds.0) ∙ sym c.len-2.ensures in
    let terms = c.in_ok-terms.ensures.only d.terms (subst (λ w. All (IsTermInRange w) d.terms) same are.terms) kinds.1 in
    same_certificate d _ _ kinds.0 terms.0
