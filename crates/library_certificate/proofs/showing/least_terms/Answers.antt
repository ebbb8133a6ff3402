-- A yes shows what its certificate says; behind a no there is no yes, since bytes have one verdict.
use Rattle.std.proofs.Common.{subst}
use Rattle.su_check.specs.declared.verdicts.Checked.{Checked}
use Rattle.su_check.specs.declared.verdicts.Checked.TheVariants.{No}
use Rattle.su_check.specs.Verdict.{IsVerdict}
use Rattle.library_certificate.proofs.Shown.{yes_shows, no_is_no_yes}
use Rattle.library_certificate.proofs.showing.least_terms.Goals as goal

pub returns-in-Yes-clause-shows : goal.returns-in-Yes-clause-shows
returns-in-Yes-clause-shows c =
    let bytes = c.args.bytes.now in
    let n = c.in-Yes.terms in
    yes_shows bytes n (subst (λ (v : Checked). IsVerdict bytes v) c.in-Yes.is c.in_ok-terms.ensures.verdict) (c.in_ok-terms.ensures.least n c.in-Yes.is)

pub returns-in-No-clause-none : goal.returns-in-No-clause-none
returns-in-No-clause-none c = λ none n other.
    let bytes = c.args.bytes.now in
    let v = No c.in-No.field-0 in
    no_is_no_yes bytes n v (λ it. it) (λ w. c.bytes_have_one_verdict.ensures bytes v w) (subst (λ (v : Checked). IsVerdict bytes v) c.in-No.is c.in_ok-terms.ensures.verdict) other
