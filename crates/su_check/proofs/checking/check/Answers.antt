-- The bytes spell at most one certificate; where they spell one the verdict is that on its terms, and a certificate whose terms are all good has least ones.
use Rattle.std.proofs.Common.{◌≡◌, ℕ, length, refl, ap, arith}
use Rattle.std.proofs.lemmas.Result.{IfOk-weaker}
use Rattle.su_check.specs.Verdict.{IsVerdict, IsVerdictOn, AreLeast, no_certificate, on_certificate}
use Rattle.su_check.specs.declared.verdicts.Checked.TheVariants.{Yes}
use Rattle.su_check.proofs.Runs.{gives_none}
use Rattle.su_check.proofs.Good.{verdict_as, certificate_least}
use Rattle.su_check.proofs.Counted.{few_terms}
use Rattle.su_check.proofs.checking.check.Goals as goal

pub returns-in-Err-Syntax-clause-verdict : goal.returns-in-Err-Syntax-clause-verdict
returns-in-Err-Syntax-clause-verdict c = no_certificate (λ d is. gives_none _ c.in-Err-Syntax.field-0 c.in-Err-Syntax.field-0-is (c.in-Err-Syntax.ensures.only d is)) refl

pub verdict_of-requires : goal.verdict_of-requires
verdict_of-requires c =
    let few = few_terms c.args.bytes.now c.in-Ok.certificate c.in-Ok.ensures.found in
    let same = ap length c.as_slice-2.ensures in
    let short = c.requires.short in
    omega (arith, few, same)

pub returns-clause-verdict : goal.returns-clause-verdict
returns-clause-verdict c =
    let d = c.in-Ok.certificate in
    IfOk-weaker c.verdict_of.result (IsVerdictOn c.as_slice.result.now c.as_slice-2.result.now) (IsVerdict c.args.bytes.now)
    (λ v is. on_certificate d c.in-Ok.ensures.found (verdict_as _ _ _ _ v c.as_slice.ensures c.as_slice-2.ensures is)) c.verdict_of.ensures

pub returns-clause-least : goal.returns-clause-least
returns-clause-least c =
    let d = c.in-Ok.certificate in
    IfOk-weaker c.verdict_of.result (IsVerdictOn c.as_slice.result.now c.as_slice-2.result.now) (λ v. (n : ℕ) → v ≡ Yes n → AreLeast c.args.bytes.now)
    (λ v is n e other reads. certificate_least d other v n (c.in-Ok.ensures.only other reads) (verdict_as _ _ _ _ v c.as_slice.ensures c.as_slice-2.ensures is) e) c.verdict_of.ensures
