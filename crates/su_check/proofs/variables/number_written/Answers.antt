-- A number below the bound is parsed from its own decimal, so what is parsed and written again tells whether the digits were that decimal.
use Rattle.std.proofs.Common.{◌≡◌, decimal, Ok, sym, ap, ◌∙◌, true≢false, arith}
use Rattle.std.proofs.lemmas.Fmt.{parse-decimal}
use Rattle.su_check.proofs.variables.number_written.Goals as goal

pub returns-in_default : goal.returns-in_default
returns-in_default c = λ k h e. c.in_default.not-Ok k (parse-decimal 32 k c.args.digits.now c.parse.result h (omega arith) e c.parse.ensures.value.0)

pub returns : goal.returns
returns c = λ k h e.
    let r : c.parse.result ≡ Ok k = parse-decimal 32 k c.args.digits.now c.parse.result h (omega arith) e c.parse.ensures.value.0 in
    let i = c.in-Ok.is in
    let n : c.in-Ok.number ≡ k = cc in
    let text = c.as_str.ensures.value ∙ c.in_ok-written.ensures.ok ∙ ap decimal n ∙ sym e in
    true≢false (sym (c.same.ensures.1 text) ∙ c.if-same.false)
