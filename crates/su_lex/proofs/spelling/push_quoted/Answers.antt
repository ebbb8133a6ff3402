-- What was written is the quote and the doubled bytes so far, which are a front of the quoted text, so that a refusal leaves a front behind.
use Rattle.std.proofs.Common.{◌∙◌}
use Rattle.std.proofs.lemmas.Result.{err_from_is_err_and, on_err_weaker}
use Rattle.su_lex.proofs.Printed.{quoted_more, quoted_front}
use Rattle.su_lex.proofs.spelling.push_quoted.Goals as goal

pub loop-b-preserved : goal.loop-b-preserved
loop-b-preserved c = quoted_more c.args.content.now c.args.out.now.items c.loop-b.out.items _ c.loop-b.b-index c.loop-b-test.true c.loop-b.invariant c.in_ok-push_twice.ensures.ok

pub returns-in_err-push_twice-clause-front : goal.returns-in_err-push_twice-clause-front
returns-in_err-push_twice-clause-front c =
    let p = err_from_is_err_and c.from_residual-in_err-push_twice.result c.from_residual-in_err-push_twice.ensures.1 in
    rw p.1 (quoted_front c.args.content.now c.args.out.now.items c.push_twice.new.out.items c.loop-b.b-index (c.in_err-push_twice.ensures.unchanged ∙ c.loop-b.invariant))

pub returns-clause-front : goal.returns-clause-front
returns-clause-front c =
    on_err_weaker c.push_bytes-2.result (λ e. quoted_front c.args.content.now c.args.out.now.items c.push_bytes-2.new.out.items _ (e ∙ c.loop-b.invariant)) c.push_bytes-2.ensures.unchanged
