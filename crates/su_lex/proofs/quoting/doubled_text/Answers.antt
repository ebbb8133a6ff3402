-- The text is a quote, the content so far with its quotes doubled, and the rest; a lone quote closes it, so it is a token, and one that never closes is none.
use Rattle.std.proofs.Common.{◌≡◌, ◌-◌, ◌+◌, Err, sym, ap, arith, length, length-append, drop}
use Rattle.std.proofs.lemmas.List.{take_rest}
use Rattle.std.proofs.lemmas.Result.{err_from_is_err_and}
use Rattle.su_lex.specs.declared.ends.LexEnd.TheVariants.{Syntax}
use Rattle.su_lex.specs.TokenForms.{doubled}
use Rattle.su_lex.proofs.Quotes.{grows, piece_content, piece_close, piece_missing, text_no_end, text_refused, text_found}
use Rattle.su_lex.proofs.quoting.doubled_text.Goals as goal

pub loop-b-preserved : goal.loop-b-preserved
loop-b-preserved c =
    rw (c.in_ok-push-in-Content.ensures.items, c.width.ensures, take_rest)
    (grows c.args.text.now c.loop-b.content.items c.loop-b.rest.now _ c.in-Content.b c.loop-b.invariant (piece_content c.loop-b.rest.now c.in-Content.b (sym c.in-Content.ensures)))

pub returns-in-Missing-clause-none : goal.returns-in-Missing-clause-none
returns-in-Missing-clause-none c = λ _. text_no_end c.args.text.now c.loop-b.content.items c.loop-b.rest.now c.requires c.loop-b.invariant (piece_missing c.loop-b.rest.now (sym c.in-Missing.ensures))

pub returns-in_err-kind-clause-none : goal.returns-in_err-kind-clause-none
returns-in_err-kind-clause-none c =
    let e = piece_close c.loop-b.rest.now (sym c.in-Close.ensures) in
    let p = err_from_is_err_and c.from_residual-in_err-kind.result c.from_residual-in_err-kind.ensures.1 in
    let bad = rw c.as_slice.ensures.value at c.in_err-kind.ensures.none in
    rw (p.1, p.2) (λ s. let h : c.in_err-kind.field-0.0 ≡ Syntax = cc in
    text_refused c.args.text.now c.loop-b.content.items c.loop-b.rest.now (drop 1 c.loop-b.rest.now) c.requires c.loop-b.invariant e.0 e.1 (bad (ap Err h)))

pub returns-clause-found : goal.returns-clause-found
returns-clause-found c =
    let e = piece_close c.loop-b.rest.now (sym c.in-Close.ensures) in
    let is = rw c.as_slice.ensures.value at c.in_ok-kind.ensures.found in
    let count : (length c.args.text.now - length c.loop-b.rest.now + 1) + length c.loop-b.rest.now ≡ length c.args.text.now + 1 =
    omega (arith, ap length c.loop-b.invariant, length-append (doubled c.loop-b.content.items) c.loop-b.rest.now) in
    rw is.0
    (text_found c.args.text.now c.loop-b.content.items c.loop-b.rest.now (drop 1 c.loop-b.rest.now) (length c.args.text.now - length c.loop-b.rest.now + 1) c.loop-b.invariant e.0 e.1 is.1 is.2 count)
