-- The text is a quote, the content so far with its quotes doubled, and the rest; a lone quote closes it, so it is a token, and one that never closes is none.
use Rattle.std.proofs.Common.{drop, refl}
use Rattle.std.proofs.lemmas.List.{take_rest}
use Rattle.su_lex.proofs.Quotes.{grows, text_no_end, text_refused}
use Rattle.su_faults.proofs.quoting.quoted.Goals as goal

pub loop-b-preserved : goal.loop-b-preserved
loop-b-preserved c =
    rw (c.in_ok-push-in-Content.ensures.ok, c.width.ensures, take_rest)
    (grows c.args.text.now c.loop-b.content c.loop-b.rest.now _ c.in-Content.b c.loop-b.invariant c.in-Content.ensures)

pub returns-in-Missing : goal.returns-in-Missing
returns-in-Missing c = text_no_end c.args.text.now c.loop-b.content c.loop-b.rest.now c.requires c.loop-b.invariant c.in-Missing.ensures

pub returns : goal.returns
returns c =
    let e = c.in-Close.ensures in
    let bad = rw c.as_slice.ensures at (c.if-may_be_held.ensures.no refl) in
    text_refused c.args.text.now c.loop-b.content c.loop-b.rest.now (drop 1 c.loop-b.rest.now) c.requires c.loop-b.invariant e.0 e.1 bad
