-- Bytes without a quote are their own doubled form, so the quote behind them closes the text; two quotes leave the case to the slow way, and no quote means no token.
use Rattle.std.proofs.Common.{◌≡◌, ◌+◌, Err, refl, sym, ap, arith, length, length-drop, take, drop}
use Rattle.std.proofs.lemmas.List.{take_rest}
use Rattle.std.proofs.lemmas.Result.{err_from_is_err_and}
use Rattle.su_lex.specs.declared.ends.LexEnd.TheVariants.{Syntax}
use Rattle.su_lex.proofs.Quotes.{piece_close, piece_missing, text_no_end, text_refused, text_found, text_run, text_start}
use Rattle.su_lex.proofs.quoting.quoted_text.Goals as goal

pub returns-in_err-kind-in-Close-clause-none : goal.returns-in_err-kind-in-Close-clause-none
returns-in_err-kind-in-Close-clause-none c =
    let text = c.args.text.now in
    let n = c.unquoted_bytes-n.result in
    let behind = drop 1 text in
    let whole = text_run text behind n c.requires refl (rw take_rest at c.unquoted_bytes-n.ensures.count) in
    let e = piece_close (drop n behind) (sym (rw (take_rest, take_rest) at c.in-Close.ensures)) in
    let bad = rw take_rest at c.in_err-kind-in-Close.ensures.none in
    let p = err_from_is_err_and c.from_residual.result c.from_residual.ensures.1 in
    rw (p.1, p.2) (λ s. let h : c.in_err-kind-in-Close.field-0.0 ≡ Syntax = cc in
    text_refused text (take n behind) (drop n behind) (drop 1 (drop n behind)) c.requires whole e.0 e.1 (bad (ap Err h)))

pub returns-in_ok-kind-in-Close-clause-found : goal.returns-in_ok-kind-in-Close-clause-found
returns-in_ok-kind-in-Close-clause-found c =
    let text = c.args.text.now in
    let n = c.unquoted_bytes-n.result in
    let behind = drop 1 text in
    let whole = text_run text behind n c.requires refl (rw take_rest at c.unquoted_bytes-n.ensures.count) in
    let e = piece_close (drop n behind) (sym (rw (take_rest, take_rest) at c.in-Close.ensures)) in
    let is = rw take_rest at c.in_ok-kind-in-Close.ensures.found in
    rw is.0 (text_found text (take n behind) (drop n behind) (drop 1 (drop n behind)) (n + 2) whole e.0 e.1 is.1 is.2 (omega (arith, rw take_rest at c.unquoted_bytes-n.ensures.within, length-drop n behind, ap length (text_start text c.requires))))

pub returns-in-Missing-clause-none : goal.returns-in-Missing-clause-none
returns-in-Missing-clause-none c =
    let text = c.args.text.now in
    let n = c.unquoted_bytes-n.result in
    let behind = drop 1 text in
    let whole = text_run text behind n c.requires refl (rw take_rest at c.unquoted_bytes-n.ensures.count) in
    λ _. text_no_end text (take n behind) (drop n behind) c.requires whole (piece_missing (drop n behind) (sym (rw (take_rest, take_rest) at c.in-Missing.ensures)))
