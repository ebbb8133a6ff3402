-- What was read are the lines of the rows so far, and any list that the symbols spell has these as a front; a sign that opens shows that it has a further row, and none that it ends.
use Rattle.std.proofs.Common.{◌∷◌, All, refl, sym, ap, subst, ◌∙◌, Err}
use Rattle.std.proofs.lemmas.List.Elements.{All-push}
use Rattle.std.proofs.lemmas.Result.{err_from_is_err_and}
use Rattle.su_lex.specs.declared.meaning.Symbol.TheVariants.{Sign}
use Rattle.su_lex.specs.declared.signs.Sign.TheVariants as sign
use Rattle.su_check.specs.Grammar.{row_line}
use Rattle.su_check.specs.inside.LineReaders.{IsRow, row_before}
use Rattle.su_check.proofs.OneCertificate.{row_at}
use Rattle.su_check.proofs.Runs.{flat_push, lead_next, lead_none, left_on, gives_on}
use Rattle.su_check.proofs.lines.rows.Goals as goal

pub returns-in_err-row-clause-only : goal.returns-in_err-row-clause-only
returns-in_err-row-clause-only c = λ all r are none e.
    let p = err_from_is_err_and c.from_residual.result c.from_residual.ensures.1 in
    let m = lead_next row_line (IsRow c.args.width) (Sign sign.Open) row_before row_at all c.loop-rows.rows c.loop-rows.reader _ r (c.loop-rows.invariant.left all r are none e) (c.loop-rows-test.ensures.yes refl) none in
    gives_on _ _ c.in_err-row.field-0.0 c.from_residual.result (p.1 ∙ ap Err p.2) (c.in_err-row.ensures.only m.0 m.2 m.1 m.3)

pub loop-rows-preserved : goal.loop-rows-preserved
loop-rows-preserved c =
    let row = c.in_ok-row.field-0 in
    let here = c.loop-rows-test.ensures.yes refl in
    record {
      whole = rw c.in_ok-push.ensures.ok
          (flat_push row_line c.loop-rows.rows row c.args.reader.now c.loop-rows.reader c.row.new.reader c.loop-rows.invariant.whole (here ∙ ap (λ s. Sign sign.Open ∷ s) c.in_ok-row.ensures.found.0 ∙ sym (row_at row _)));
      are = subst (All (IsRow c.args.width)) (sym c.in_ok-push.ensures.ok) (All-push (IsRow c.args.width) c.loop-rows.rows row c.loop-rows.invariant.are c.in_ok-row.ensures.found.1);
      left = λ all r are none e.
          let m = lead_next row_line (IsRow c.args.width) (Sign sign.Open) row_before row_at all c.loop-rows.rows c.loop-rows.reader _ r (c.loop-rows.invariant.left all r are none e) here none in
          left_on row_line (IsRow c.args.width) all c.loop-rows.rows c.push.new.self m.0 row m.2 _ r m.4 c.in_ok-push.ensures.ok (c.in_ok-row.ensures.only m.0 m.2 m.1 m.3);
    }

pub returns-clause-only : goal.returns-clause-only
returns-clause-only c = λ all r are none e.
    let end = c.loop-rows-test.ensures.no refl in
    let m = lead_none row_line (IsRow c.args.width) (Sign sign.Open) row_before row_at all c.loop-rows.rows c.loop-rows.reader r (c.loop-rows.invariant.left all r are none e) end.1 in
    (m.0, end.0 ∙ m.1)
