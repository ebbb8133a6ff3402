-- The codes so far read as the values so far; codes only come to the list at its end, so what was coded before still reads as the same value.
use Rattle.std.proofs.Common.{◌<◌, ◌++◌, ◌∷◌, [], List, ℕ, length, take, map, sym, ap, subst, ◌∙◌}
use Rattle.std.proofs.lemmas.List.{take_more}
use Rattle.std.proofs.lemmas.List.Elements.{All-nil}
use Rattle.su_base.specs.declared.values.Value.{Value}
use Rattle.su_reduce.specs.Codes.{decode, Extends}
use Rattle.su_reduce.specs.Sheets.{AreBelow}
use Rattle.su_reduce.proofs.CodeExtensions.{extends_self, extends_then, row_more, values_more}
use Rattle.su_reduce.proofs.sheeting.put_codes.Goals as goal

pub loop-value-init : goal.loop-value-init
loop-value-init c = record {
  codes = extends_self c.args.codes.now;
  coded = subst (λ (xs : List ℕ). AreBelow xs (length c.args.codes.now)) (sym c.requires.empty) (All-nil (λ p. p < length c.args.codes.now));
  values = ap (map (decode c.args.codes.now)) c.requires.empty;
}

pub loop-value-preserved : goal.loop-value-preserved
loop-value-preserved c =
    let start : List Value = c.args.codes.now in
    let olds : List Value = c.loop-value.codes in
    let news : List Value = c.code.new.self in
    let cells = c.loop-value.cells.items in
    let row : List Value = c.args.row.now in
    let i = c.loop-value.value-index in
    let value : Value = c.value-item.result in
    let code = c.in_ok-code.code in
    let more : Extends olds news = c.in_ok-code.ensures.extends in
    record {
      codes = extends_then start olds news c.loop-value.invariant.codes more;
      coded = rw c.in_ok-push.ensures.items (row_more olds news cells code value more c.loop-value.invariant.coded c.in_ok-code.ensures.code);
      values = rw c.in_ok-push.ensures.items (
          values_more olds news cells code value more c.loop-value.invariant.coded c.in_ok-code.ensures.code ∙ ap (λ ys. ys ++ value ∷ []) c.loop-value.invariant.values
          ∙ ap (λ v. take i row ++ v ∷ []) c.value-item.is ∙ sym (take_more row i value c.loop-value-test.true));
    }
