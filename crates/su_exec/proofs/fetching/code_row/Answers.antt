-- The codes so far stand for the values at the first cells so far, and stay right as the codes grow.
use Rattle.std.proofs.Common.{◌<◌, ◌++◌, ◌∷◌, [], List, ℕ, length, get_or, take, map, sym, ap, subst, ◌∙◌, arith}
use Rattle.std.specs.Prelude.{pos}
use Rattle.std.proofs.lemmas.List.{map_more}
use Rattle.std.proofs.lemmas.List.Elements.{All-nil}
use Rattle.su_base.specs.declared.values.Value.{Value}
use Rattle.su_base.specs.declared.values.Value.TheVariants.{Int}
use Rattle.su_reduce.specs.Codes.{decode, Extends}
use Rattle.su_exec.specs.inside.Coded.{picked}
use Rattle.su_reduce.specs.Sheets.{AreBelow}
use Rattle.su_exec.specs.Outputs.{values_at}
use Rattle.su_reduce.proofs.CodeExtensions.{extends_self, extends_then, row_more, values_more}
use Rattle.su_exec.proofs.fetching.code_row.Goals as goal

pub loop-first-init : goal.loop-first-init
loop-first-init c = record {
  codes = extends_self c.args.codes.now;
  coded = subst (λ (xs : List ℕ). AreBelow xs (length c.args.codes.now)) (sym c.requires.empty) (All-nil (λ p. p < length c.args.codes.now));
  values = ap (map (decode c.args.codes.now)) c.requires.empty;
}

pub loop-first-preserved : goal.loop-first-preserved
loop-first-preserved c =
    let start : List Value = c.args.codes.now in
    let olds : List Value = c.loop-first.codes in
    let news : List Value = c.code.new.self in
    let cells = c.loop-first.cells.items in
    let ps = c.args.firsts.now in
    let i = c.loop-first.first-index in
    let xs = values_at c.args.columns.now c.args.stored.now in
    let I : Value = Int (pos 0) in
    let value : Value = c.value_at.result.now in
    let code = c.in_ok-code.code in
    let test = c.loop-first-test.true in
    let more : Extends olds news = c.in_ok-code.ensures.extends in
    record {
      codes = extends_then start olds news c.loop-first.invariant.codes more;
      coded = rw c.in_ok-push.ensures.items (row_more olds news cells code value more c.loop-first.invariant.coded c.in_ok-code.ensures.code);
      values = rw c.in_ok-push.ensures.items (
          values_more olds news cells code value more c.loop-first.invariant.coded c.in_ok-code.ensures.code ∙ ap (λ ys. ys ++ value ∷ []) c.loop-first.invariant.values ∙ ap (λ v. picked (take i ps) xs ++ v ∷ []) c.value_at.ensures
          ∙ sym (map_more (λ p. get_or xs p I) ps i 0 (omega arith)));
    }
