-- The tests are the conditions of a good form one by one, so one that fails refutes it, and after all of them a board exists just where the head's variables stand in rows.
use Rattle.std.proofs.Common.{◌<◌, ◌≤◌, ℕ, length, All, Contains, ◌↔◌, refl, sym, subst}
use Rattle.std.specs.Option.{MatchOption}
use Rattle.std.proofs.lemmas.Result.{IfOk-weaker}
use Rattle.su_base.specs.Lists.{IsAscending}
use Rattle.su_tableau.specs.declared.symbols.Sym.TheVariants.{Var}
use Rattle.su_tableau.specs.Tableaux.{Occurs}
use Rattle.su_check.specs.inside.Boards.{IsBoard}
use Rattle.su_check.specs.inside.Cells.{AreTyped}
use Rattle.su_check.specs.Certificate.{lines_of, IsGoodForm}
use Rattle.su_check.proofs.WellTyped.{form_from, form_option, wide_as}
use Rattle.su_check.proofs.forms.board_of_form.Goals as goal

pub returns : goal.returns
returns c =
    let kinds = c.args.kinds.now in let x = c.args.term.now in let i = c.args.place in
    let rows = c.as_slice-rows.ensures in let kept = c.as_slice-kept.ensures in
    let few : length x.rows ≤ 64 = subst (λ r. length r ≤ 64) rows c.if-rows-gt64.false in
    let wide = wide_as _ _ _ _ rows refl (c.are_wide.ensures.0 c.if-not-are_wide.false) in
    let typed = subst (AreTyped kinds) rows (c.in_ok-are_typed.ensures.0 c.if-not-branch.false) in
    let up = subst IsAscending kept (c.is_ascending.ensures.0 c.if-not-is_ascending.false) in
    let below = subst (λ ks. All (λ k. k < length x.rows) ks) kept (subst (λ r. All (λ k. k < length r) c.as_slice-kept.result.now) rows (c.are_below.ensures.0 c.if-not-are_below.false)) in
    IfOk-weaker c.board_of.result (λ o. MatchOption o (¬ ((k : ℕ) → Contains x.head (Var k) → Occurs x.rows k)) (λ b. IsBoard (lines_of x) b × ((k : ℕ) → Contains x.head (Var k) → Occurs x.rows k)))
    (λ o. MatchOption o (¬ (IsGoodForm kinds i x)) (λ b. IsGoodForm kinds i x × IsBoard (lines_of x) b))
    (λ o m. form_option kinds i x o (λ occurs. form_from kinds i x wide c.if-term-place.false few occurs typed up below) m) c.board_of.ensures

pub are_typed-requires-clause-there : goal.are_typed-requires-clause-there
are_typed-requires-clause-there c = λ k has. subst (λ v. Contains v k) (sym c.as_slice.ensures) ((c.in_ok-variables.ensures.all k).1 has)

pub board_of-requires-clause-all : goal.board_of-requires-clause-all
board_of-requires-clause-all c = λ k. subst (λ r. Contains c.in_ok-variables.variables k ↔ Occurs r k) c.as_slice-rows.ensures (c.in_ok-variables.ensures.all k)
