-- A constant fits the same constant and a variable fits what the target has at its first cell; so a cell is judged by one comparison.
use Rattle.std.proofs.Common.{◌≡◌, [], get_or, sym, ◌∙◌, arith}
use Rattle.su_base.proofs.Items.{get_or-is}
use Rattle.su_tableau.specs.declared.symbols.Sym.{Sym}
use Rattle.su_tableau.specs.declared.symbols.Sym.TheVariants.{Const, Var}
use Rattle.su_map.proofs.Cells.{cell_read, const_fits, alike_fits}
use Rattle.su_map.proofs.columns.cell_fits.Goals as goal

pub returns-in-Const : goal.returns-in-Const
returns-in-Const c =
    let line = c.args.line.now in let target = c.args.target.now in let column = c.args.column in
    let x = c.index-line-column-in-Const.result in
    let cell = cell_read line column c.index-line-column.result (Const c.in-Const.field-0) c.requires.column c.index-line-column.is c.in-Const.is in
    let f = const_fits [] [] line target column x c.in-Const.field-0 cell (c.index-line-column-in-Const.is ∙ cell.is x) in
    let there : (d : Sym) → get_or target column d ≡ c.index-target-column.result = λ d. get_or-is target column c.index-target-column.result d (omega arith) c.index-target-column.is in
    (λ yes. f.0 (λ d. there d ∙ c.same.ensures.0 yes), λ fit. c.same.ensures.1 (sym (there x) ∙ f.1 fit x))

pub returns-in-Some : goal.returns-in-Some
returns-in-Some c =
    let line = c.args.line.now in let target = c.args.target.now in let column = c.args.column in
    let cell = cell_read line column c.index-line-column.result (Var c.in-Var.k) c.requires.column c.index-line-column.is c.in-Var.is in
    let first = c.in-Some.ensures.some in
    let below = first.cell.below in
    let f = alike_fits [] [] line target column c.in-Some.first c.in-Var.k cell (λ h. absurd (let l = h.1 in omega arith)) first in
    let y = c.index-target-column-in-Some.result in
    let there : (d : Sym) → get_or target column d ≡ y = λ d. get_or-is target column y d (omega arith) c.index-target-column-in-Some.is in
    let here : (d : Sym) → get_or target c.in-Some.first d ≡ c.index-target-first.result = λ d. get_or-is target c.in-Some.first c.index-target-first.result d (omega arith) c.index-target-first.is in
    (λ yes. f.0 (λ d. here d ∙ sym (c.same-in-Some.ensures.0 yes) ∙ sym (there d)), λ fit. c.same-in-Some.ensures.1 (sym (there y) ∙ sym (f.1 fit y) ∙ here y))
