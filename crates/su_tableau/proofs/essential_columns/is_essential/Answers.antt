-- A cell is essential by what its symbol is: a constant is, and a variable is where the head has it or another cell of the masked rows does.
use Rattle.std.proofs.Common.{refl, sym, ◌∙◌, subst, Contains, None, true≢false}
use Rattle.su_tableau.specs.declared.symbols.Sym.TheVariants.{Const, Var}
use Rattle.su_tableau.specs.Essential.{HasSymbol, constant, in_head, twice}
use Rattle.su_tableau.specs.inside.Elsewhere.{StandsElsewhere}
use Rattle.su_tableau.proofs.EssentialCells.{cell_holds, contains_stands, stands_contains, essential_else}
use Rattle.su_tableau.proofs.essential_columns.is_essential.Goals as goal
use Rattle.su_tableau.proofs.essential_columns.is_essential.Goals.{In-Var}

pub returns-in-Const : goal.returns-in-Const
returns-in-Const c = (
  λ yes. constant c.in-Const.field-0 (cell_holds c.args.t.now c.args.mask c.args.row c.args.column c.cell.result.now (Const c.in-Const.field-0) c.keeps_its_rules.ensures.valid.widths c.requires.row c.requires.in_mask c.requires.column c.cell.ensures c.in-Const.is),
  λ e. refl,
)

var_holds : (c : In-Var) → HasSymbol c.args.t.now c.args.mask c.args.row c.args.column (Var c.in-Var.k)
var_holds c = cell_holds c.args.t.now c.args.mask c.args.row c.args.column c.cell.result.now (Var c.in-Var.k) c.keeps_its_rules.ensures.valid.widths c.requires.row c.requires.in_mask c.requires.column c.cell.ensures c.in-Var.is

pub returns-then-stands_in : goal.returns-then-stands_in
returns-then-stands_in c = (
  λ yes. in_head c.in-Var.k (var_holds (goal.at.returns-then-stands_in c).In-Var) (stands_contains c.args.t.now.head c.in-Var.k None (subst (λ r. StandsElsewhere r c.in-Var.k None) c.head.ensures (c.stands_in.ensures.0 yes))),
  λ e. c.if-stands_in.true,
)

pub returns-else-stands_in : goal.returns-else-stands_in
returns-else-stands_in c =
    let here = var_holds (goal.at.returns-else-stands_in c).In-Var in (
      λ yes. twice c.in-Var.k here (c.stands_elsewhere.ensures.0 yes),
      λ e.
          let none : Contains c.args.t.now.head (Var c.in-Var.k) → ⊥ = λ has.
          true≢false (sym (c.stands_in.ensures.1 (subst (λ r. StandsElsewhere r c.in-Var.k None) (sym c.head.ensures) (contains_stands c.args.t.now.head c.in-Var.k has))) ∙ c.if-stands_in.false) in
          c.stands_elsewhere.ensures.1 (essential_else c.args.t.now c.args.mask c.args.row c.args.column c.in-Var.k here none e),
    )
