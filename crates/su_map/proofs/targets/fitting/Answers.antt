-- A cell fits a target whose cell there is the constant, or the image that the head gives the variable, or what the target has at the first cell of the variable; a first cell fits everything.
use Rattle.std.proofs.Common.{◌≡◌, ◌∙◌, ◌^◌, length, refl, sym, ap, get_or, arith}
use Rattle.std.specs.Int.{bit_at}
use Rattle.su_base.proofs.Items.{get_or-is}
use Rattle.su_tableau.specs.declared.symbols.Sym.{Sym}
use Rattle.su_tableau.specs.declared.symbols.Sym.TheVariants.{Const, Var}
use Rattle.su_map.specs.Lists.{row_of}
use Rattle.su_map.specs.inside.Targets.{CellFits, HoldsAt, AlikeAt}
use Rattle.su_map.proofs.Cells.{cell_read, const_fits, head_fits, alike_fits, among_same, plain_first}
use Rattle.su_map.proofs.Members.{full_member}
use Rattle.su_map.proofs.targets.fitting.Goals as goal

pub returns-in-Const : goal.returns-in-Const
returns-in-Const c =
    let to = c.args.to.now in let head = c.args.head.now in let row = c.args.row.now in let column = c.args.column in
    let x = c.index-row-column-in-Const.result in
    let cell = cell_read row column c.index-row-column.result (Const c.in-Const.field-0) c.requires.column c.index-row-column.is c.in-Const.is in
    among_same (length to.rows) (λ j. bit_at c.args.set j ≡ 1) (HoldsAt to column x) (λ j. CellFits head to.head row (row_of to j) column) (λ j. bit_at c.holding.result j ≡ 1) c.holding.ensures
    (λ j. const_fits head to.head row (row_of to j) column x c.in-Const.field-0 cell (c.index-row-column-in-Const.is ∙ cell.is x))

pub returns-in-Some : goal.returns-in-Some
returns-in-Some c =
    let to = c.args.to.now in let head = c.args.head.now in let row = c.args.row.now in let column = c.args.column in
    let x = c.index-head-place.result in
    let cell = cell_read row column c.index-row-column.result (Var c.in-Var.k) c.requires.column c.index-row-column.is c.in-Var.is in
    let first = c.in-Some.ensures.some in
    let below = first.cell.below in
    let same = ap length c.head.ensures in
    let there : (d : Sym) → get_or to.head c.in-Some.place d ≡ x = λ d. ap (λ r. get_or r c.in-Some.place d) (sym c.head.ensures) ∙ get_or-is c.head.result.now c.in-Some.place x d (omega arith) c.index-head-place.is in
    among_same (length to.rows) (λ j. bit_at c.args.set j ≡ 1) (HoldsAt to column x) (λ j. CellFits head to.head row (row_of to j) column) (λ j. bit_at c.holding-in-Some.result j ≡ 1) c.holding-in-Some.ensures
    (λ j. head_fits head to.head row (row_of to j) column c.in-Some.place c.in-Var.k x cell first there)

pub returns-then-not-repeats : goal.returns-then-not-repeats
returns-then-not-repeats c =
    let to = c.args.to.now in let head = c.args.head.now in let row = c.args.row.now in let column = c.args.column in
    let cell = cell_read row column c.index-row-column.result (Var c.in-Var.k) c.requires.column c.index-row-column.is c.in-Var.is in
    let first = plain_first row column c.in-Var.k (c.requires.plain c.if-not-repeats.true) cell in
    λ j.
    let f = full_member c.full.result (length to.rows) j (c.full.ensures ∙ ap (λ n. 2 ^ n) c.row_count.ensures.is) in
    let b = c.both.ensures j in
    let fits = (alike_fits head to.head row (row_of to j) column column c.in-Var.k cell (c.in-None.ensures.none refl) first).0 (λ d. refl) in (
      λ h. let r = b.0 h in (f.0 r.1, r.0, fits),
      λ h. b.1 (h.1, f.1 h.0),
    )

pub returns-in-Some-column_of : goal.returns-in-Some-column_of
returns-in-Some-column_of c =
    let to = c.args.to.now in let head = c.args.head.now in let row = c.args.row.now in let column = c.args.column in
    let cell = cell_read row column c.index-row-column.result (Var c.in-Var.k) c.requires.column c.index-row-column.is c.in-Var.is in
    let first = c.in-Some-column_of.ensures.some in
    among_same (length to.rows) (λ j. bit_at c.args.set j ≡ 1) (AlikeAt to c.in-Some-column_of.first column) (λ j. CellFits head to.head row (row_of to j) column) (λ j. bit_at c.alike.result j ≡ 1) c.alike.ensures
    (λ j. alike_fits head to.head row (row_of to j) column c.in-Some-column_of.first c.in-Var.k cell (c.in-None.ensures.none refl) first)
