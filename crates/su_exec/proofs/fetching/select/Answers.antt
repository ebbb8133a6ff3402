-- A stored row that fits the cells gives the codes of its values at each variable's first cell; one that doesn't fit gives nothing.
use Rattle.std.proofs.Common.{◌≡◌, List, ℕ, length, get_or, Contains, refl, sym, ap, subst, ◌∙◌, inl, inr, ⊎_elim}
use Rattle.std.specs.Prelude.{pos}
use Rattle.std.proofs.lemmas.Bool.{true≢false}
use Rattle.std.proofs.lemmas.List.{length-map}
use Rattle.su_base.specs.declared.values.Value.{Value}
use Rattle.su_base.specs.declared.values.Value.TheVariants.{Int}
use Rattle.su_reduce.specs.Codes.{decode}
use Rattle.su_exec.specs.inside.Coded.{IsTaken, picked}
use Rattle.su_reduce.specs.Sheets.{AreBelow}
use Rattle.su_exec.specs.Outputs.{values_at}
use Rattle.su_exec.proofs.GatheredRows.{gathered_none, gathered_one}
use Rattle.su_exec.proofs.CellShapes.{shape_below}
use Rattle.su_exec.proofs.fetching.select.Goals as goal

pub fits-requires-clause-length : goal.fits-requires-clause-length
fits-requires-clause-length c = length-map c.args.aim.now.source.now.columns (λ column. get_or c.args.stored.now column (Int (pos 0))) ∙ c.requires.columns

pub code_row-requires-clause-firsts : goal.code_row-requires-clause-firsts
code_row-requires-clause-firsts c =
    let shape = c.args.aim.now.shape.now in
    let firsts = shape.firsts.items in
    subst (λ (ps : List ℕ). AreBelow ps (length c.args.aim.now.source.now.columns)) (sym c.deref.ensures.value) (subst (λ n. AreBelow firsts n) (sym c.requires.columns) (shape_below c.args.aim.now.row.now.cells shape.vars.items firsts shape.places.items c.requires.shape))

pub add-requires : goal.add-requires
add-requires c =
    let xs = values_at c.args.aim.now.source.now.columns c.args.stored.now in
    ap length c.deref-2.ensures.value ∙ sym (length-map c.code_row.new.cells.items (decode c.code_row.new.codes)) ∙ ap length c.in_ok-code_row.ensures.values
    ∙ length-map c.deref.result.now (λ p. get_or xs p (Int (pos 0))) ∙ ap length c.deref.ensures.value ∙ sym c.requires.width

pub returns-then-not-fits-clause-gathered : goal.returns-then-not-fits-clause-gathered
returns-then-not-fits-clause-gathered c =
    let P : List Value → Type 0 = IsTaken c.args.aim.now.row.now.cells c.args.aim.now.shape.now.firsts.items c.args.aim.now.source.now.columns c.args.stored.now in
    gathered_none P P c.args.codes.now c.args.out.now.rows.rows c.requires.coded (λ h t. true≢false (sym (c.fits.ensures.1 (t.valuation, sym t.fits)) ∙ c.if-not-fits.true))

pub returns-clause-gathered : goal.returns-clause-gathered
returns-clause-gathered c =
    let firsts = c.args.aim.now.shape.now.firsts.items in
    let xs = values_at c.args.aim.now.source.now.columns c.args.stored.now in
    let P : List Value → Type 0 = IsTaken c.args.aim.now.row.now.cells firsts c.args.aim.now.source.now.columns c.args.stored.now in
    let news : List Value = c.code_row.new.codes in
    let cells = c.code_row.new.cells.items in
    let more = c.add.new.self.rows in
    let w = c.fits.ensures.0 c.if-not-fits.false in
    gathered_one P c.args.codes.now news c.args.out.now.rows.rows more cells (picked firsts xs) c.requires.coded c.in_ok-code_row.ensures.codes c.in_ok-code_row.ensures.coded
    (c.in_ok-code_row.ensures.values ∙ ap (λ ps. picked ps xs) c.deref.ensures.value) (record { valuation = w.0; fits = sym w.1; is = refl }) (λ g q. sym q.is) (λ r h. c.in_ok-add.ensures.kept r h)
    (subst (λ (r : List ℕ). Contains more r) c.deref-2.ensures.value c.in_ok-add.ensures.had)
    (λ r h.
    ⊎_elim
    (λ (a : Contains c.args.out.now.rows.rows r). inl a)
    (λ (e : c.deref-2.result.now ≡ r). inr (sym c.deref-2.ensures.value ∙ e))
    (c.in_ok-add.ensures.only r h))
