-- All cells so far fit; where each does, constants are kept and equal variables go to equal symbols, since every cell of a variable goes where its first one does.
use Rattle.std.proofs.Common.{[], refl, sym, ◌∙◌, true≢false, arith, below_more}
use Rattle.su_map.specs.inside.Targets.{CellFits}
use Rattle.su_map.proofs.Cells.{cells_fit, fits_cells, no_head, no_head_itself}
use Rattle.su_map.proofs.columns.line_fits.Goals as goal

pub returns-then-not-cell_fits : goal.returns-then-not-cell_fits
returns-then-not-cell_fits c =
    let line = c.args.line.now in let target = c.args.target.now in (
      λ no'. absurd (true≢false (sym no')),
      λ f. sym c.if-not-cell_fits.true ∙ c.cell_fits.ensures.1 (fits_cells [] [] line target (record { constants = f.0; head_symbols = no_head line target; itself = f.1 }) c.loop-column.column),
    )

pub loop-column-preserved : goal.loop-column-preserved
loop-column-preserved c = below_more (CellFits [] [] c.args.line.now c.args.target.now) c.loop-column.column c.loop-column.invariant (c.cell_fits.ensures.0 c.if-not-cell_fits.false)

pub returns : goal.returns
returns c =
    let f = cells_fit [] [] c.args.line.now c.args.target.now no_head_itself (λ i low. c.loop-column.invariant i (omega arith)) in
    (λ yes. (f.constants, f.itself), λ g. refl)
