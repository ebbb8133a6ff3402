-- Each cell so far has the value that a constant or the first cell of its variable asks for; values that pass at every cell come from a valuation, and one that fails from none.
use Rattle.std.proofs.Common.{◌<◌, length, true≢false, refl, sym, ◌∙◌, arith}
use Rattle.su_reduce.specs.Shapes.{values_in}
use Rattle.su_reduce.proofs.Asked.{fits_from, fits_to}
use Rattle.su_reduce.proofs.shapes.fits.Goals as goal

pub returns-then-not-fits_at : goal.returns-then-not-fits_at
returns-then-not-fits_at c =
    let cells = c.args.cells.now in
    let xs = values_in c.args.columns.now c.args.row.now in
    let test = c.loop-p-test.true in
    let end = c.len-p-end.ensures in
    let low : c.loop-p.p < length cells = omega (arith, test, end) in
    (λ e. absurd (true≢false (sym e)), λ fit. sym c.if-not-fits_at.true ∙ c.fits_at.ensures.1 (fits_to cells xs fit.0 fit.1 c.loop-p.p low))

pub returns : goal.returns
returns c =
    let cells = c.args.cells.now in
    let xs = values_in c.args.columns.now c.args.row.now in
    let done = c.loop-p-test.false in
    let end = c.len-p-end.ensures in
    (λ _. fits_from cells xs c.requires.length (λ p l. c.loop-p.invariant p (omega (arith, l, done, end))), λ _. refl)
