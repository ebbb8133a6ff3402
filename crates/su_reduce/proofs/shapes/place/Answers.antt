-- No cell so far holds the variable, so the one that does is its place, and where none does the number of cells stands for it.
use Rattle.std.proofs.Common.{sym, ◌∙◌, arith}
use Rattle.su_base.proofs.Items.{get_or-is}
use Rattle.su_tableau.specs.declared.symbols.Sym.TheVariants.{Var}
use Rattle.su_reduce.proofs.Places.{place_is, place_none}
use Rattle.su_reduce.proofs.shapes.place.Goals as goal

pub returns-then-is_var : goal.returns-then-is_var
returns-then-is_var c =
    let cells = c.args.cells.now in
    let n = c.loop-p.p in
    let is = sym (get_or-is cells n c.index-cells-p.result (Var 0) c.loop-p-test.true c.index-cells-p.is) in
    sym (place_is cells c.args.k n c.loop-p.invariant c.loop-p-test.true (sym is ∙ c.is_var.ensures.0 c.if-is_var.true))

pub returns : goal.returns
returns c =
    let done = c.loop-p-test.false in
    sym (place_none c.args.cells.now c.args.k (λ i l. c.loop-p.invariant i (omega (arith, l, done))))
