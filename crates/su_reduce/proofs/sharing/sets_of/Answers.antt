-- The sets so far are those of the edges that have the variables of their cells, and one set more leaves them at their places.
use Rattle.std.proofs.Common.{ℕ, subst, ◌∙◌}
use Rattle.std.specs.Ordering.{nat_cmp}
use Rattle.std.specs.FinSet.{FinSet, empty}
use Rattle.std.proofs.lemmas.List.{get_or_default}
use Rattle.su_base.proofs.Items.{get_or-push_each, length-push}
use Rattle.su_tableau.specs.declared.symbols.Sym.{Sym}
use Rattle.su_tableau.specs.declared.symbols.Sym.TheVariants.{Var}
use Rattle.su_reduce.specs.Ears.{cells_of}
use Rattle.su_reduce.specs.Shapes.{cell_at}
use Rattle.su_reduce.specs.inside.Partners.{IsTouched}
use Rattle.su_reduce.proofs.sharing.sets_of.Goals as goal

pub loop-x-preserved : goal.loop-x-preserved
loop-x-preserved c =
    let edges = cells_of c.args.edges.now in
    let cells = c.args.cells.now in
    let n = c.loop-x.x-index in
    let inv = c.loop-x.invariant in
    rw c.in_ok-push.ensures.ok (record {
      long = length-push c.loop-x.sets c.touched.result n inv.long;
      each = get_or-push_each (λ (i : ℕ) (s : FinSet nat_cmp). IsTouched edges (cell_at cells i) s) empty c.loop-x.sets c.touched.result n inv.long inv.each
          (subst (λ (x : Sym). IsTouched edges x c.touched.result) (c.x-item.is ∙ get_or_default cells n c.x-item.result (Var 0) c.loop-x-test.true) c.touched.ensures);
    })
