-- Each edge so far has the sets of its own cells in the table, and one list more leaves those before it at their places.
use Rattle.std.proofs.Common.{ℕ, List, [], get_or, subst, ap, ◌∙◌}
use Rattle.std.specs.Ordering.{nat_cmp}
use Rattle.std.specs.FinSet.{FinSet}
use Rattle.std.proofs.lemmas.List.{get_or_default}
use Rattle.su_base.proofs.Items.{get_or-push_each, length-push}
use Rattle.su_tableau.specs.declared.symbols.Sym.{Sym}
use Rattle.su_reduce.specs.declared.edges.Edge.{Edge}
use Rattle.su_reduce.specs.Ears.{cells_of}
use Rattle.su_reduce.specs.inside.Partners.{AreSets}
use Rattle.su_reduce.proofs.sharing.table_of.Goals as goal

pub loop-edge-preserved : goal.loop-edge-preserved
loop-edge-preserved c =
    let edges = c.args.edges.now in
    let n = c.loop-edge.edge-index in
    let inv = c.loop-edge.invariant in
    let sets = c.in_ok-sets_of.field-0 in
    rw c.in_ok-push.ensures.ok (record {
      long = length-push c.loop-edge.table sets n inv.long;
      each = get_or-push_each (λ (i : ℕ) (s : List (FinSet nat_cmp)). AreSets (cells_of edges) (get_or edges i (record { cells = []; candidates = [] })).cells s) [] c.loop-edge.table sets n inv.long inv.each
          (subst (λ (cells : List Sym). AreSets (cells_of edges) cells sets) (c.as_slice.ensures ∙ ap (λ (e : Edge). e.cells) (c.edge-item.is ∙ get_or_default edges n c.edge-item.result (record { cells = []; candidates = [] }) c.loop-edge-test.true)) c.in_ok-sets_of.ensures);
    })
