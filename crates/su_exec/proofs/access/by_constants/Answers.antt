-- The cheapest constant's matches are all rows that the cell lets through, so their positions are a way at its cost, which is within the share.
use Rattle.std.proofs.Common.{◌≡◌, List, ℕ, slice_get, Some}
use Rattle.su_base.specs.declared.values.Value.{Value}
use Rattle.su_rel.specs.Stored.{Stored}
use Rattle.su_tableau.specs.declared.symbols.Sym.TheVariants.{Const}
use Rattle.su_index.specs.Matches.{AreMatches}
use Rattle.su_index.specs.Tables.{table_at}
use Rattle.su_exec.specs.inside.Ways.{IsConstantAt}
use Rattle.su_exec.proofs.Ways.{constant_way}
use Rattle.su_exec.proofs.access.by_constants.Goals as goal

pub positions_with-requires-clause-few : goal.positions_with-requires-clause-few
positions_with-requires-clause-few g c =
    let T : List Stored = g.R.Rows.tables c.args.rows.now in
    let source = c.args.source.now in
    let at : IsConstantAt T c.args.row.now source c.in-Some.p c.cheapest_of-best.result.cost = rw c.in-Some.is at c.cheapest_of-best.ensures.way in
    let value : Value = c.constant_of-value.result.now in
    let is : slice_get c.args.row.now.cells c.in-Some.p ≡ Some (Const value) = rw c.constant_of-value.ensures at c.get.ensures in
    let value_same : at.value ≡ value = cc (at.is, is) in
    let column_same : at.column ≡ c.get-2.result.now = cc (at.column_is, c.get-2.ensures) in
    rw (value_same, column_same) at at.few

pub returns-clause-way : goal.returns-clause-way
returns-clause-way g c = λ values es.
    let T : List Stored = g.R.Rows.tables c.args.rows.now in
    let source = c.args.source.now in
    let value : Value = c.constant_of-value.result.now in
    let is : slice_get c.args.row.now.cells c.in-Some.p ≡ Some (Const value) = rw c.constant_of-value.ensures at c.get.ensures in
    let positions : List ℕ = c.in_ok-positions.positions.items in
    let all : AreMatches c.get-2.result.now value (table_at T source.relation).rows positions = c.in_ok-positions.ensures.found in (
      constant_way T c.args.row.now source c.in-Some.p c.get-2.result.now c.requires c.len-count.ensures.relation c.get-2.ensures values es value positions is all,
      c.in_ok-positions.ensures.few,
    )
