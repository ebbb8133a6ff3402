-- A row that agrees has at the cell a value that an edge with the variable gives, so the positions of those values are a way; otherwise the way so far stays.
use Rattle.std.proofs.Common.{◌≡◌, ◌<◌, ◌∙◌, [], ◌∷◌, List, ℕ, length, get_or, Contains, sym, subst, arith}
use Rattle.std.proofs.lemmas.List.{get_or_default}
use Rattle.su_base.specs.declared.values.Value.{Value}
use Rattle.su_rel.specs.Stored.{Stored}
use Rattle.su_index.specs.Tables.{table_at}
use Rattle.su_exec.specs.inside.Edges.{Edge}
use Rattle.su_exec.specs.inside.Ways.{AreOfCodes}
use Rattle.su_exec.proofs.Ways.{variable_reached, variable_way, IsReached}
use Rattle.su_exec.proofs.access.by_variable.Goals as goal

pub returns-in-Some-2-clause-way : goal.returns-in-Some-2-clause-way
returns-in-Some-2-clause-way g c =
    let T : List Stored = g.R.Rows.tables c.args.rows.now in
    let row = c.args.row.now in
    let source = c.args.source.now in
    let values : List Value = c.args.known.now.codes.now in
    let es : List (Edge ℕ) = c.args.known.now.edges.now in
    let edge : Edge ℕ = c.index-known-e.result in
    let codes : List (List ℕ) = c.in_ok-values.values.rows in
    let column = c.get-column.result.now in
    let positions : List ℕ = c.in-Some-2.positions.items in
    let same : get_or es c.in-Some-fewest.e (record { vars = []; rows = [] }) ≡ edge = get_or_default es c.in-Some-fewest.e (record { vars = []; rows = [] }) edge c.in-Some-fewest.ensures.0 ∙ sym c.index-known-e.is in
    let all : (i : ℕ) → i < length edge.rows → Contains codes (get_or (get_or edge.rows i []) c.in-Some-fewest.place 0 ∷ []) =
    subst (λ (x : Edge ℕ). (i : ℕ) → i < length x.rows → Contains codes (get_or (get_or x.rows i []) c.in-Some-fewest.place 0 ∷ [])) (sym c.index-known-e.is) c.in_ok-values.ensures.all in
    let reached : IsReached values es row.cells source.columns column codes =
    variable_reached T row source c.args.p column c.requires.source c.len-count.ensures.relation c.get-column.ensures values es c.in-Some.k c.in-Some-fewest.e c.in-Some-fewest.place c.get.result.now edge codes c.get.ensures c.in-Some.ensures c.in-Some-fewest.ensures.0 c.index-known-e.is
    (rw same at c.in-Some-fewest.ensures.1) (rw same at c.in-Some-fewest.ensures.2) all in
    let listed : AreOfCodes (table_at T source.relation).rows column values codes (length codes) positions = rw c.in-Some-2.is at c.in_ok-positions_of.ensures.listed in (
      variable_way T row source c.args.p column c.requires.source c.len-count.ensures.relation c.get-column.ensures values es codes positions reached listed,
      omega (arith, c.len-cost.ensures, c.in-Some-2.positions.ok.0),
    )
