-- The rows gathered so far are those that the sources so far give: each agrees with a stored row, and each that agrees with the candidates of the rows before is among them. What was fetched is at most the shares of these sources.
use Rattle.std.proofs.Common.{◌≡◌, ◌<◌, ◌≤◌, ◌+◌, [], List, ℕ, Some, length, get_or, slice_get, take, map, refl, sym, ap, subst, ◌∙◌, inl, inr, ⊎_elim, arith}
use Rattle.std.specs.Prelude.{sum}
use Rattle.std.proofs.lemmas.List.Elements.{All-nil}
use Rattle.std.proofs.lemmas.Option.{slice_get-get_or}
use Rattle.su_base.specs.declared.values.Value.{Value}
use Rattle.su_rel.specs.Stored.{Stored}
use Rattle.su_index.specs.Tables.{table_at}
use Rattle.su_exec.specs.declared.tasks.Source.{Source}
use Rattle.su_exec.specs.inside.Coded.{IsGathered, IsRowEdge}
use Rattle.su_exec.specs.inside.Edges.{Edge}
use Rattle.su_reduce.specs.Sheets.{AreBelow}
use Rattle.su_exec.specs.Shares.{share}
use Rattle.su_exec.specs.Tasks.{FitsTables}
use Rattle.su_exec.specs.inside.Ways.{IsAgreed, IsFrom}
use Rattle.su_exec.proofs.Ways.{sum_more, sum_take}
use Rattle.su_exec.proofs.GatheredRows.{gathered_none, gathered_then}
use Rattle.su_reduce.proofs.ShapeSteps.{shape_length}
use Rattle.su_exec.proofs.CellShapes.{shape_apart}
use Rattle.su_exec.proofs.Sources.{agreed_up, row_edge, sources_before, sources_cases, sources_here, sources_none, AgreesBySources, IsOfSources}
use Rattle.su_exec.proofs.fetching.candidates_of.Goals as goal

pub loop-source-init : goal.loop-source-init
loop-source-init g c =
    let tables : List Stored = g.R.Rows.tables c.args.rows.now in
    let row = c.args.row.now in
    let firsts = c.in_ok-shape.shape.firsts.items in
    let codes : List Value = c.args.codes.now in
    let es : List (Edge ℕ) = c.args.edges.now in
    let P : List Value → Type 0 = IsOfSources tables row firsts 0 in
    let Q : List Value → Type 0 = AgreesBySources tables codes es row firsts 0 in
    record {
      tables = refl;
      fetches = omega arith;
      width = search (c.in_ok-out.ensures);
      gathered = subst (λ (rows : List (List ℕ)). IsGathered P Q codes [] codes rows) (ap (λ r. r.rows) (sym c.in_ok-out.ensures)) (gathered_none P Q codes [] (All-nil (λ r. AreBelow r (length codes))) (sources_none tables codes es row firsts));
    }

pub fetch_source-requires-clause-source : goal.fetch_source-requires-clause-source
fetch_source-requires-clause-source g c =
    let row = c.args.row.now in
    let s = c.loop-source.source-index in
    let source : Source = c.source-item.result in
    let items = c.as_slice-source-items.ensures in
    let low : s < length row.sources = subst (λ (xs : List Source). s < length xs) items c.loop-source-test.true in
    let read : source ≡ get_or row.sources s source = c.source-item.is ∙ ap (λ (xs : List Source). get_or xs s source) items in
    let old : FitsTables (g.R.Rows.tables c.args.rows.now) (length row.cells) source = subst (FitsTables (g.R.Rows.tables c.args.rows.now) (length row.cells)) (sym read) (c.requires.sources s source low) in
    subst (λ (T : List Stored). FitsTables T (length row.cells) source) (sym c.loop-source.invariant.tables) old

pub loop-source-preserved : goal.loop-source-preserved
loop-source-preserved g c =
    let T : List Stored = g.R.Rows.tables c.args.rows.now in
    let row = c.args.row.now in
    let firsts = c.in_ok-shape.shape.firsts.items in
    let olds : List Value = c.args.codes.now in
    let mids : List Value = c.loop-source.codes in
    let news : List Value = c.fetch_source.new.codes in
    let es : List (Edge ℕ) = c.args.edges.now in
    let s = c.loop-source.source-index in
    let source : Source = c.source-item.result in
    let mid_rows = c.loop-source.out.rows.rows in
    let most = c.fetch_source.new.out.rows.rows in
    let P : List Value → Type 0 = IsOfSources T row firsts s in
    let Q : List Value → Type 0 = AgreesBySources T olds es row firsts s in
    let P' : List Value → Type 0 = IsFrom row.cells firsts source.columns (table_at T source.relation).rows (length (table_at T source.relation).rows) in
    let Q' : List Value → Type 0 = IsAgreed T mids es row.cells firsts source in
    let R : List Value → Type 0 = IsOfSources T row firsts (s + 1) in
    let S : List Value → Type 0 = AgreesBySources T olds es row firsts (s + 1) in
    let old : IsGathered P Q olds [] mids mid_rows = c.loop-source.invariant.gathered in
    let new : IsGathered P' Q' mids mid_rows news most =
    subst (λ (T : List Stored). IsGathered (IsFrom row.cells firsts source.columns (table_at T source.relation).rows (length (table_at T source.relation).rows)) (IsAgreed T mids es row.cells firsts source) mids mid_rows news most) c.loop-source.invariant.tables c.in_ok-fetch_source.ensures.gathered in
    let items = c.as_slice-source-items.ensures in
    let low : s < length row.sources = subst (λ (xs : List Source). s < length xs) items c.loop-source-test.true in
    let read : source ≡ get_or row.sources s source = c.source-item.is ∙ ap (λ (xs : List Source). get_or xs s source) items in
    let at : slice_get row.sources s ≡ Some source = slice_get-get_or row.sources s source low ∙ ap Some (sym read) in
    let F : Source → ℕ = share T row.cells in
    let more : sum (map F (take (s + 1) row.sources)) ≡ sum (map F (take s row.sources)) + F source = sum_more F row.sources s source low ∙ ap (λ x. sum (map F (take s row.sources)) + F x) (sym read) in
    let before = c.loop-source.invariant.fetches in
    let cost : g.R.Rows.fetches c.fetch_source.new.rows ≤ g.R.Rows.fetches c.loop-source.rows + share T row.cells source =
    subst (λ (T : List Stored). g.R.Rows.fetches c.fetch_source.new.rows ≤ g.R.Rows.fetches c.loop-source.rows + share T row.cells source) c.loop-source.invariant.tables c.in_ok-fetch_source.ensures.fetches in
    record {
      tables = c.in_ok-fetch_source.ensures.tables ∙ c.loop-source.invariant.tables;
      fetches = omega arith;
      width = c.in_ok-fetch_source.ensures.width ∙ c.loop-source.invariant.width;
      gathered = gathered_then P Q P' Q' R S olds mids news [] mid_rows most old new (sources_before T olds es row firsts s) (λ h x. sources_here T olds es row firsts s source h at x)
          (λ h x.
          ⊎_elim
          (λ (q : Q h). inl q)
          (λ (q : IsAgreed T olds es row.cells firsts source h). inr (agreed_up T olds mids es row.cells firsts source h old.codes c.requires.coded q))
          (sources_cases T olds es row firsts s source h at x));
    }

pub apart-requires-clause-width : goal.apart-requires-clause-width
apart-requires-clause-width g c =
    ap (λ r. r.width) c.into_rows.ensures.rows ∙ c.loop-source.invariant.width ∙ (let shape = c.in_ok-shape.shape in shape_length c.args.row.now.cells (length c.args.row.now.cells) shape.vars.items shape.firsts.items shape.places.items c.in_ok-shape.ensures)

pub apart-requires-clause-apart : goal.apart-requires-clause-apart
apart-requires-clause-apart g c = let shape = c.in_ok-shape.shape in shape_apart c.args.row.now.cells shape.vars.items shape.firsts.items shape.places.items c.in_ok-shape.ensures

pub returns-clause-edge : goal.returns-clause-edge
returns-clause-edge g c =
    let tables : List Stored = g.R.Rows.tables c.args.rows.now in
    let row = c.args.row.now in
    let shape = c.in_ok-shape.shape in
    let olds : List Value = c.args.codes.now in
    let news : List Value = c.loop-source.codes in
    let es : List (Edge ℕ) = c.args.edges.now in
    let rows = c.loop-source.out.rows.rows in
    let long : length c.as_slice-source-items.result.now ≡ length row.sources = ap (λ (xs : List Source). length xs) c.as_slice-source-items.ensures in
    let n : c.loop-source.source-index ≡ length row.sources = omega (arith, c.loop-source-test.false, c.loop-source.auto.source-index-end, long) in
    let all : IsGathered (IsOfSources tables row shape.firsts.items (length row.sources)) (AgreesBySources tables olds es row shape.firsts.items (length row.sources)) olds [] news rows =
    subst (λ n. IsGathered (IsOfSources tables row shape.firsts.items n) (AgreesBySources tables olds es row shape.firsts.items n) olds [] news rows) n c.loop-source.invariant.gathered in
    let edge = row_edge tables olds news es row shape.vars.items shape.firsts.items shape.places.items rows c.in_ok-shape.ensures c.requires.coded all in
    subst (λ (e : Edge ℕ). IsRowEdge tables news es row e) (sym (c.apart.ensures ∙ ap (λ r. record { vars = shape.vars.items; rows = r.rows }) c.into_rows.ensures.rows)) edge

pub returns-clause-codes : goal.returns-clause-codes
returns-clause-codes g c = c.loop-source.invariant.gathered.codes

pub returns-clause-fetches : goal.returns-clause-fetches
returns-clause-fetches g c =
    let F : Source → ℕ = share (g.R.Rows.tables c.args.rows.now) c.args.row.now.cells in
    let part = sum_take F c.args.row.now.sources c.loop-source.source-index in
    let before = c.loop-source.invariant.fetches in
    omega arith

pub returns-in_err-fetch_source-clause-fetches : goal.returns-in_err-fetch_source-clause-fetches
returns-in_err-fetch_source-clause-fetches g c =
    let T : List Stored = g.R.Rows.tables c.args.rows.now in
    let row = c.args.row.now in
    let s = c.loop-source.source-index in
    let source : Source = c.source-item.result in
    let items = c.as_slice-source-items.ensures in
    let low : s < length row.sources = subst (λ (xs : List Source). s < length xs) items c.loop-source-test.true in
    let read : source ≡ get_or row.sources s source = c.source-item.is ∙ ap (λ (xs : List Source). get_or xs s source) items in
    let F : Source → ℕ = share T row.cells in
    let more : sum (map F (take (s + 1) row.sources)) ≡ sum (map F (take s row.sources)) + F source = sum_more F row.sources s source low ∙ ap (λ x. sum (map F (take s row.sources)) + F x) (sym read) in
    let part : sum (map F (take (s + 1) row.sources)) ≤ sum (map F row.sources) = sum_take F row.sources (s + 1) in
    let before = c.loop-source.invariant.fetches in
    let cost : g.R.Rows.fetches c.fetch_source.new.rows ≤ g.R.Rows.fetches c.loop-source.rows + share T row.cells source =
    subst (λ (T : List Stored). g.R.Rows.fetches c.fetch_source.new.rows ≤ g.R.Rows.fetches c.loop-source.rows + share T row.cells source) c.loop-source.invariant.tables c.in_err-fetch_source.ensures.fetches in
    omega arith
