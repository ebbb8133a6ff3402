-- What is gathered so far is what the stored rows so far give, one fetch for each.
use Rattle.std.proofs.Common.{◌≡◌, ◌<◌, ◌+◌, [], List, ℕ, length, get_or, Some, slice_get, refl, sym, ap, subst, ◌∙◌, arith}
use Rattle.std.proofs.lemmas.Option.{slice_get-get_or}
use Rattle.su_base.specs.declared.values.Value.{Value}
use Rattle.su_rel.specs.Stored.{Stored, IsRelation}
use Rattle.su_index.specs.Tables.{table_at}
use Rattle.su_exec.specs.inside.Coded.{IsGathered, IsTaken}
use Rattle.su_exec.specs.Tasks.{FitsTables}
use Rattle.su_exec.specs.inside.Ways.{IsFrom}
use Rattle.su_exec.proofs.GatheredRows.{gathered_none, gathered_then}
use Rattle.su_exec.proofs.Sources.{from_before, from_cases, from_here, from_none}
use Rattle.su_exec.proofs.fetching.fetch_all.Goals as goal

pub loop-i-init : goal.loop-i-init
loop-i-init g c =
    let rows : List (List Value) = (table_at (g.R.Rows.tables c.args.rows.now) c.args.aim.now.source.now.relation).rows in
    let P : List Value → Type 0 = IsFrom c.args.aim.now.row.now.cells c.args.aim.now.shape.now.firsts.items c.args.aim.now.source.now.columns rows 0 in
    record {
      tables = refl;
      fetches = omega arith;
      width = refl;
      gathered = gathered_none P P c.args.codes.now c.args.out.now.rows.rows c.requires.coded (from_none c.args.aim.now.row.now.cells c.args.aim.now.shape.now.firsts.items c.args.aim.now.source.now.columns rows);
    }

pub fetch_one-requires-clause-source : goal.fetch_one-requires-clause-source
fetch_one-requires-clause-source g c = subst (λ (T : List Stored). FitsTables T (length c.args.aim.now.row.now.cells) c.args.aim.now.source.now) (sym c.loop-i.invariant.tables) c.requires.source

pub fetch_one-requires-clause-relation : goal.fetch_one-requires-clause-relation
fetch_one-requires-clause-relation g c = subst (λ (T : List Stored). IsRelation (table_at T c.args.aim.now.source.now.relation)) (sym c.loop-i.invariant.tables) c.len-i-end.ensures.relation

pub fetch_one-requires-clause-position : goal.fetch_one-requires-clause-position
fetch_one-requires-clause-position g c =
    let test = c.loop-i-test.true in
    let end = c.len-i-end.ensures.rows in
    let same : length (table_at (g.R.Rows.tables c.loop-i.rows) c.args.aim.now.source.now.relation).rows ≡ length (table_at (g.R.Rows.tables c.args.rows.now) c.args.aim.now.source.now.relation).rows = ap (λ (T : List Stored). length (table_at T c.args.aim.now.source.now.relation).rows) c.loop-i.invariant.tables in
    omega arith

pub loop-i-preserved : goal.loop-i-preserved
loop-i-preserved g c =
    let T : List Stored = g.R.Rows.tables c.args.rows.now in
    let cells = c.args.aim.now.row.now.cells in
    let firsts = c.args.aim.now.shape.now.firsts.items in
    let columns = c.args.aim.now.source.now.columns in
    let rows : List (List Value) = (table_at T c.args.aim.now.source.now.relation).rows in
    let i = c.loop-i.i in
    let test = c.loop-i-test.true in
    let end = c.len-i-end.ensures.rows in
    let low : i < length rows = omega arith in
    let stored : List Value = get_or rows i [] in
    let at : slice_get rows i ≡ Some stored = slice_get-get_or rows i [] low in
    let there : slice_get (table_at (g.R.Rows.tables c.loop-i.rows) c.args.aim.now.source.now.relation).rows i ≡ Some stored =
    ap (λ (T : List Stored). slice_get (table_at T c.args.aim.now.source.now.relation).rows i) c.loop-i.invariant.tables ∙ at in
    let P : List Value → Type 0 = IsFrom cells firsts columns rows i in
    let P' : List Value → Type 0 = IsTaken cells firsts columns stored in
    let R : List Value → Type 0 = IsFrom cells firsts columns rows (i + 1) in
    let before = c.loop-i.invariant.fetches in
    let cost = c.in_ok-fetch_one.ensures.fetches in
    record {
      tables = c.in_ok-fetch_one.ensures.tables ∙ c.loop-i.invariant.tables;
      fetches = omega arith;
      width = c.in_ok-fetch_one.ensures.width ∙ c.loop-i.invariant.width;
      gathered = gathered_then P P P' P' R R c.args.codes.now c.loop-i.codes c.fetch_one.new.codes c.args.out.now.rows.rows c.loop-i.out.rows.rows c.fetch_one.new.out.rows.rows c.loop-i.invariant.gathered (c.in_ok-fetch_one.ensures.gathered stored there)
          (from_before cells firsts columns rows i) (λ h x. from_here cells firsts columns rows i stored h at x) (λ h x. from_cases cells firsts columns rows i stored h at x);
    }

pub returns-clause-gathered : goal.returns-clause-gathered
returns-clause-gathered g c =
    let rows : List (List Value) = (table_at (g.R.Rows.tables c.args.rows.now) c.args.aim.now.source.now.relation).rows in
    let test = c.loop-i-test.false in
    let end = c.len-i-end.ensures.rows in
    let n : c.loop-i.i ≡ length rows = omega arith in
    let P : ℕ → List Value → Type 0 = IsFrom c.args.aim.now.row.now.cells c.args.aim.now.shape.now.firsts.items c.args.aim.now.source.now.columns rows in
    subst (λ n. IsGathered (P n) (P n) c.args.codes.now c.args.out.now.rows.rows c.loop-i.codes c.loop-i.out.rows.rows) n c.loop-i.invariant.gathered
