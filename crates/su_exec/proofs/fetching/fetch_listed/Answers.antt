-- What is gathered so far is what the stored rows at the positions so far give, one fetch for each.
use Rattle.std.proofs.Common.{◌≡◌, ◌<◌, ◌+◌, [], List, ℕ, length, get_or, Some, slice_get, refl, sym, ap, subst, ◌∙◌, arith}
use Rattle.std.proofs.lemmas.Option.{slice_get-get_or}
use Rattle.su_base.specs.declared.values.Value.{Value}
use Rattle.su_rel.specs.Stored.{Stored, IsRelation}
use Rattle.su_index.specs.Tables.{table_at}
use Rattle.su_exec.specs.inside.Coded.{IsGathered, IsTaken}
use Rattle.su_exec.specs.Tasks.{FitsTables}
use Rattle.su_exec.specs.inside.Ways.{IsFromListed}
use Rattle.su_exec.proofs.GatheredRows.{gathered_none, gathered_then}
use Rattle.su_exec.proofs.Sources.{listed_before, listed_cases, listed_here, listed_none}
use Rattle.su_exec.proofs.fetching.fetch_listed.Goals as goal

pub loop-position-init : goal.loop-position-init
loop-position-init g c =
    let rows : List (List Value) = (table_at (g.R.Rows.tables c.args.rows.now) c.args.aim.now.source.now.relation).rows in
    let P : List Value → Type 0 = IsFromListed c.args.aim.now.row.now.cells c.args.aim.now.shape.now.firsts.items c.args.aim.now.source.now.columns rows c.args.positions.now 0 in
    record {
      tables = refl;
      fetches = omega arith;
      width = refl;
      gathered = gathered_none P P c.args.codes.now c.args.out.now.rows.rows c.requires.coded (listed_none c.args.aim.now.row.now.cells c.args.aim.now.shape.now.firsts.items c.args.aim.now.source.now.columns rows c.args.positions.now);
    }

pub fetch_one-requires-clause-source : goal.fetch_one-requires-clause-source
fetch_one-requires-clause-source g c = subst (λ (T : List Stored). FitsTables T (length c.args.aim.now.row.now.cells) c.args.aim.now.source.now) (sym c.loop-position.invariant.tables) c.requires.source

pub fetch_one-requires-clause-relation : goal.fetch_one-requires-clause-relation
fetch_one-requires-clause-relation g c = subst (λ (T : List Stored). IsRelation (table_at T c.args.aim.now.source.now.relation)) (sym c.loop-position.invariant.tables) c.len-count.ensures.relation

pub fetch_one-requires-clause-position : goal.fetch_one-requires-clause-position
fetch_one-requires-clause-position g c =
    let low : c.loop-position.position-index < length c.args.positions.now = omega (arith, c.loop-position-test.true) in
    let p = get_or c.args.positions.now c.loop-position.position-index 0 in
    let here : p < length (table_at (g.R.Rows.tables c.args.rows.now) c.args.aim.now.source.now.relation).rows =
    c.requires.positions c.loop-position.position-index 0 low in
    subst (λ (T : List Stored). p < length (table_at T c.args.aim.now.source.now.relation).rows) (sym c.loop-position.invariant.tables) here

pub loop-position-preserved : goal.loop-position-preserved
loop-position-preserved g c =
    let T : List Stored = g.R.Rows.tables c.args.rows.now in
    let cells = c.args.aim.now.row.now.cells in
    let firsts = c.args.aim.now.shape.now.firsts.items in
    let columns = c.args.aim.now.source.now.columns in
    let rows : List (List Value) = (table_at T c.args.aim.now.source.now.relation).rows in
    let positions = c.args.positions.now in
    let k = c.loop-position.position-index in
    let p = get_or c.args.positions.now c.loop-position.position-index 0 in
    let low : k < length positions = omega (arith, c.loop-position-test.true) in
    let listed : slice_get positions k ≡ Some p = slice_get-get_or positions k 0 low in
    let here : p < length rows = c.requires.positions k 0 low in
    let stored : List Value = get_or rows p [] in
    let at : slice_get rows p ≡ Some stored = slice_get-get_or rows p [] here in
    let there : slice_get (table_at (g.R.Rows.tables c.loop-position.rows) c.args.aim.now.source.now.relation).rows p ≡ Some stored =
    ap (λ (T : List Stored). slice_get (table_at T c.args.aim.now.source.now.relation).rows p) c.loop-position.invariant.tables ∙ at in
    let P : List Value → Type 0 = IsFromListed cells firsts columns rows positions k in
    let P' : List Value → Type 0 = IsTaken cells firsts columns stored in
    let R : List Value → Type 0 = IsFromListed cells firsts columns rows positions (k + 1) in
    let before = c.loop-position.invariant.fetches in
    let cost = c.in_ok-fetch_one.ensures.fetches in
    record {
      tables = c.in_ok-fetch_one.ensures.tables ∙ c.loop-position.invariant.tables;
      fetches = omega arith;
      width = c.in_ok-fetch_one.ensures.width ∙ c.loop-position.invariant.width;
      gathered = gathered_then P P P' P' R R c.args.codes.now c.loop-position.codes c.fetch_one.new.codes c.args.out.now.rows.rows c.loop-position.out.rows.rows c.fetch_one.new.out.rows.rows c.loop-position.invariant.gathered (c.in_ok-fetch_one.ensures.gathered stored there)
          (listed_before cells firsts columns rows positions k) (λ h x. listed_here cells firsts columns rows positions k p stored h listed at x) (λ h x. listed_cases cells firsts columns rows positions k p stored h listed at x);
    }

pub returns-clause-gathered : goal.returns-clause-gathered
returns-clause-gathered g c =
    let rows : List (List Value) = (table_at (g.R.Rows.tables c.args.rows.now) c.args.aim.now.source.now.relation).rows in
    let positions = c.args.positions.now in
    let test = c.loop-position-test.false in
    let end = c.loop-position.auto.position-index-end in
    let n : c.loop-position.position-index ≡ length positions = omega arith in
    let P : ℕ → List Value → Type 0 = IsFromListed c.args.aim.now.row.now.cells c.args.aim.now.shape.now.firsts.items c.args.aim.now.source.now.columns rows positions in
    subst (λ n. IsGathered (P n) (P n) c.args.codes.now c.args.out.now.rows.rows c.loop-position.codes c.loop-position.out.rows.rows) n c.loop-position.invariant.gathered
