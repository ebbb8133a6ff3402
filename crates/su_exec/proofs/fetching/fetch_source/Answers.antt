-- Either way reaches each row that agrees with the candidates so far, and costs no more than the share.
use Rattle.std.proofs.Common.{◌≤◌, List, ℕ, length, arith}
use Rattle.su_index.specs.Tables.{table_at}
use Rattle.su_exec.specs.inside.Ways.{AreReached}
use Rattle.su_exec.proofs.Sources.{by_all, by_listed}
use Rattle.su_exec.proofs.fetching.fetch_source.Goals as goal

pub returns-in-All-clause-gathered : goal.returns-in-All-clause-gathered
returns-in-All-clause-gathered g c =
    by_all (g.R.Rows.tables c.args.rows.now) c.args.codes.now c.args.edges.now c.args.aim.now.row.now c.args.aim.now.shape.now.firsts.items c.args.aim.now.source.now c.fetch_all.new.codes c.args.out.now.rows.rows c.fetch_all.new.out.rows.rows
    c.in_ok-fetch_all-in-All.ensures.gathered

pub returns-in-All-clause-fetches : goal.returns-in-All-clause-fetches
returns-in-All-clause-fetches g c =
    let way : length (table_at (g.R.Rows.tables c.args.rows.now) c.args.aim.now.source.now.relation).rows ≤ c.in_ok-access.access.cost = rw c.in-All.is at c.in_ok-access.ensures.way in
    let share = c.in_ok-access.ensures.share in
    let cost = c.in_ok-fetch_all-in-All.ensures.fetches in
    omega arith

pub returns-clause-gathered : goal.returns-clause-gathered
returns-clause-gathered g c =
    let positions : List ℕ = c.in-Listed.positions.items in
    let way : AreReached (g.R.Rows.tables c.args.rows.now) c.args.codes.now c.args.edges.now c.args.aim.now.row.now c.args.aim.now.source.now positions × length positions ≤ c.in_ok-access.access.cost = rw c.in-Listed.is at c.in_ok-access.ensures.way in
    by_listed (g.R.Rows.tables c.args.rows.now) c.args.codes.now c.args.edges.now c.args.aim.now.row.now c.args.aim.now.shape.now.firsts.items c.args.aim.now.source.now c.fetch_listed.new.codes c.args.out.now.rows.rows c.fetch_listed.new.out.rows.rows
    positions way.0 (rw c.deref.ensures.value at c.in_ok-fetch_listed-in-Listed.ensures.gathered)
