-- The row at the position is the one that is fetched, so what is taken from it is what is gathered.
use Rattle.std.proofs.Common.{◌≡◌, List, length, sym, subst, ◌∙◌}
use Rattle.std.proofs.lemmas.Option.{same_Some}
use Rattle.su_base.specs.declared.values.Value.{Value}
use Rattle.su_exec.specs.inside.Coded.{IsGathered, IsTaken}
use Rattle.su_exec.proofs.Sources.{within_stored}
use Rattle.su_exec.proofs.fetching.fetch_one.Goals as goal

pub select-requires-clause-within : goal.select-requires-clause-within
select-requires-clause-within g c =
    within_stored (g.R.Rows.tables c.args.rows.now) (length c.args.aim.now.row.now.cells) c.args.position c.args.aim.now.source.now c.fetch-stored.result.now c.requires.source c.requires.relation c.fetch-stored.ensures.row

pub returns-clause-gathered : goal.returns-clause-gathered
returns-clause-gathered g c = λ stored at.
    let firsts = c.args.aim.now.shape.now.firsts.items in
    let same : c.fetch-stored.result.now ≡ stored = same_Some c.fetch-stored.result.now stored (sym c.fetch-stored.ensures.row ∙ at) in
    subst (λ (xs : List Value). IsGathered (IsTaken c.args.aim.now.row.now.cells firsts c.args.aim.now.source.now.columns xs) (IsTaken c.args.aim.now.row.now.cells firsts c.args.aim.now.source.now.columns xs) c.args.codes.now c.args.out.now.rows.rows c.select.new.codes c.select.new.out.rows.rows) same c.in_ok-select.ensures.gathered
