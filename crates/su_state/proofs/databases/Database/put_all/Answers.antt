-- The rows may all be put in, so each fits and all of them together keep the dependencies; thus the table with them is well kept, and it is what inserting each makes.
use Rattle.std.proofs.Common.{◌<◌, length, subst, sym}
use Rattle.su_state.specs.DatabaseValue.{DatabaseValue}
use Rattle.su_state.specs.Loads.{InsertsAll}
use Rattle.su_state.specs.inside.AdmissibleRows.{MayTake}
use Rattle.su_state.proofs.Kept.{with_table, has_table}
use Rattle.su_state.proofs.Filled.{wide, kept_filled, filled_all}
use Rattle.su_state.proofs.databases.Database.put_all.Goals as goal

pub insert_all-requires : goal.insert_all-requires
insert_all-requires c =
    let db : DatabaseValue = record { schema = c.self.inside.schema; tables = c.self.inside.tables.items } in
    let within : c.args.relation < length db.tables = has_table db c.args.self.now c.args.relation c.self.view_is c.self.invariant c.requires.relation in
    let may : MayTake db c.args.relation c.args.rows = subst (λ (d : DatabaseValue). MayTake d c.args.relation c.args.rows) (sym c.self.view_is) c.requires.may in
    wide db c.args.relation c.args.rows c.index_mut.result.now c.self.invariant within c.index_mut.ensures.value may.typed

pub invariant_of-self-2 : goal.invariant_of-self-2
invariant_of-self-2 c =
    let db : DatabaseValue = record { schema = c.self.inside.schema; tables = c.self.inside.tables.items } in
    let within : c.args.relation < length db.tables = has_table db c.args.self.now c.args.relation c.self.view_is c.self.invariant c.requires.relation in
    let may : MayTake db c.args.relation c.args.rows = subst (λ (d : DatabaseValue). MayTake d c.args.relation c.args.rows) (sym c.self.view_is) c.requires.may in
    kept_filled db c.args.relation c.args.rows c.index_mut.result.now c.insert_all.new.self c.self.invariant within c.index_mut.ensures.value may c.insert_all.ensures.width c.in_ok-new.ensures.rows

pub returns-clause-done : goal.returns-clause-done
returns-clause-done c =
    let db : DatabaseValue = record { schema = c.self.inside.schema; tables = c.self.inside.tables.items } in
    let within : c.args.relation < length db.tables = has_table db c.args.self.now c.args.relation c.self.view_is c.self.invariant c.requires.relation in
    let may : MayTake db c.args.relation c.args.rows = subst (λ (d : DatabaseValue). MayTake d c.args.relation c.args.rows) (sym c.self.view_is) c.requires.may in
    subst (λ (d : DatabaseValue). InsertsAll d c.args.relation c.args.rows c.in_ok-new.new (with_table db c.args.relation c.insert_all.new.self)) c.self.view_is
    (filled_all db c.args.relation c.args.rows c.index_mut.result.now c.insert_all.new.self c.self.invariant within c.index_mut.ensures.value may c.insert_all.ensures.width c.in_ok-new.new c.in_ok-new.ensures.rows c.in_ok-new.ensures.count)
