-- The rows that were there stand first, so what is kept of the table behind a refusal is the table, and the database is what it was.
use Rattle.std.proofs.Common.{◌≡◌, ◌⊎◌, ◌<◌, arith, length, take, Err, ap, subst, sym, ◌∙◌}
use Rattle.su_rel.specs.Stored.{Stored}
use Rattle.su_state.specs.DatabaseValue.{DatabaseValue, IsWellKept, table_of, rows_of}
use Rattle.su_state.specs.Changes.{ChangesOnly}
use Rattle.su_state.specs.Loads.{Loads}
use Rattle.su_state.specs.inside.LoadEnds.{InsertsSome}
use Rattle.su_state.specs.declared.faults.LoadEnd.TheVariants.{NoMemory}
use Rattle.su_state.proofs.Kept.{with_table, has_table, table_read}
use Rattle.su_state.proofs.Inserts.{changes_some, load_refused, cut_off}
use Rattle.su_state.proofs.databases.Database.load_each.Goals as goal

pub invariant_of-self : goal.invariant_of-self
invariant_of-self c =
    let r = c.args.relation in
    let db : DatabaseValue = record { schema = c.self.inside.schema; tables = c.self.inside.tables.items } in
    let after : DatabaseValue = record { schema = c.self-2.inside.schema; tables = c.self-2.inside.tables.items } in
    let within : r < length db.tables = has_table db c.args.self.now r c.self.view_is c.self.invariant c.requires in
    let some : InsertsSome db r c.args.rows (Err c.in-Err.end) c.insert_each.new.self = subst (λ (d : DatabaseValue). InsertsSome d r c.args.rows (Err c.in-Err.end) c.insert_each.new.self) (sym c.self.view_is) c.in-Err.ensures.some in
    let only : ChangesOnly r db after = subst (ChangesOnly r db) (sym c.self-2.view_is) (changes_some db c.insert_each.new.self r c.args.rows c.in-Err.end some) in
    let front : take (length (rows_of db r)) (rows_of after r) ≡ rows_of db r =
    subst (λ (d : DatabaseValue). take (length (rows_of db r)) (rows_of d r) ≡ rows_of db r) (sym c.self-2.view_is)
    (subst (λ (d : DatabaseValue). take (length (rows_of d r)) (rows_of c.insert_each.new.self r) ≡ rows_of d r) (sym c.self.view_is) c.in-Err.ensures.front) in
    let there : c.index.result.now ≡ table_of db r = table_read db r c.index.result.now within c.index.ensures in
    let later : c.index_mut.result.now ≡ table_of after r = table_read after r c.index_mut.result.now (omega (arith, within, only.tables)) c.index_mut.ensures.value in
    let back : with_table after r c.truncate.new.self ≡ db =
    cut_off db after r c.truncate.new.self c.len-before.result only within (c.len-before.ensures ∙ ap (λ (t : Stored). length t.rows) there) (c.truncate.ensures.width ∙ ap (λ (t : Stored). t.width) later) (c.truncate.ensures.rows ∙ ap (λ (t : Stored). take c.len-before.result t.rows) later) front in
    subst IsWellKept (sym back) c.self.invariant

pub returns-in-Err-clause-refused : goal.returns-in-Err-clause-refused
returns-in-Err-clause-refused c =
    let r = c.args.relation in
    let db : DatabaseValue = record { schema = c.self.inside.schema; tables = c.self.inside.tables.items } in
    let after : DatabaseValue = record { schema = c.self-2.inside.schema; tables = c.self-2.inside.tables.items } in
    let within : r < length db.tables = has_table db c.args.self.now r c.self.view_is c.self.invariant c.requires in
    let some : InsertsSome db r c.args.rows (Err c.in-Err.end) c.insert_each.new.self = subst (λ (d : DatabaseValue). InsertsSome d r c.args.rows (Err c.in-Err.end) c.insert_each.new.self) (sym c.self.view_is) c.in-Err.ensures.some in
    let only : ChangesOnly r db after = subst (ChangesOnly r db) (sym c.self-2.view_is) (changes_some db c.insert_each.new.self r c.args.rows c.in-Err.end some) in
    let front : take (length (rows_of db r)) (rows_of after r) ≡ rows_of db r =
    subst (λ (d : DatabaseValue). take (length (rows_of db r)) (rows_of d r) ≡ rows_of db r) (sym c.self-2.view_is)
    (subst (λ (d : DatabaseValue). take (length (rows_of d r)) (rows_of c.insert_each.new.self r) ≡ rows_of d r) (sym c.self.view_is) c.in-Err.ensures.front) in
    let there : c.index.result.now ≡ table_of db r = table_read db r c.index.result.now within c.index.ensures in
    let later : c.index_mut.result.now ≡ table_of after r = table_read after r c.index_mut.result.now (omega (arith, within, only.tables)) c.index_mut.ensures.value in
    let back : with_table after r c.truncate.new.self ≡ db =
    cut_off db after r c.truncate.new.self c.len-before.result only within (c.len-before.ensures ∙ ap (λ (t : Stored). length t.rows) there) (c.truncate.ensures.width ∙ ap (λ (t : Stored). t.width) later) (c.truncate.ensures.rows ∙ ap (λ (t : Stored). take c.len-before.result t.rows) later) front in
    subst (λ (d : DatabaseValue). (c.in-Err.end ≡ NoMemory) ⊎ Loads d r c.args.rows (Err c.in-Err.end) (with_table after r c.truncate.new.self)) c.self.view_is
    (load_refused db c.insert_each.new.self (with_table after r c.truncate.new.self) r c.args.rows c.in-Err.end some back)

pub returns-in-Err-clause-unchanged : goal.returns-in-Err-clause-unchanged
returns-in-Err-clause-unchanged c =
    let r = c.args.relation in
    let db : DatabaseValue = record { schema = c.self.inside.schema; tables = c.self.inside.tables.items } in
    let after : DatabaseValue = record { schema = c.self-2.inside.schema; tables = c.self-2.inside.tables.items } in
    let within : r < length db.tables = has_table db c.args.self.now r c.self.view_is c.self.invariant c.requires in
    let some : InsertsSome db r c.args.rows (Err c.in-Err.end) c.insert_each.new.self = subst (λ (d : DatabaseValue). InsertsSome d r c.args.rows (Err c.in-Err.end) c.insert_each.new.self) (sym c.self.view_is) c.in-Err.ensures.some in
    let only : ChangesOnly r db after = subst (ChangesOnly r db) (sym c.self-2.view_is) (changes_some db c.insert_each.new.self r c.args.rows c.in-Err.end some) in
    let front : take (length (rows_of db r)) (rows_of after r) ≡ rows_of db r =
    subst (λ (d : DatabaseValue). take (length (rows_of db r)) (rows_of d r) ≡ rows_of db r) (sym c.self-2.view_is)
    (subst (λ (d : DatabaseValue). take (length (rows_of d r)) (rows_of c.insert_each.new.self r) ≡ rows_of d r) (sym c.self.view_is) c.in-Err.ensures.front) in
    let there : c.index.result.now ≡ table_of db r = table_read db r c.index.result.now within c.index.ensures in
    let later : c.index_mut.result.now ≡ table_of after r = table_read after r c.index_mut.result.now (omega (arith, within, only.tables)) c.index_mut.ensures.value in
    let back : with_table after r c.truncate.new.self ≡ db =
    cut_off db after r c.truncate.new.self c.len-before.result only within (c.len-before.ensures ∙ ap (λ (t : Stored). length t.rows) there) (c.truncate.ensures.width ∙ ap (λ (t : Stored). t.width) later) (c.truncate.ensures.rows ∙ ap (λ (t : Stored). take c.len-before.result t.rows) later) front in
    back ∙ c.self.view_is
