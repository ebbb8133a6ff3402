-- The causes are tested in their order: a row that isn't typed, one that is there, one that breaks a dependency, a relation that is full. Where a test passes its cause doesn't hold, so each answer is the one that the definition gives.
use Rattle.std.proofs.Common.{◌≡◌, ◌<◌, ◌∙◌, inr, List, length, subst, sym, ap, refl, Contains, arith}
use Rattle.std.proofs.lemmas.Bool.{false≢true}
use Rattle.su_base.specs.declared.values.Value.{Value}
use Rattle.su_rel.specs.Stored.{Stored}
use Rattle.su_state.specs.DatabaseValue.{DatabaseValue, table_of, rows_of}
use Rattle.su_state.specs.Enforced.{HoldsOn}
use Rattle.su_state.specs.Breaches.{IsFirstOf, IsBreachWith}
use Rattle.su_state.specs.inside.SomeBreaches.{breach_found, BreaksNothing}
use Rattle.su_state.specs.inside.Sides.{row_at}
use Rattle.su_state.proofs.Least.{row_there}
use Rattle.su_state.proofs.Kept.{has_table, table_read, columns_read, holds_at}
use Rattle.su_state.proofs.databases.Database.insert_answer.Goals as goal

pub returns-in-Some-clause-refused : goal.returns-in-Some-clause-refused
returns-in-Some-clause-refused c =
    let db : DatabaseValue = record { schema = c.self.inside.schema; tables = c.self.inside.tables.items } in
    let r = c.args.relation in
    let row = c.args.row.now in
    let breach = c.in-Some.breach in
    let rows = c.index-table.result.now.rows in
    let within : r < length db.tables = has_table db c.args.self.now r c.self.view_is c.self.invariant c.requires in
    let table : c.index-table.result.now ≡ table_of db r = table_read db r c.index-table.result.now within c.index-table.ensures in
    let other : row_at rows breach.position ≡ c.in_ok-row.row = row_there rows breach.position c.row.result.now c.row.ensures ∙ sym c.in_ok-row.ensures in
    let found : IsFirstOf (IsBreachWith db.schema r (rows_of db r) row) (breach_found rows row breach) =
    subst (λ (t : Stored). IsFirstOf (IsBreachWith db.schema r t.rows row) (breach_found rows row breach)) table c.in-Some.ensures.1 in
    inr (rw (← c.self.view_is) (
      rw (columns_read db r c.columns.result.now c.columns.ensures.at) c.in_ok-check_row.ensures.ok,
      subst (λ (t : Stored). ¬ Contains t.rows row) table (λ there. false≢true (c.if-has.ensures.1 there)),
      subst (λ (x : List Value). IsFirstOf (IsBreachWith db.schema r (rows_of db r) row) (record { dependency = breach.fd; object = breach.object; first = row; second = x })) other found,
      refl,
    ))

pub returns-then-len-ge-MOST-clause-refused : goal.returns-then-len-ge-MOST-clause-refused
returns-then-len-ge-MOST-clause-refused c =
    let db : DatabaseValue = record { schema = c.self.inside.schema; tables = c.self.inside.tables.items } in
    let within : c.args.relation < length db.tables = has_table db c.args.self.now c.args.relation c.self.view_is c.self.invariant c.requires in
    let table : c.index-table.result.now ≡ table_of db c.args.relation = table_read db c.args.relation c.index-table.result.now within c.index-table.ensures in
    inr (rw (← c.self.view_is) (
      rw (columns_read db c.args.relation c.columns.result.now c.columns.ensures.at) c.in_ok-check_row.ensures.ok,
      subst (λ (t : Stored). ¬ Contains t.rows c.args.row.now) table (λ there. false≢true (c.if-has.ensures.1 there)),
      subst (λ (t : Stored). BreaksNothing db.schema c.args.relation t.rows c.args.row.now) table c.in_default.ensures,
      omega (arith, ap (λ t. length t.rows) table, c.len.ensures, c.if-len-ge-MOST.true),
      refl,
    ))

pub returns-clause-answer : goal.returns-clause-answer
returns-clause-answer c =
    let db : DatabaseValue = record { schema = c.self.inside.schema; tables = c.self.inside.tables.items } in
    let within : c.args.relation < length db.tables = has_table db c.args.self.now c.args.relation c.self.view_is c.self.invariant c.requires in
    let table : c.index-table.result.now ≡ table_of db c.args.relation = table_read db c.args.relation c.index-table.result.now within c.index-table.ensures in
    rw (← c.self.view_is) (
      rw (columns_read db c.args.relation c.columns.result.now c.columns.ensures.at) c.in_ok-check_row.ensures.ok,
      subst (λ (t : Stored). ¬ Contains t.rows c.args.row.now) table (λ there. false≢true (c.if-has.ensures.1 there)),
      subst (λ (t : Stored). BreaksNothing db.schema c.args.relation t.rows c.args.row.now) table c.in_default.ensures,
      omega (arith, ap (λ t. length t.rows) table, c.len.ensures, c.if-len-ge-MOST.false),
    )

pub first_breach-requires-clause-keeps : goal.first_breach-requires-clause-keeps
first_breach-requires-clause-keeps c =
    let db : DatabaseValue = record { schema = c.self.inside.schema; tables = c.self.inside.tables.items } in
    let within : c.args.relation < length db.tables = has_table db c.args.self.now c.args.relation c.self.view_is c.self.invariant c.requires in
    let table : c.index-table.result.now ≡ table_of db c.args.relation = table_read db c.args.relation c.index-table.result.now within c.index-table.ensures in
    λ f o fd object numbered placed on.
    subst (λ (t : Stored). HoldsOn fd object t.rows) (sym table) (holds_at db c.args.relation c.self.invariant within f o fd object numbered placed on)
