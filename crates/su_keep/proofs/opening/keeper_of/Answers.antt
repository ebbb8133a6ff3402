-- What is read stands in the store that was opened, whose cursors alone have moved.
use Rattle.std.proofs.Common.{◌≡◌, ℕ, List, Option, Some, length, sym, ap, subst, ◌∙◌}
use Rattle.sqlite_store.specs.FileStore.{view}
use Rattle.su_schema.specs.SchemaValue.{SchemaValue}
use Rattle.su_state.specs.DatabaseValue.{DatabaseValue}
use Rattle.su_keep.specs.inside.Finds.{FindsKept}
use Rattle.su_keep.proofs.Found.{stands_found, stands_new}
use Rattle.su_keep.proofs.opening.keeper_of.Goals as goal

pub returns-in-Some-clause-at : goal.returns-in-Some-clause-at
returns-in-Some-clause-at g c = λ before stands moves found.
    let is : c.args.found ≡ Some (c.in-Some.database, c.in-Some.text) = search (c.in-Some.is) in
    stands_found before (view c.args.store) c.in-Some.database c.in-Some.text c.relations-relations.result moves
    (subst (λ (f : Option (DatabaseValue × List ℕ)). FindsKept before.trees f) is found)
    stands.settled stands.is_open stands.sound
    (c.relations-relations.ensures ∙ ap (λ (s : SchemaValue). length s.relations) c.schema-in-Some.ensures ∙ sym c.keeps_its_rules-in-Some.ensures.tables)

pub returns-in-None-clause-at : goal.returns-in-None-clause-at
returns-in-None-clause-at g c = λ before stands moves found.
    stands_new before (view c.args.store) moves (subst (λ (f : Option (DatabaseValue × List ℕ)). FindsKept before.trees f) c.in-None.is found) stands.settled stands.is_open stands.sound
