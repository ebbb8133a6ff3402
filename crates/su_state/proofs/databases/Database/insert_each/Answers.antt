-- The database so far is the first with the rows so far inserted one after another, of which so many were new; the row refused next is what ends the load.
use Rattle.std.proofs.Common.{Bool, Ok, subst, ◌≡◌, ◌++◌, ◌∷◌, [], length, sym, ap, ◌∙◌, append_assoc, add-zero, ◌+◌, true, false, arith}
use Rattle.std.proofs.lemmas.List.{length_push}
use Rattle.std.specs.Vec.Iter.{into_iter_items}
use Rattle.su_state.specs.DatabaseValue.{rows_of}
use Rattle.su_state.specs.RowChanges.{Inserts}
use Rattle.su_state.proofs.Inserts.{changes_by_insert, front_then, inserts_push, refused_at}
use Rattle.su_state.proofs.databases.Database.insert_each.Goals as goal

pub loop-row-preserved-in-Ok-true : goal.loop-row-preserved-in-Ok-true
loop-row-preserved-in-Ok-true c =
    let old = c.loop-row.invariant in
    let whole : c.args.rows ≡ c.loop-row.yielded ++ (c.in-Some.row ∷ into_iter_items c.next.new.self) = old.rest ∙ ap (λ xs. c.loop-row.yielded ++ xs) c.in-Some.ensures.steps.0 in
    let done : Inserts c.loop-row.self c.args.relation c.in-Some.row (Ok true) c.insert.new.self = subst (λ (b : Bool). Inserts c.loop-row.self c.args.relation c.in-Some.row (Ok b) c.insert.new.self) c.in-Ok-true.field-0-test c.in-Ok-true.ensures.done in
    record {
      can_next = tt;
      finite = tt;
      rest = whole ∙ sym (append_assoc c.loop-row.yielded (c.in-Some.row ∷ []) (into_iter_items c.next.new.self));
      number = omega (arith, old.number, length_push c.loop-row.yielded c.in-Some.row);
      few = omega (arith, old.few);
      schema = ap (λ s. length s.relations) (changes_by_insert c.loop-row.self c.insert.new.self c.args.relation c.in-Some.row true done).schema ∙ old.schema;
      front = front_then (rows_of c.args.self.now c.args.relation) (rows_of c.loop-row.self c.args.relation) (rows_of c.insert.new.self c.args.relation) old.front c.insert.ensures.front;
      inserts = inserts_push c.loop-row.yielded c.args.self.now c.loop-row.self c.insert.new.self c.args.relation c.in-Some.row c.loop-row.new true old.inserts done;
    }

pub loop-row-preserved : goal.loop-row-preserved
loop-row-preserved c =
    let old = c.loop-row.invariant in
    let whole : c.args.rows ≡ c.loop-row.yielded ++ (c.in-Some.row ∷ into_iter_items c.next.new.self) = old.rest ∙ ap (λ xs. c.loop-row.yielded ++ xs) c.in-Some.ensures.steps.0 in
    let done : Inserts c.loop-row.self c.args.relation c.in-Some.row (Ok false) c.insert.new.self = subst (λ (b : Bool). Inserts c.loop-row.self c.args.relation c.in-Some.row (Ok b) c.insert.new.self) c.in-Ok-false.field-0-test c.in-Ok-false.ensures.done in
    let all = inserts_push c.loop-row.yielded c.args.self.now c.loop-row.self c.insert.new.self c.args.relation c.in-Some.row c.loop-row.new false old.inserts done in
    record {
      can_next = tt;
      finite = tt;
      rest = whole ∙ sym (append_assoc c.loop-row.yielded (c.in-Some.row ∷ []) (into_iter_items c.next.new.self));
      number = omega (arith, old.number, length_push c.loop-row.yielded c.in-Some.row);
      few = omega (arith, old.few);
      schema = ap (λ s. length s.relations) (changes_by_insert c.loop-row.self c.insert.new.self c.args.relation c.in-Some.row false done).schema ∙ old.schema;
      front = front_then (rows_of c.args.self.now c.args.relation) (rows_of c.loop-row.self c.args.relation) (rows_of c.insert.new.self c.args.relation) old.front c.insert.ensures.front;
      inserts = rw add-zero at all;
    }

pub returns-in-Err-clause-some : goal.returns-in-Err-clause-some
returns-in-Err-clause-some c =
    let old = c.loop-row.invariant in
    let whole : c.args.rows ≡ c.loop-row.yielded ++ (c.in-Some.row ∷ into_iter_items c.next.new.self) = old.rest ∙ ap (λ xs. c.loop-row.yielded ++ xs) c.in-Some.ensures.steps.0 in
    refused_at c.args.self.now c.loop-row.self c.insert.new.self c.args.relation c.args.rows c.loop-row.yielded (into_iter_items c.next.new.self) c.in-Some.row c.loop-row.new (c.loop-row.number + 1) c.in-Err.fault c.end_of.result old.inserts c.in-Err.ensures.refused c.in-Err.ensures.unchanged whole (ap (λ n. n + 1) old.number) c.end_of.ensures

pub returns-in-Err-clause-front : goal.returns-in-Err-clause-front
returns-in-Err-clause-front c = front_then (rows_of c.args.self.now c.args.relation) (rows_of c.loop-row.self c.args.relation) (rows_of c.insert.new.self c.args.relation) c.loop-row.invariant.front c.insert.ensures.front
