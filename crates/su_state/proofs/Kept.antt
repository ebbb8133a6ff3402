-- A database stays well kept where one table becomes another that its relation may have.
use Rattle.std.proofs.Common.{◌≡◌, ◌≢◌, ◌<◌, ◌≤◌, ◌+◌, ℕ, Bool, true, false, Ok, List, [], ◌∷◌, ◌++◌, length, slice_get, get_or, set, take, Some, zero, suc, refl, sym, ap, subst, ◌∙◌, All, Contains, inl, inr, arith}
use Rattle.std.specs.Prelude.{◌↔◌, if◌then◌else◌, IsTrue, Result, Err, IfOk, OnErr, MatchBool}
use Rattle.std.specs.Bool.{OnFalse}
use Rattle.std.proofs.lemmas.Bool.{cases_eq, false≢true}
use Rattle.std.proofs.lemmas.List.{get_or-set_same, get_or-set_other, length-set, length_push, set-get_or, get_or_read}
use Rattle.std.proofs.Math.Seq.{take-append_seam, take-length}
use Rattle.std.proofs.lemmas.List.Elements.{All-push, All-contains, Contains-get_or, Contains-push, Contains-push_cases, Contains-append_left}
use Rattle.std.proofs.lemmas.Option.{slice_get-get_or, slice_get_within, get_or_from_slice_get}
use Rattle.su_base.specs.declared.values.Value.{Value}
use Rattle.su_base.specs.declared.values.Column.{Column}
use Rattle.su_fd.specs.declared.dependencies.Fd.{Fd}
use Rattle.su_rel.specs.Changes.{TakenOut}
use Rattle.su_base.specs.Lists.{AllDiffer}
use Rattle.su_base.proofs.Items.{AllDiffer-push}
use Rattle.su_rel.specs.Stored.{Stored}
use Rattle.su_schema.specs.SchemaValue.{SchemaValue, ObjectEntry}
use Rattle.su_schema.specs.Entries.{relation_columns}
use Rattle.su_state.specs.DatabaseValue.{DatabaseValue, table_of, rows_of, columns_of, HasColumnKinds, IsWellKept}
use Rattle.su_state.specs.Enforced.{read, Break, HoldsOn}
use Rattle.su_state.specs.Changes.{ChangesOnly, Added, Removed}
use Rattle.su_state.specs.inside.SomeBreaches.{BreaksNothing}
use Rattle.su_state.specs.RowChanges.{Deletes, InsertAnswers, Inserts}

abbrev pub blank : Stored
blank = record { width = 0; rows = [] }

-- the database with another table for a relation
abbrev pub with_table : DatabaseValue → ℕ → Stored → DatabaseValue
with_table db r table = record { schema = db.schema; tables = set db.tables r table }

-- the table is one that the relation may have
pub record MayHave (db : DatabaseValue) (r : ℕ) (table : Stored) : Type 0 where
  pub width : table.width ≡ length (columns_of db r)
  pub typed : All (HasColumnKinds (columns_of db r)) table.rows
  pub enforced : (f o : ℕ) (fd : Fd) (object : ObjectEntry) → slice_get db.schema.fds f ≡ Some fd → slice_get db.schema.objects o ≡ Some object → object.relation ≡ r → HoldsOn fd object table.rows
  pub few : length table.rows ≤ 1000000
  pub differ : AllDiffer table.rows

pub table_here : (db : DatabaseValue) (r : ℕ) (table : Stored) → r < length db.tables → table_of (with_table db r table) r ≡ table
table_here db r table within = get_or-set_same db.tables r table blank within

table_elsewhere : (db : DatabaseValue) (r q : ℕ) (table : Stored) → q ≢ r → table_of (with_table db r table) q ≡ table_of db q
table_elsewhere db r q table apart = get_or-set_other db.tables r q table blank apart

by_relation : (P : Stored → ℕ → Type 0) (db : DatabaseValue) (r : ℕ) (table : Stored) → r < length db.tables → P table r → ((q : ℕ) → P (table_of db q) q) → (q : ℕ) → P (table_of (with_table db r table) q) q
by_relation P db r table within here others q =
    elim (cases_eq q r) [
      | inl is ↦ subst (λ (k : ℕ). P (table_of (with_table db r table) k) k) (sym is) (subst (λ (t : Stored). P t r) (sym (table_here db r table within)) here)
      | inr apart ↦ subst (λ (t : Stored). P t q) (sym (table_elsewhere db r q table apart)) (others q)
    ]

pub kept_with : (db : DatabaseValue) (r : ℕ) (table : Stored) → IsWellKept db → r < length db.tables → MayHave db r table → IsWellKept (with_table db r table)
kept_with db r table kept within may =
    let same : length (set db.tables r table) ≡ length db.tables = length-set db.tables r table in
    record {
      valid = kept.valid;
      tables = same ∙ kept.tables;
      widths = λ q less. by_relation (λ t q. q < length db.tables → t.width ≡ length (columns_of db q)) db r table within (λ _. may.width) (λ q l. kept.widths q l) q (omega (arith, less, same));
      typed = λ q less. by_relation (λ t q. q < length db.tables → All (HasColumnKinds (columns_of db q)) t.rows) db r table within (λ _. may.typed) (λ q l. kept.typed q l) q (omega (arith, less, same));
      enforced = λ f df hf o do' ho.
          let fd : Fd = get_or db.schema.fds f df in
          let object : ObjectEntry = get_or db.schema.objects o do' in
          by_relation (λ t q. object.relation ≡ q → HoldsOn fd object t.rows) db r table within
          (λ on. may.enforced f o fd object (slice_get-get_or db.schema.fds f df hf) (slice_get-get_or db.schema.objects o do' ho) on)
          (λ q on. subst (λ (k : ℕ). HoldsOn fd object (rows_of db k)) on (kept.enforced f df hf o do' ho))
          object.relation refl;
      few = λ q. by_relation (λ t q. length t.rows ≤ 1000000) db r table within may.few (λ q. kept.few q) q;
      differ = λ q. by_relation (λ t q. AllDiffer t.rows) db r table within may.differ (λ q. kept.differ q) q;
    }

pub flipped : (fd : Fd) (object : ObjectEntry) (row other : List Value) → Break fd object row other → Break fd object other row
flipped fd object row other broken = record {
  lies = broken.lies;
  agree = λ a there. sym (broken.agree a there);
  differ = λ all. broken.differ (λ a there. sym (all a there));
}

-- a dependency that held holds with one more row, which breaks nothing
holds_added : (schema : SchemaValue) (r : ℕ) (rows : List (List Value)) (row : List Value) (f o : ℕ) (fd : Fd) (object : ObjectEntry) → slice_get schema.fds f ≡ Some fd → slice_get schema.objects o ≡ Some object → object.relation ≡ r → BreaksNothing schema r rows row → HoldsOn fd object rows → HoldsOn fd object (rows ++ row ∷ [])
holds_added schema r rows row f o fd object numbered placed on none holds x y in_x in_y broken =
    let breach : (other : List Value) → Contains rows other → Break fd object row other → ⊥ =
    λ other stored bad. none (record { dependency = f; object = o; first = row; second = other })
    (record { breach = record { fd = fd; object = object; numbered = numbered; placed = placed; on = on; broken = bad }; first = refl; stored = stored }) in
    elim (Contains-push_cases rows row x in_x) [
      | inl old_x ↦ elim (Contains-push_cases rows row y in_y) [
        | inl old_y ↦ holds x y old_x old_y broken
        | inr is_y ↦ breach x old_x (flipped fd object x row (subst (Break fd object x) (sym is_y) broken))
      ]
      | inr is_x ↦ elim (Contains-push_cases rows row y in_y) [
        | inl old_y ↦ breach y old_y (subst (λ (z : List Value). Break fd object z y) (sym is_x) broken)
        | inr is_y ↦ broken.differ (λ a there. ap (read object a) (sym is_x ∙ is_y))
      ]
    ]

pub holds_fewer : (fd : Fd) (object : ObjectEntry) (rows fewer : List (List Value)) → ((x : List Value) → Contains fewer x → Contains rows x) → HoldsOn fd object rows → HoldsOn fd object fewer
holds_fewer fd object rows fewer among holds x y in_x in_y = holds x y (among x in_x) (among y in_y)

module _ (db : DatabaseValue) (r : ℕ) (kept : IsWellKept db) (within : r < length db.tables) where
  pub holds_at : (f o : ℕ) (fd : Fd) (object : ObjectEntry) → slice_get db.schema.fds f ≡ Some fd → slice_get db.schema.objects o ≡ Some object → object.relation ≡ r → HoldsOn fd object (rows_of db r)
  holds_at f o fd object numbered placed on =
      let is_fd = get_or_from_slice_get db.schema.fds f fd fd numbered in
      let is_object = get_or_from_slice_get db.schema.objects o object object placed in
      let old = kept.enforced f fd (slice_get_within db.schema.fds f fd numbered) o object (slice_get_within db.schema.objects o object placed) in
      subst (λ (k : ℕ). HoldsOn fd object (rows_of db k)) on (rw (is_fd, is_object) at old)

  pub may_add : (row : List Value) (table : Stored) → HasColumnKinds (columns_of db r) row → (¬ Contains (rows_of db r) row) → BreaksNothing db.schema r (rows_of db r) row → length (rows_of db r) < 1000000
      → table.width ≡ (table_of db r).width → table.rows ≡ rows_of db r ++ row ∷ [] → MayHave db r table
  may_add row table typed out none few width rows = record {
    width = width ∙ kept.widths r within;
    typed = rw rows (All-push (HasColumnKinds (columns_of db r)) (rows_of db r) row (kept.typed r within) typed);
    enforced = λ f o fd object numbered placed on. rw rows (holds_added db.schema r (rows_of db r) row f o fd object numbered placed on none (holds_at f o fd object numbered placed on));
    few = rw rows (omega (arith, length_push (rows_of db r) row));
    differ = rw rows (AllDiffer-push (rows_of db r) row (kept.differ r) out);
  }

  pub may_lose : (table : Stored) → table.width ≡ (table_of db r).width → ((x : List Value) → Contains table.rows x → Contains (rows_of db r) x) → length table.rows ≤ length (rows_of db r) → AllDiffer table.rows → MayHave db r table
  may_lose table width among fewer differ = record {
    width = width ∙ kept.widths r within;
    typed = λ k d less. All-contains (HasColumnKinds (columns_of db r)) (rows_of db r) (get_or table.rows k d) (kept.typed r within) (among (get_or table.rows k d) (Contains-get_or table.rows k d less));
    enforced = λ f o fd object numbered placed on. holds_fewer fd object (rows_of db r) table.rows among (holds_at f o fd object numbered placed on);
    few = omega (arith, fewer, kept.few r);
    differ = differ;
  }

slice_get-set_other : {X : Type 0} (xs : List X) (r q : ℕ) (x : X) → q ≢ r → slice_get (set xs r x) q ≡ slice_get xs q
slice_get-set_other [] r q x apart = refl
slice_get-set_other (y ∷ xs) zero zero x apart = absurd (apart refl)
slice_get-set_other (y ∷ xs) zero (suc q) x apart = refl
slice_get-set_other (y ∷ xs) (suc r) zero x apart = refl
slice_get-set_other (y ∷ xs) (suc r) (suc q) x apart = slice_get-set_other xs r q x (λ is. apart (ap suc is))

pub changes_with : (db : DatabaseValue) (r : ℕ) (table : Stored) → r < length db.tables → table.width ≡ (table_of db r).width → ChangesOnly r db (with_table db r table)
changes_with db r table within width = record {
  schema = refl;
  tables = length-set db.tables r table;
  width = ap (λ t. t.width) (table_here db r table within) ∙ width;
  others = λ q apart. slice_get-set_other db.tables r q table apart;
}

pub added_with : (db : DatabaseValue) (r : ℕ) (row : List Value) (table : Stored) → r < length db.tables → table.width ≡ (table_of db r).width → table.rows ≡ rows_of db r ++ row ∷ [] → Added db r row (with_table db r table)
added_with db r row table within width rows =
    let here : rows_of (with_table db r table) r ≡ rows_of db r ++ row ∷ [] = ap (λ t. t.rows) (table_here db r table within) ∙ rows in
    record {
      only = changes_with db r table within width;
      rows = λ other. rw here (
        λ there. elim (Contains-push_cases (rows_of db r) row other there) [ inl old ↦ inl old | inr is ↦ inr (sym is) ],
        λ case. elim case [ inl old ↦ Contains-append_left (rows_of db r) (row ∷ []) other old | inr is ↦ rw is (Contains-push (rows_of db r) row) ],
      );
      count = rw here (length_push (rows_of db r) row);
    }

pub removed_with : (db : DatabaseValue) (r : ℕ) (row : List Value) (table : Stored) → r < length db.tables → table.width ≡ (table_of db r).width
    → ((other : List Value) → Contains table.rows other ↔ (Contains (rows_of db r) other × (other ≢ row))) → length table.rows + 1 ≡ length (rows_of db r) → Removed db r row (with_table db r table)
removed_with db r row table within width rows count =
    let here : rows_of (with_table db r table) r ≡ table.rows = ap (λ t. t.rows) (table_here db r table within) in
    record {
      only = changes_with db r table within width;
      rows = λ other. rw here (rows other);
      count = rw here count;
    }

pub unchanged_with : (db : DatabaseValue) (r : ℕ) (table : Stored) → table ≡ table_of db r → with_table db r table ≡ db
unchanged_with db r table same i = record { schema = db.schema; tables = (ap (set db.tables r) same ∙ set-get_or db.tables r blank) i }

-- a relation of the schema has a table
pub has_table : (db now : DatabaseValue) (r : ℕ) → db ≡ now → IsWellKept db → r < length now.schema.relations → r < length db.tables
has_table db now r same kept within = omega (arith, within, kept.tables, ap (λ d. length d.schema.relations) same)

-- the table that a read of the tables gives
pub table_read : (db : DatabaseValue) (r : ℕ) (table : Stored) → r < length db.tables → table ≡ get_or db.tables r table → table ≡ table_of db r
table_read db r table within is = get_or_read db.tables r table within is blank

-- the columns that the schema answers
pub columns_read : (db : DatabaseValue) (r : ℕ) (columns : List Column) → slice_get (relation_columns db.schema) r ≡ Some columns → columns_of db r ≡ columns
columns_read db r columns at = get_or_from_slice_get (relation_columns db.schema) r columns [] at

-- a table of the database, and what a delete of a row makes of it
module _ (db : DatabaseValue) (r : ℕ) (row : List Value) (old new : Stored) (kept : IsWellKept db) (within : r < length db.tables) (is : old ≡ get_or db.tables r old) (width : new.width ≡ old.width) (out : TakenOut old.rows row new.rows) where
  taken_from : old ≡ table_of db r
  taken_from = table_read db r old within is

  pub kept_without : length new.rows ≤ length old.rows → AllDiffer new.rows → IsWellKept (with_table db r new)
  kept_without count differ =
      kept_with db r new kept within
      (may_lose db r kept within new (width ∙ ap (λ t. t.width) taken_from)
      (λ x there. subst (λ (t : Stored). Contains t.rows x) taken_from ((out x).0 there).0)
      (omega (arith, count, ap (λ t. length t.rows) taken_from)) differ)

  pub deleted : (b : Bool) → length new.rows + (if b then 1 else 0) ≡ length old.rows → HasColumnKinds (columns_of db r) row → (IsTrue b ↔ Contains old.rows row) → OnFalse b (new ≡ old) → Deletes db r row (Ok b) (with_table db r new)
  deleted true count typed there same = (
    (typed, subst (λ (t : Stored). Contains t.rows row) taken_from (there.0 refl)),
    removed_with db r row new within (width ∙ ap (λ t. t.width) taken_from)
        (λ other. subst (λ (t : Stored). Contains new.rows other ↔ (Contains t.rows other × (other ≢ row))) taken_from (out other))
        (omega (arith, count, ap (λ t. length t.rows) taken_from)),
  )
  deleted false count typed there same = (
    (typed, λ here. false≢true (there.1 (subst (λ (t : Stored). Contains t.rows row) (sym taken_from) here))),
    unchanged_with db r new (same ∙ taken_from),
  )

-- a table of the database, and what an insert of a row that may be added makes of it
module _ (db : DatabaseValue) (r : ℕ) (row : List Value) (old new : Stored) (kept : IsWellKept db) (within : r < length db.tables) (is : old ≡ get_or db.tables r old) (width : new.width ≡ old.width) (answers : InsertAnswers db r row (Ok true)) where
  put_into : old ≡ table_of db r
  put_into = table_read db r old within is

  pub kept_same : new ≡ old → IsWellKept (with_table db r new)
  kept_same same = subst IsWellKept (sym (unchanged_with db r new (same ∙ put_into))) kept

  pub kept_inserted : {E : Type 0} (result : Result Bool E) → IfOk result (λ b. MatchBool b ((¬ Contains old.rows row) × (new.rows ≡ old.rows ++ row ∷ [])) (Contains old.rows row × (new ≡ old))) → OnErr result (new ≡ old) → IsWellKept (with_table db r new)
  kept_inserted (Ok true) (out, rows) unchanged =
      kept_with db r new kept within
      (may_add db r kept within row new answers.0 answers.1 answers.2 answers.3 (width ∙ ap (λ t. t.width) put_into) (rows ∙ ap (λ t. t.rows ++ row ∷ []) put_into))
  kept_inserted (Ok false) (there, same) unchanged = kept_same same
  kept_inserted (Err e) ok unchanged = kept_same unchanged

  -- the rows that were there still stand first
  front_of : (rows : List (List Value)) → new.rows ≡ rows → take (length (rows_of db r)) rows ≡ rows_of db r → take (length (rows_of db r)) (rows_of (with_table db r new) r) ≡ rows_of db r
  front_of rows are front = ap (λ (t : Stored). take (length (rows_of db r)) t.rows) (table_here db r new within) ∙ ap (take (length (rows_of db r))) are ∙ front

  front_same : new ≡ old → take (length (rows_of db r)) (rows_of (with_table db r new) r) ≡ rows_of db r
  front_same same = front_of (rows_of db r) (ap (λ (t : Stored). t.rows) (same ∙ put_into)) (take-length (rows_of db r))

  pub front_kept : {E : Type 0} (result : Result Bool E) → IfOk result (λ b. MatchBool b ((¬ Contains old.rows row) × (new.rows ≡ old.rows ++ row ∷ [])) (Contains old.rows row × (new ≡ old))) → OnErr result (new ≡ old) → take (length (rows_of db r)) (rows_of (with_table db r new) r) ≡ rows_of db r
  front_kept (Ok true) (out, rows) unchanged = front_of (rows_of db r ++ row ∷ []) (rows ∙ ap (λ (t : Stored). t.rows ++ row ∷ []) put_into) (take-append_seam (rows_of db r) (row ∷ []))
  front_kept (Ok false) (there, same) unchanged = front_same same
  front_kept (Err e) ok unchanged = front_same unchanged

  pub inserted : (b : Bool) → MatchBool b ((¬ Contains old.rows row) × (new.rows ≡ old.rows ++ row ∷ [])) (Contains old.rows row × (new ≡ old)) → Inserts db r row (Ok true) (with_table db r new)
  inserted true (out, rows) = (answers, added_with db r row new within (width ∙ ap (λ t. t.width) put_into) (rows ∙ ap (λ t. t.rows ++ row ∷ []) put_into))
  inserted false (there, same) = absurd (answers.1 (subst (λ (t : Stored). Contains t.rows row) put_into there))
