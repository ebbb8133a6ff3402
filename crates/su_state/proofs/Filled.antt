-- Rows that may all be put in are inserted one after another.
use Rattle.std.proofs.Common.{◌≡◌, ◌<◌, ◌≤◌, ◌+◌, ℕ, true, false, Ok, List, [], ◌∷◌, ◌++◌, length, slice_get, get_or, None, Some, refl, sym, ap, subst, ◌∙◌, All, Contains, inl, inr, append_assoc, append-nil, arith}
use Rattle.std.proofs.lemmas.List.{length-set, length-map, length_push, set-set}
use Rattle.std.proofs.lemmas.List.Elements.{All-append, All-contains, All-head, All-tail, Contains-get_or, Contains-append_left, Contains-append_right, Contains-append_cases}
use Rattle.su_base.specs.declared.values.Value.{Value}
use Rattle.std.specs.Option.{is_some}
use Rattle.std.specs.Prelude.{MatchOption, Option}
use Rattle.std.proofs.lemmas.Bool.{false≢true}
use Rattle.su_base.specs.declared.values.Column.{Column}
use Rattle.su_base.specs.Value.{kind_of}
use Rattle.su_base.proofs.Items.{Contains-head, Contains-later}
use Rattle.su_fd.specs.declared.dependencies.Fd.{Fd}
use Rattle.su_rel.specs.Changes.{PutInAll}
use Rattle.su_rel.specs.Stored.{Stored, HaveWidth}
use Rattle.su_fd.specs.MetDependencies.{LiesIn}
use Rattle.su_schema.specs.SchemaValue.{SchemaValue, ObjectEntry}
use Rattle.su_schema.specs.Entries.{attributes_of}
use Rattle.su_state.specs.DatabaseValue.{DatabaseValue, table_of, rows_of, columns_of, HasColumnKinds, IsWellKept}
use Rattle.su_state.specs.Enforced.{Break, HoldsOn}
use Rattle.su_state.specs.declared.sides.Sides.{Sides}
use Rattle.su_state.specs.inside.Sides.{AreSidesOf, Clash}
use Rattle.su_state.specs.inside.SomeBreaches.{BreaksNothing}
use Rattle.su_state.specs.RowChanges.{InsertAnswers, Inserts}
use Rattle.su_state.specs.Loads.{InsertsAll}
use Rattle.su_state.specs.inside.Parts.{HaveOneWidth}
use Rattle.su_state.specs.inside.AdmissibleRows.{KeepThrough, MayTake}
use Rattle.su_state.proofs.Columns.{clash_from_break, columns_few}
use Rattle.su_state.proofs.DifferentRows.{differ_put}
use Rattle.su_state.proofs.Kept.{with_table, MayHave, flipped, holds_at, table_here, holds_fewer, kept_with, added_with, unchanged_with, table_read}

-- rows that are put in are of the rows there and of those that are given
put_among : (rows old new : List (List Value)) → PutInAll old rows new → (x : List Value) → Contains new x → Contains (old ++ rows) x
put_among [] old new same x there = rw (append-nil old) (subst (λ (rs : List (List Value)). Contains rs x) same there)
put_among (row ∷ rows) old new (between, inl (stored, same), rest) x there =
    elim (Contains-append_cases old rows x (subst (λ (b : List (List Value)). Contains (b ++ rows) x) same (put_among rows between new rest x there))) [
      | inl early ↦ Contains-append_left old (row ∷ rows) x early
      | inr late ↦ Contains-append_right old (row ∷ rows) x (Contains-later row rows x late)
    ]
put_among (row ∷ rows) old new (between, inr (out, is), rest) x there =
    let assoc : (old ++ row ∷ []) ++ rows ≡ old ++ row ∷ rows = append_assoc old (row ∷ []) rows in
    subst (λ (rs : List (List Value)). Contains rs x) assoc (subst (λ (b : List (List Value)). Contains (b ++ rows) x) is (put_among rows between new rest x there))

put_length : (rows old new : List (List Value)) → PutInAll old rows new → length new ≤ length old + length rows
put_length [] old new same = omega (arith, ap length same)
put_length (row ∷ rows) old new (between, inl (stored, same), rest) = omega (arith, put_length rows between new rest, ap length same)
put_length (row ∷ rows) old new (between, inr (out, is), rest) = omega (arith, put_length rows between new rest, ap length is, length_push old row)

-- the first of the rows breaks nothing
none_broken : (db : DatabaseValue) (r : ℕ) (row : List Value) (rows : List (List Value)) → MayTake db r (row ∷ rows) → BreaksNothing db.schema r (rows_of db r) row
none_broken db r row rows may b by =
    may.enforced b.dependency b.object by.breach.fd by.breach.object by.breach.numbered by.breach.placed by.breach.on b.first b.second
    (subst (Contains (rows_of db r ++ row ∷ rows)) (sym by.first) (Contains-append_right (rows_of db r) (row ∷ rows) row (Contains-head row rows)))
    (Contains-append_left (rows_of db r) (row ∷ rows) b.second by.stored)
    by.breach.broken

-- what holds of the dependency and the object with these numbers
module _ (schema : SchemaValue) (relation : ℕ) (rows : List (List Value)) (f o : ℕ) (fd : Fd) (entry : ObjectEntry) (numbered : slice_get schema.fds f ≡ Some fd) (placed : slice_get schema.objects o ≡ Some entry) where
  pub keeps : HoldsOn fd entry rows → KeepThrough schema relation rows f o
  keeps holds its_fd its_object at_f at_o on row other here there broken =
      let one : Some its_fd ≡ Some fd = sym at_f ∙ numbered in
      let two : Some its_object ≡ Some entry = sym at_o ∙ placed in
      let same_fd : its_fd ≡ fd = cc in
      let same_object : its_object ≡ entry = cc in
      holds row other here there (subst (λ (d : Fd). Break d entry row other) same_fd (subst (λ (e : ObjectEntry). Break its_fd e row other) same_object broken))

  pub keeps_not_enforced : (¬ LiesIn fd (attributes_of entry)) → KeepThrough schema relation rows f o
  keeps_not_enforced out = keeps (λ row other here there broken. out broken.lies)

  pub keeps_unclashing : (sides : Sides) → AreSidesOf entry fd sides → ((row other : List Value) → Contains rows row → Contains rows other → ¬ Clash sides row other) → KeepThrough schema relation rows f o
  keeps_unclashing sides are none = keeps (λ row other here there broken. none row other here there (clash_from_break entry fd sides row other are broken))

-- where nothing is found
pub none_found : {X : Type 0} (found : Option X) (P : Type 0) (Q : X → Type 0) → is_some found ≡ false → MatchOption found P Q → P
none_found None P Q none given = given
none_found (Some x) P Q some given = absurd (false≢true (sym some))

-- rows of which none breaks anything with a row that is there, nor with one another
pub keeps_few : (db : DatabaseValue) (r : ℕ) (rows : List (List Value)) → IsWellKept db → r < length db.tables → All (BreaksNothing db.schema r (rows_of db r)) rows
    → ((f o : ℕ) → KeepThrough db.schema r rows f o) → (f o : ℕ) → KeepThrough db.schema r (rows_of db r ++ rows) f o
keeps_few db r rows kept within none among f o fd object numbered placed on row other here there broken =
    let breach : (x y : List Value) → Contains rows x → Contains (rows_of db r) y → Break fd object x y → ⊥ =
    λ x y given stored bad. All-contains (BreaksNothing db.schema r (rows_of db r)) rows x none given (record { dependency = f; object = o; first = x; second = y })
    (record { breach = record { fd = fd; object = object; numbered = numbered; placed = placed; on = on; broken = bad }; first = refl; stored = stored }) in
    elim (Contains-append_cases (rows_of db r) rows row here) [
      | inl one ↦ elim (Contains-append_cases (rows_of db r) rows other there) [
        | inl two ↦ holds_at db r kept within f o fd object numbered placed on row other one two broken
        | inr two ↦ breach other row two one (flipped fd object row other broken)
      ]
      | inr one ↦ elim (Contains-append_cases (rows_of db r) rows other there) [
        | inl two ↦ breach row other one two broken
        | inr two ↦ among f o fd object numbered placed on row other one two broken
      ]
    ]

-- once the first is there or was there, the others may be put in
may_take_more : (db new : DatabaseValue) (r : ℕ) (row : List Value) (rows : List (List Value)) → MayTake db r (row ∷ rows) → new.schema ≡ db.schema
    → ((x : List Value) → Contains (rows_of new r ++ rows) x → Contains (rows_of db r ++ row ∷ rows) x) → length (rows_of new r) ≤ length (rows_of db r) + 1 → MayTake new r rows
may_take_more db new r row rows may same among few = record {
  typed = rw same (All-tail (HasColumnKinds (columns_of db r)) row rows may.typed);
  enforced = λ f o fd object numbered placed on. holds_fewer fd object (rows_of db r ++ row ∷ rows) (rows_of new r ++ rows) among (may.enforced f o fd object (rw same at numbered) (rw same at placed) on);
  few = omega (arith, may.few, few);
}

-- rows that may all be put in, put in at once, are the same rows inserted one after another
pub inserted_all : (rows : List (List Value)) (db : DatabaseValue) (r : ℕ) (table : Stored) → r < length db.tables → table.width ≡ (table_of db r).width → PutInAll (rows_of db r) rows table.rows → MayTake db r rows
    → (count : ℕ) × (length table.rows ≡ length (rows_of db r) + count) × InsertsAll db r rows count (with_table db r table)
inserted_all [] db r table within width same may =
    let is : table ≡ table_of db r = λ i. record { width = width i; rows = same i } in
    (0, omega (arith, ap length same), (refl, unchanged_with db r table is))
inserted_all (row ∷ rows) db r table within width (between, inl (stored, same), rest) may =
    let put : PutInAll (rows_of db r) rows table.rows = subst (λ (b : List (List Value)). PutInAll b rows table.rows) same rest in
    let more = inserted_all rows db r table within width put
    (may_take_more db db r row rows may refl
    (λ x there. elim (Contains-append_cases (rows_of db r) rows x there) [
      | inl early ↦ Contains-append_left (rows_of db r) (row ∷ rows) x early
      | inr late ↦ Contains-append_right (rows_of db r) (row ∷ rows) x (Contains-later row rows x late)
    ])
    (omega arith)) in
    let none : more.0 ≡ 0 + more.0 = omega arith in
    (more.0, more.1, (db, false, more.0, ((All-head (HasColumnKinds (columns_of db r)) row rows may.typed, stored), refl), more.2, none))
inserted_all (row ∷ rows) db r table within width (between, inr (out, is), rest) may =
    let mid_table : Stored = record { width = (table_of db r).width; rows = rows_of db r ++ row ∷ [] } in
    let mid : DatabaseValue = with_table db r mid_table in
    let here : table_of mid r ≡ mid_table = table_here db r mid_table within in
    let its_rows : rows_of mid r ≡ rows_of db r ++ row ∷ [] = ap (λ t. t.rows) here in
    let its_within : r < length mid.tables = omega (arith, within, length-set db.tables r mid_table) in
    let put : PutInAll (rows_of mid r) rows table.rows = subst (λ (b : List (List Value)). PutInAll b rows table.rows) (is ∙ sym its_rows) rest in
    let assoc : (rows_of db r ++ row ∷ []) ++ rows ≡ rows_of db r ++ row ∷ rows = append_assoc (rows_of db r) (row ∷ []) rows in
    let more = inserted_all rows mid r table its_within (width ∙ sym (ap (λ t. t.width) here)) put
    (may_take_more db mid r row rows may refl
    (λ x there. subst (λ (rs : List (List Value)). Contains rs x) assoc (subst (λ (b : List (List Value)). Contains (b ++ rows) x) its_rows there))
    (omega (arith, ap length its_rows, length_push (rows_of db r) row))) in
    let last : with_table mid r table ≡ with_table db r table = λ i. record { schema = db.schema; tables = set-set db.tables r mid_table table i } in
    let answers : InsertAnswers db r row (Ok true) = (All-head (HasColumnKinds (columns_of db r)) row rows may.typed, out, none_broken db r row rows may, omega (arith, may.few)) in
    let one : Inserts db r row (Ok true) mid = (answers, added_with db r row mid_table within refl refl) in
    (1 + more.0, omega (arith, more.1, ap length its_rows, length_push (rows_of db r) row), (mid, true, more.0, one, subst (λ (d : DatabaseValue). InsertsAll mid r rows more.0 d) last more.2, refl))

pub typed_width : (columns : List Column) (row : List Value) → HasColumnKinds columns row → length row ≡ length columns
typed_width columns row typed = sym (length-map row kind_of) ∙ ap length typed ∙ length-map columns (λ c. c.kind)

-- stored rows and rows of their relation's kinds are all as long as one another, and short
pub one_width : (rows : List (List Value)) (width : ℕ) → HaveWidth width rows → HaveOneWidth rows
one_width rows width all row other here there = All-contains (λ r. length r ≡ width) rows row all here ∙ sym (All-contains (λ r. length r ≡ width) rows other all there)

pub short : (rows : List (List Value)) (width : ℕ) → width ≤ 32 → HaveWidth width rows → All (λ row. length row ≤ 32) rows
short rows width few all k d less = omega (arith, few, all k d less)

-- rows of the relation's kinds have its table's width
pub wide : (db : DatabaseValue) (r : ℕ) (rows : List (List Value)) (old : Stored) → IsWellKept db → r < length db.tables → old ≡ get_or db.tables r old → All (HasColumnKinds (columns_of db r)) rows → HaveWidth old.width rows
wide db r rows old kept within is typed k d less =
    typed_width (columns_of db r) (get_or rows k d) (typed k d less) ∙ sym (ap (λ t. t.width) (table_read db r old within is) ∙ kept.widths r within)

pub narrow : (db : DatabaseValue) (r : ℕ) (old : Stored) → IsWellKept db → r < length db.tables → old ≡ get_or db.tables r old → old.width ≤ 32
narrow db r old kept within is =
    let width : old.width ≡ length (columns_of db r) = ap (λ t. t.width) (table_read db r old within is) ∙ kept.widths r within in
    omega (arith, width, columns_few db.schema r kept.valid (omega (arith, within, kept.tables)))

-- a table of the database, and what it is once the rows are put in
module _ (db : DatabaseValue) (r : ℕ) (rows : List (List Value)) (old new : Stored) (kept : IsWellKept db) (within : r < length db.tables) (is : old ≡ get_or db.tables r old) (may : MayTake db r rows) (width : new.width ≡ old.width) where
  filled : old ≡ table_of db r
  filled = table_read db r old within is

  may_have : PutInAll old.rows rows new.rows → MayHave db r new
  may_have put =
      let own : PutInAll (rows_of db r) rows new.rows = subst (λ (t : Stored). PutInAll t.rows rows new.rows) filled put in
      let typed : All (HasColumnKinds (columns_of db r)) (rows_of db r ++ rows) = All-append (HasColumnKinds (columns_of db r)) (rows_of db r) rows (kept.typed r within) may.typed in
      record {
        width = width ∙ ap (λ t. t.width) filled ∙ kept.widths r within;
        typed = λ k d less. All-contains (HasColumnKinds (columns_of db r)) (rows_of db r ++ rows) (get_or new.rows k d) typed (put_among rows (rows_of db r) new.rows own (get_or new.rows k d) (Contains-get_or new.rows k d less));
        enforced = λ f o fd object numbered placed on. holds_fewer fd object (rows_of db r ++ rows) new.rows (put_among rows (rows_of db r) new.rows own) (may.enforced f o fd object numbered placed on);
        few = omega (arith, put_length rows (rows_of db r) new.rows own, may.few);
        differ = differ_put rows (rows_of db r) new.rows (kept.differ r) own;
      }

  pub kept_filled : PutInAll old.rows rows new.rows → IsWellKept (with_table db r new)
  kept_filled put = kept_with db r new kept within (may_have put)

  pub filled_all : (count : ℕ) → PutInAll old.rows rows new.rows → length new.rows ≡ length old.rows + count → InsertsAll db r rows count (with_table db r new)
  filled_all count put counted =
      let own : PutInAll (rows_of db r) rows new.rows = subst (λ (t : Stored). PutInAll t.rows rows new.rows) filled put in
      let all = inserted_all rows db r new within (width ∙ ap (λ t. t.width) filled) own may in
      let same : all.0 ≡ count = omega (arith, all.1, counted, ap (λ t. length t.rows) filled) in
      subst (λ (n : ℕ). InsertsAll db r rows n (with_table db r new)) same all.2
