-- Equal changes of databases that are alike have equal answers, and leave them alike.
use Rattle.std.proofs.Common.{◌≡◌, ◌≢◌, ◌<◌, ◌≤◌, ◌+◌, ◌⊎◌, ℕ, Bool, true, false, List, [], length, slice_get, Result, Ok, Err, unwrap_or, refl, ap, sym, ◌∙◌, subst, Contains, inl, inr, arith}
use Rattle.std.specs.Prelude.{◌↔◌}
use Rattle.std.proofs.lemmas.Bool.{cases_eq}
use Rattle.std.proofs.lemmas.List.Sorted.{Contains-permutation, IsPermutation-sym}
use Rattle.std.proofs.lemmas.Option.{unwrap_or-slice_get}
use Rattle.su_base.specs.declared.values.Value.{Value}
use Rattle.su_where.specs.Truth.{truth_of}
use Rattle.su_rel.specs.Stored.{Stored}
use Rattle.su_index.specs.Tables.{rows_at}
use Rattle.su_state.specs.declared.faults.StateFault.{StateFault}
use Rattle.su_state.specs.declared.faults.StateFault.TheVariants.{UnknownRelation, Width, Kind as OtherKind, Breaks, Limit, NoMemory}
use Rattle.su_state.specs.DatabaseValue.{DatabaseValue, HasColumnKinds, columns_of, rows_of}
use Rattle.su_state.specs.Changes.{ChangesOnly, Added, Removed}
use Rattle.su_state.specs.UnfitRows.{IsUnfit}
use Rattle.su_state.specs.Breaches.{Breach, IsFirstOf, IsBreachBy}
use Rattle.su_state.specs.RowChanges.{InsertAnswers, Inserts, DeleteAnswers, Deletes}
use Rattle.su_once.specs.States.{AreAlike, OneOrder, OneInsert, OneDelete, OneDeleteWhere}
use Rattle.su_once.proofs.Rows.{one_sorted_list}
use Rattle.su_once.proofs.Counted.{one_count}
use Rattle.su_once.proofs.Breached.{first_among, one_first, not_unfit, one_unfit}

-- ---- one answer on a database

module _ (db : DatabaseValue) (r : ℕ) (row : List Value) where
  abbrev Answers : Result Bool StateFault → Type 0
  Answers y = InsertAnswers db r row y

  -- a breach by the row
  abbrev with_row : ℕ → ℕ → List Value → Breach
  with_row fd object other = record { dependency = fd; object = object; first = row; second = other }

  module _ (typed : HasColumnKinds (columns_of db r) row) where
    when_there : Contains (rows_of db r) row → (y : Result Bool StateFault) → Answers y → Ok false ≡ y
    when_there there (Ok false) h = refl
    when_there there (Ok true) h = absurd (h.1 there)
    when_there there (Err (Width s given)) h = absurd (not_unfit r (columns_of db r) row (Width s given) typed h)
    when_there there (Err (OtherKind s column)) h = absurd (not_unfit r (columns_of db r) row (OtherKind s column) typed h)
    when_there there (Err (Breaks s f o x)) h = absurd (h.1 there)
    when_there there (Err (Limit s)) h = absurd (h.1 there)
    when_there there (Err NoMemory) h = absurd h
    when_there there (Err (UnknownRelation name)) h = absurd h

    module _ (new : ¬ Contains (rows_of db r) row) where
      when_breaking : (s fd object : ℕ) (other : List Value) → IsFirstOf (IsBreachBy db r row) (with_row fd object other) → s ≡ r → (y : Result Bool StateFault) → Answers y → Err (Breaks s fd object other) ≡ y
      when_breaking s fd object other b at (Ok false) h = absurd (new h.1)
      when_breaking s fd object other b at (Ok true) h = absurd (h.2 (with_row fd object other) b.0)
      when_breaking s fd object other b at (Err (Width t given)) h = absurd (not_unfit r (columns_of db r) row (Width t given) typed h)
      when_breaking s fd object other b at (Err (OtherKind t column)) h = absurd (not_unfit r (columns_of db r) row (OtherKind t column) typed h)
      when_breaking s fd object other b at (Err (Breaks t f o x)) h =
          let same = one_first (IsBreachBy db r row) (with_row fd object other) (with_row f o x) b h.2 in
          let on : s ≡ t = at ∙ sym h.3 in
          λ i. Err (Breaks (on i) (same i).dependency (same i).object (same i).second)
      when_breaking s fd object other b at (Err (Limit t)) h = absurd (h.2 (with_row fd object other) b.0)
      when_breaking s fd object other b at (Err NoMemory) h = absurd h
      when_breaking s fd object other b at (Err (UnknownRelation name)) h = absurd h

      module _ (none : (b : Breach) → ¬ IsBreachBy db r row b) where
        when_full : (s : ℕ) → 1000000 ≤ length (rows_of db r) → s ≡ r → (y : Result Bool StateFault) → Answers y → Err (Limit s) ≡ y
        when_full s many at (Ok false) h = absurd (new h.1)
        when_full s many at (Ok true) h = absurd (let few = h.3 in omega (arith, many, few))
        when_full s many at (Err (Width t given)) h = absurd (not_unfit r (columns_of db r) row (Width t given) typed h)
        when_full s many at (Err (OtherKind t column)) h = absurd (not_unfit r (columns_of db r) row (OtherKind t column) typed h)
        when_full s many at (Err (Breaks t f o x)) h = absurd (none (with_row f o x) h.2.0)
        when_full s many at (Err (Limit t)) h = let on : s ≡ t = at ∙ sym h.4 in λ i. Err (Limit (on i))
        when_full s many at (Err NoMemory) h = absurd h
        when_full s many at (Err (UnknownRelation name)) h = absurd h

        when_added : length (rows_of db r) < 1000000 → (y : Result Bool StateFault) → Answers y → Ok true ≡ y
        when_added few (Ok false) h = absurd (new h.1)
        when_added few (Ok true) h = refl
        when_added few (Err (Width t given)) h = absurd (not_unfit r (columns_of db r) row (Width t given) typed h)
        when_added few (Err (OtherKind t column)) h = absurd (not_unfit r (columns_of db r) row (OtherKind t column) typed h)
        when_added few (Err (Breaks t f o x)) h = absurd (none (with_row f o x) h.2.0)
        when_added few (Err (Limit t)) h = absurd (let many = h.3 in omega (arith, many, few))
        when_added few (Err NoMemory) h = absurd h
        when_added few (Err (UnknownRelation name)) h = absurd h

  when_unfit : (fault : StateFault) → IsUnfit r (columns_of db r) row fault → (y : Result Bool StateFault) → Answers y → Err fault ≡ y
  when_unfit fault u (Ok false) h = absurd (not_unfit r (columns_of db r) row fault h.0 u)
  when_unfit fault u (Ok true) h = absurd (not_unfit r (columns_of db r) row fault h.0 u)
  when_unfit fault u (Err (Width t given)) h = ap Err (one_unfit r (columns_of db r) row fault (Width t given) u h)
  when_unfit fault u (Err (OtherKind t column)) h = ap Err (one_unfit r (columns_of db r) row fault (OtherKind t column) u h)
  when_unfit fault u (Err (Breaks t f o x)) h = absurd (not_unfit r (columns_of db r) row fault h.0 u)
  when_unfit fault u (Err (Limit t)) h = absurd (not_unfit r (columns_of db r) row fault h.0 u)
  when_unfit fault u (Err NoMemory) h = absurd h
  when_unfit fault u (Err (UnknownRelation name)) h = absurd h

  one_answer : (x y : Result Bool StateFault) → Answers x → Answers y → x ≡ y
  one_answer (Ok false) y a b = when_there a.0 a.1 y b
  one_answer (Ok true) y a b = when_added a.0 a.1 a.2 a.3 y b
  one_answer (Err (Width s given)) y a b = when_unfit (Width s given) a y b
  one_answer (Err (OtherKind s column)) y a b = when_unfit (OtherKind s column) a y b
  one_answer (Err (Breaks s f o x)) y a b = when_breaking a.0 a.1 s f o x a.2 a.3 y b
  one_answer (Err (Limit s)) y a b = when_full a.0 a.1 a.2 s a.3 a.4 y b
  one_answer (Err NoMemory) y a b = absurd a
  one_answer (Err (UnknownRelation name)) y a b = absurd a

  answer_of : (x : Result Bool StateFault) (new : DatabaseValue) → Inserts db r row x new → Answers x
  answer_of (Ok true) new h = h.0
  answer_of (Ok false) new h = h.0
  answer_of (Err fault) new h = h.0

  unfit_of : (f : StateFault) → DeleteAnswers db r row (Err f) → IsUnfit r (columns_of db r) row f
  unfit_of (Width s given) h = h
  unfit_of (OtherKind s column) h = h
  unfit_of (Breaks s f o x) h = absurd h
  unfit_of (Limit s) h = absurd h
  unfit_of NoMemory h = absurd h
  unfit_of (UnknownRelation name) h = absurd h

  typed_of : (b : Bool) → DeleteAnswers db r row (Ok b) → HasColumnKinds (columns_of db r) row
  typed_of true h = h.0
  typed_of false h = h.0

  deletes_once : (x y : Result Bool StateFault) → DeleteAnswers db r row x → DeleteAnswers db r row y → x ≡ y
  deletes_once (Ok true) (Ok true) h k = refl
  deletes_once (Ok false) (Ok false) h k = refl
  deletes_once (Ok true) (Ok false) h k = absurd (k.1 h.1)
  deletes_once (Ok false) (Ok true) h k = absurd (h.1 k.1)
  deletes_once (Ok b) (Err g) h k = absurd (not_unfit r (columns_of db r) row g (typed_of b h) (unfit_of g k))
  deletes_once (Err f) (Ok b) h k = absurd (not_unfit r (columns_of db r) row f (typed_of b k) (unfit_of f h))
  deletes_once (Err f) (Err g) h k = ap Err (one_unfit r (columns_of db r) row f g (unfit_of f h) (unfit_of g k))

  delete_answer_of : (x : Result Bool StateFault) (new : DatabaseValue) → Deletes db r row x new → DeleteAnswers db r row x
  delete_answer_of (Ok true) new h = h.0
  delete_answer_of (Ok false) new h = h.0
  delete_answer_of (Err fault) new h = h.0

-- ---- the same answers on a database with the same rows

pub same_schema : (a b : DatabaseValue) → a.schema ≡ b.schema → b ≡ record { schema = a.schema; tables = b.tables }
same_schema a b same = λ i. record { schema = sym same i; tables = b.tables }

module _ (a : DatabaseValue) (tables : List Stored) (rows : (r : ℕ) (row : List Value) → Contains (rows_of a r) row ↔ Contains (rows_at tables r) row) (counts : (r : ℕ) → length (rows_of a r) ≡ length (rows_at tables r)) (r : ℕ) (row : List Value) where
  abbrev b : DatabaseValue
  b = record { schema = a.schema; tables = tables }

  forth : (x : Breach) → IsBreachBy a r row x → IsBreachBy b r row x
  forth x by = record { breach = by.breach; first = by.first; stored = (rows r x.second).0 by.stored }

  back : (x : Breach) → IsBreachBy b r row x → IsBreachBy a r row x
  back x by = record { breach = by.breach; first = by.first; stored = (rows r x.second).1 by.stored }

  none_there : ((x : Breach) → ¬ IsBreachBy a r row x) → (x : Breach) → ¬ IsBreachBy b r row x
  none_there none x by = none x (back x by)

  insert_moves : (x : Result Bool StateFault) → InsertAnswers a r row x → InsertAnswers b r row x
  insert_moves (Ok false) h = (h.0, (rows r row).0 h.1)
  insert_moves (Ok true) h = (h.0, λ there. h.1 ((rows r row).1 there), none_there h.2, subst (λ (n : ℕ). n < 1000000) (counts r) h.3)
  insert_moves (Err (Width s given)) h = h
  insert_moves (Err (OtherKind s column)) h = h
  insert_moves (Err (Breaks s f o x)) h = (h.0, λ there. h.1 ((rows r row).1 there), first_among (IsBreachBy a r row) (IsBreachBy b r row) forth back (record { dependency = f; object = o; first = row; second = x }) h.2, h.3)
  insert_moves (Err (Limit s)) h = (h.0, λ there. h.1 ((rows r row).1 there), none_there h.2, subst (λ (n : ℕ). 1000000 ≤ n) (counts r) h.3, h.4)
  insert_moves (Err NoMemory) h = h
  insert_moves (Err (UnknownRelation name)) h = h

  delete_moves : (x : Result Bool StateFault) → DeleteAnswers a r row x → DeleteAnswers b r row x
  delete_moves (Ok false) h = (h.0, λ there. h.1 ((rows r row).1 there))
  delete_moves (Ok true) h = (h.0, (rows r row).0 h.1)
  delete_moves (Err (Width s given)) h = h
  delete_moves (Err (OtherKind s column)) h = h
  delete_moves (Err (Breaks s f o x)) h = h
  delete_moves (Err (Limit s)) h = h
  delete_moves (Err NoMemory) h = h
  delete_moves (Err (UnknownRelation name)) h = h

-- ---- alike after changes of one relation

rows_there : (t u : List Stored) (r : ℕ) → slice_get t r ≡ slice_get u r → rows_at t r ≡ rows_at u r
rows_there t u r same =
    let none : Stored = record { width = 0; rows = [] } in
    let table = sym (unwrap_or-slice_get t r none) ∙ ap (λ o. unwrap_or o none) same ∙ unwrap_or-slice_get u r none in
    ap (λ (x : Stored). x.rows) table

module _ (a b c d : DatabaseValue) (r : ℕ) (alike : AreAlike a b) where
  module _ (one : ChangesOnly r a c) (other : ChangesOnly r b d) (here : (z : List Value) → Contains (rows_of c r) z ↔ Contains (rows_of d r) z) (count : length (rows_of c r) ≡ length (rows_of d r)) where
    old : (s : ℕ) → s ≢ r → (rows_of c s ≡ rows_of a s) × (rows_of d s ≡ rows_of b s)
    old s differ = (rows_there c.tables a.tables s (one.others s differ), rows_there d.tables b.tables s (other.others s differ))

    rows_by : (s : ℕ) (z : List Value) → (s ≡ r) ⊎ (s ≢ r) → Contains (rows_of c s) z ↔ Contains (rows_of d s) z
    rows_by s z (inl is) = subst (λ (n : ℕ). Contains (rows_of c n) z ↔ Contains (rows_of d n) z) (sym is) (here z)
    rows_by s z (inr differ) =
        let same = old s differ in (
          λ x. subst (λ (rows : List (List Value)). Contains rows z) (sym same.1) ((alike.rows s z).0 (subst (λ (rows : List (List Value)). Contains rows z) same.0 x)),
          λ y. subst (λ (rows : List (List Value)). Contains rows z) (sym same.0) ((alike.rows s z).1 (subst (λ (rows : List (List Value)). Contains rows z) same.1 y)),
        )

    count_at : (s : ℕ) → (s ≡ r) ⊎ (s ≢ r) → length (rows_of c s) ≡ length (rows_of d s)
    count_at s (inl is) = subst (λ (n : ℕ). length (rows_of c n) ≡ length (rows_of d n)) (sym is) count
    count_at s (inr differ) = let same = old s differ in ap (λ (rows : List (List Value)). length rows) same.0 ∙ alike.counts s ∙ sym (ap (λ (rows : List (List Value)). length rows) same.1)

    alike_changed : AreAlike c d
    alike_changed = record {
      schema = one.schema ∙ alike.schema ∙ sym other.schema;
      tables = one.tables ∙ alike.tables ∙ sym other.tables;
      rows = λ s z. rows_by s z (cases_eq s r);
      counts = λ s. count_at s (cases_eq s r);
    }

  alike_same : c ≡ a → d ≡ b → AreAlike c d
  alike_same one other = subst (λ (v : DatabaseValue). AreAlike v d) (sym one) (subst (λ (v : DatabaseValue). AreAlike a v) (sym other) alike)

  module _ (row : List Value) where
    alike_added : Added a r row c → Added b r row d → AreAlike c d
    alike_added x y =
        alike_changed x.only y.only
        (λ z. (
          λ h. (y.rows z).1 (elim ((x.rows z).0 h) [ inl there ↦ inl ((alike.rows r z).0 there) | inr is ↦ inr is ]),
          λ h. (x.rows z).1 (elim ((y.rows z).0 h) [ inl there ↦ inl ((alike.rows r z).1 there) | inr is ↦ inr is ]),
        ))
        (x.count ∙ ap (λ n. n + 1) (alike.counts r) ∙ sym y.count)

    alike_removed : Removed a r row c → Removed b r row d → AreAlike c d
    alike_removed x y =
        alike_changed x.only y.only
        (λ z. (
          λ h. let old = (x.rows z).0 h in (y.rows z).1 ((alike.rows r z).0 old.0, old.1),
          λ h. let old = (y.rows z).0 h in (x.rows z).1 ((alike.rows r z).1 old.0, old.1),
        ))
        (let m = x.count in let n = y.count in let e = alike.counts r in omega (arith, m, n, e))

    alike_inserted : (x : Result Bool StateFault) → Inserts a r row x c → Inserts b r row x d → AreAlike c d
    alike_inserted (Ok true) h k = alike_added h.1 k.1
    alike_inserted (Ok false) h k = alike_same h.1 k.1
    alike_inserted (Err fault) h k = alike_same h.1 k.1

    alike_deleted : (x : Result Bool StateFault) → Deletes a r row x c → Deletes b r row x d → AreAlike c d
    alike_deleted (Ok true) h k = alike_removed h.1 k.1
    alike_deleted (Ok false) h k = alike_same h.1 k.1
    alike_deleted (Err fault) h k = alike_same h.1 k.1

pub one_insert : OneInsert
one_insert a b c d r row x y alike h k =
    let other : DatabaseValue = record { schema = a.schema; tables = b.tables } in
    let k' : Inserts other r row y d = subst (λ (v : DatabaseValue). Inserts v r row y d) (same_schema a b alike.schema) k in
    let same : x ≡ y = one_answer other r row x y (insert_moves a b.tables alike.rows alike.counts r row x (answer_of a r row x c h)) (answer_of other r row y d k') in
    (same, alike_inserted a b c d r alike row x h (subst (λ (v : Result Bool StateFault). Inserts b r row v d) (sym same) k))

pub one_delete : OneDelete
one_delete a b c d r row x y alike h k =
    let other : DatabaseValue = record { schema = a.schema; tables = b.tables } in
    let k' : Deletes other r row y d = subst (λ (v : DatabaseValue). Deletes v r row y d) (same_schema a b alike.schema) k in
    let same : x ≡ y = deletes_once other r row x y (delete_moves a b.tables alike.rows alike.counts r row x (delete_answer_of a r row x c h)) (delete_answer_of other r row y d k') in
    (same, alike_deleted a b c d r alike row x h (subst (λ (v : Result Bool StateFault). Deletes b r row v d) (sym same) k))

pub one_delete_where : OneDeleteWhere
one_delete_where a b c d r condition m n alike kept also h k =
    let counted = one_count (λ row. truth_of condition row) (rows_of a r) (rows_of b r) (kept.differ r) (also.differ r) (λ z. (alike.rows r z).0) (λ z. (alike.rows r z).1) in
    let same : m ≡ n = h.counted ∙ counted ∙ sym k.counted in
    let left = h.left in
    let others = k.left in
    let old = alike.counts r in (
      same,
      alike_changed a b c d r alike h.only k.only
          (λ z. (
            λ x. let there = (h.rows z).0 x in (k.rows z).1 ((alike.rows r z).0 there.0, there.1),
            λ y. let there = (k.rows z).0 y in (h.rows z).1 ((alike.rows r z).1 there.0, there.1),
          ))
          (omega (arith, same, left, others, old)),
    )

pub one_order : OneOrder
one_order a b r rows others alike x y =
    one_sorted_list rows others x.ascending x.once y.ascending y.once
    (λ z there. Contains-permutation (rows_of b r) others z y.same ((alike.rows r z).0 (Contains-permutation rows (rows_of a r) z (IsPermutation-sym (rows_of a r) rows x.same) there)))
    (λ z there. Contains-permutation (rows_of a r) rows z x.same ((alike.rows r z).1 (Contains-permutation others (rows_of b r) z (IsPermutation-sym (rows_of b r) others y.same) there)))
