-- Which rows a tree holds after rows are put in or taken out.
use Rattle.std.proofs.Common.{◌≡◌, ◌⊎◌, inl, inr, ⊎_elim, Bool, true, false, cond, List, [], ◌∷◌, map, Contains, refl, sym, ap, ◌∙◌, subst}
use Rattle.std.proofs.lemmas.Bool.{true≢false}
use Rattle.std.proofs.lemmas.Cmp.{tied_itself}
use Rattle.std.specs.List.{filter}
use Rattle.std.specs.Ordering.{is_eq, match_ordering}
use Rattle.std.specs.Prelude.{not}
use Rattle.std.specs.declared.cmp.Ordering.{Ordering}
use Rattle.std.specs.declared.cmp.Ordering.TheVariants.{Less, Equal, Greater}
use Rattle.su_base.specs.declared.values.Value.{Value as AValue}
use Rattle.su_base.specs.Value.{compare_lists}
use Rattle.su_base.proofs.Items.{Contains-nil, Contains-head, Contains-later, Contains-cases, Contains-filter, Contains-filter_source}
use Rattle.su_base.proofs.Rows.{equal_rows, rows_total}
use Rattle.sqlite_value.specs.Keys.{plain}
use Rattle.sqlite_value.specs.Order.{Row as Entry}
use Rattle.sqlite_trees.specs.Tree.{insert_entry, remove_entry}
use Rattle.su_entries.specs.Entries.{entry_of}
use Rattle.su_entries.specs.Changes.{with_rows, without_rows}
use Rattle.su_entries.specs.TreeRows.{AreEntries, Adds, Leaves}
use Rattle.su_entries.proofs.EntryOrder.{entries_order}

-- ---- one row is put in

abbrev insert_row : List AValue → List (List AValue) → List (List AValue)
insert_row new [] = new ∷ []
insert_row new (row ∷ rows) = match_ordering (compare_lists row new) (row ∷ insert_row new rows) (row ∷ rows) (new ∷ row ∷ rows)

chosen : (o : Ordering) (f : List (List AValue) → List Entry) (a b c : List (List AValue)) → match_ordering o (f a) (f b) (f c) ≡ f (match_ordering o a b c)
chosen Less f a b c = refl
chosen Equal f a b c = refl
chosen Greater f a b c = refl

insert_row-entries : (new : List AValue) (rows : List (List AValue)) → insert_entry plain (entry_of new) (map entry_of rows) ≡ map entry_of (insert_row new rows)
insert_row-entries new [] = refl
insert_row-entries new (row ∷ rows) =
    (λ i. match_ordering (entries_order row new i) (entry_of row ∷ insert_row-entries new rows i) (map entry_of (row ∷ rows)) (map entry_of (new ∷ row ∷ rows)))
    ∙ chosen (compare_lists row new) (map entry_of) (row ∷ insert_row new rows) (row ∷ rows) (new ∷ row ∷ rows)

insert_row-has : (new : List AValue) (rows : List (List AValue)) → Contains (insert_row new rows) new
insert_row-has new [] = Contains-head new []
insert_row-has new (row ∷ rows) =
    elim (compare_lists row new) as (λ o. compare_lists row new ≡ o → Contains (match_ordering o (row ∷ insert_row new rows) (row ∷ rows) (new ∷ row ∷ rows)) new) [
      | Less ↦ λ e. Contains-later row (insert_row new rows) new (insert_row-has new rows)
      | Equal ↦ λ e. subst (Contains (row ∷ rows)) (equal_rows row new e) (Contains-head row rows)
      | Greater ↦ λ e. Contains-head new (row ∷ rows)
    ] refl

insert_row-keeps : (new : List AValue) (rows : List (List AValue)) (x : List AValue) → Contains rows x → Contains (insert_row new rows) x
insert_row-keeps new [] x c = absurd (Contains-nil x c)
insert_row-keeps new (row ∷ rows) x c =
    elim (compare_lists row new) as (λ o. Contains (match_ordering o (row ∷ insert_row new rows) (row ∷ rows) (new ∷ row ∷ rows)) x) [
      | Less ↦ ⊎_elim
          (λ (e : row ≡ x). subst (Contains (row ∷ insert_row new rows)) e (Contains-head row (insert_row new rows)))
          (λ (r : Contains rows x). Contains-later row (insert_row new rows) x (insert_row-keeps new rows x r))
          (Contains-cases row rows x c)
      | Equal ↦ c
      | Greater ↦ Contains-later new (row ∷ rows) x c
    ]

insert_row-only : (new : List AValue) (rows : List (List AValue)) (x : List AValue) → Contains (insert_row new rows) x → Contains rows x ⊎ (new ≡ x)
insert_row-only new [] x c = ⊎_elim (λ (e : new ≡ x). inr e) (λ (r : Contains [] x). inl r) (Contains-cases new [] x c)
insert_row-only new (row ∷ rows) x c =
    elim (compare_lists row new) as (λ o. Contains (match_ordering o (row ∷ insert_row new rows) (row ∷ rows) (new ∷ row ∷ rows)) x → Contains (row ∷ rows) x ⊎ (new ≡ x)) [
      | Less ↦ λ k. ⊎_elim
          (λ (e : row ≡ x). inl (subst (Contains (row ∷ rows)) e (Contains-head row rows)))
          (λ (r : Contains (insert_row new rows) x). ⊎_elim (λ (s : Contains rows x). inl (Contains-later row rows x s)) (λ (e : new ≡ x). inr e) (insert_row-only new rows x r))
          (Contains-cases row (insert_row new rows) x k)
      | Equal ↦ λ k. inl k
      | Greater ↦ λ k. ⊎_elim (λ (e : new ≡ x). inr e) (λ (r : Contains (row ∷ rows) x). inl r) (Contains-cases new (row ∷ rows) x k)
    ] c

-- ---- rows are put in

abbrev insert_rows : List (List AValue) → List (List AValue) → List (List AValue)
insert_rows [] rows = rows
insert_rows (new ∷ more) rows = insert_rows more (insert_row new rows)

insert_rows-entries : (more rows : List (List AValue)) → with_rows plain more (map entry_of rows) ≡ map entry_of (insert_rows more rows)
insert_rows-entries [] rows = refl
insert_rows-entries (new ∷ more) rows = ap (with_rows plain more) (insert_row-entries new rows) ∙ insert_rows-entries more (insert_row new rows)

insert_rows-keeps : (more rows : List (List AValue)) (x : List AValue) → Contains rows x → Contains (insert_rows more rows) x
insert_rows-keeps [] rows x c = c
insert_rows-keeps (new ∷ more) rows x c = insert_rows-keeps more (insert_row new rows) x (insert_row-keeps new rows x c)

insert_rows-has : (more rows : List (List AValue)) (x : List AValue) → Contains more x → Contains (insert_rows more rows) x
insert_rows-has [] rows x c = absurd (Contains-nil x c)
insert_rows-has (new ∷ more) rows x c =
    ⊎_elim
    (λ (e : new ≡ x). insert_rows-keeps more (insert_row new rows) x (subst (Contains (insert_row new rows)) e (insert_row-has new rows)))
    (λ (r : Contains more x). insert_rows-has more (insert_row new rows) x r)
    (Contains-cases new more x c)

insert_rows-only : (more rows : List (List AValue)) (x : List AValue) → Contains (insert_rows more rows) x → Contains rows x ⊎ Contains more x
insert_rows-only [] rows x c = inl c
insert_rows-only (new ∷ more) rows x c =
    ⊎_elim
    (λ (r : Contains (insert_row new rows) x). ⊎_elim
    (λ (s : Contains rows x). inl s)
    (λ (e : new ≡ x). inr (subst (Contains (new ∷ more)) e (Contains-head new more)))
    (insert_row-only new rows x r))
    (λ (r : Contains more x). inr (Contains-later new more x r))
    (insert_rows-only more (insert_row new rows) x c)

pub put_in-rows : (entries : List Entry) (more before after : List (List AValue)) → AreEntries entries before → Adds before more after → AreEntries (with_rows plain more entries) after
put_in-rows entries more before after held adds = record {
  sorted = insert_rows more held.sorted;
  each = ap (with_rows plain more) held.each ∙ insert_rows-entries more held.sorted;
  same = λ row. (
    λ c. (adds row).1 (⊎_elim (λ (r : Contains held.sorted row). inl ((held.same row).0 r)) (λ (r : Contains more row). inr r) (insert_rows-only more held.sorted row c)),
    λ c. ⊎_elim
        (λ (r : Contains before row). insert_rows-keeps more held.sorted row ((held.same row).1 r))
        (λ (r : Contains more row). insert_rows-has more held.sorted row r)
        ((adds row).0 c),
  );
}

-- ---- rows are taken out

abbrev is_other : List AValue → List AValue → Bool
is_other old row = not (is_eq (compare_lists row old))

remove_row-entries : (old : List AValue) (rows : List (List AValue)) → remove_entry plain (entry_of old) (map entry_of rows) ≡ map entry_of (filter (is_other old) rows)
remove_row-entries old [] = refl
remove_row-entries old (row ∷ rows) =
    (λ i. cond (not (is_eq (entries_order row old i))) (entry_of row ∷ remove_row-entries old rows i) (remove_row-entries old rows i))
    ∙ elim (is_other old row) as (λ b. cond b (entry_of row ∷ map entry_of (filter (is_other old) rows)) (map entry_of (filter (is_other old) rows))
    ≡ map entry_of (cond b (row ∷ filter (is_other old) rows) (filter (is_other old) rows))) [ true ↦ refl | false ↦ refl ]

is_other-itself : (row : List AValue) → is_other row row ≡ false
is_other-itself row = ap (λ o. not (is_eq o)) (tied_itself rows_total row)

is_other-apart : (old row : List AValue) → (old ≡ row → ⊥) → is_other old row ≡ true
is_other-apart old row apart =
    elim (compare_lists row old) as (λ o. compare_lists row old ≡ o → not (is_eq o) ≡ true) [
      | Less ↦ λ e. refl
      | Equal ↦ λ e. absurd (apart (sym (equal_rows row old e)))
      | Greater ↦ λ e. refl
    ] refl

abbrev remove_rows : List (List AValue) → List (List AValue) → List (List AValue)
remove_rows [] rows = rows
remove_rows (old ∷ more) rows = remove_rows more (filter (is_other old) rows)

remove_rows-entries : (more rows : List (List AValue)) → without_rows plain more (map entry_of rows) ≡ map entry_of (remove_rows more rows)
remove_rows-entries [] rows = refl
remove_rows-entries (old ∷ more) rows = ap (without_rows plain more) (remove_row-entries old rows) ∙ remove_rows-entries more (filter (is_other old) rows)

remove_rows-keeps : (more rows : List (List AValue)) (x : List AValue) → Contains rows x → (Contains more x → ⊥) → Contains (remove_rows more rows) x
remove_rows-keeps [] rows x c absent = c
remove_rows-keeps (old ∷ more) rows x c absent =
    remove_rows-keeps more (filter (is_other old) rows) x
    (Contains-filter (is_other old) rows x c (is_other-apart old x (λ e. absent (subst (Contains (old ∷ more)) e (Contains-head old more)))))
    (λ r. absent (Contains-later old more x r))

remove_rows-only : (more rows : List (List AValue)) (x : List AValue) → Contains (remove_rows more rows) x → Contains rows x × (Contains more x → ⊥)
remove_rows-only [] rows x c = (c, Contains-nil x)
remove_rows-only (old ∷ more) rows x c =
    let below = remove_rows-only more (filter (is_other old) rows) x c in
    let kept = Contains-filter_source (is_other old) rows x below.0 in (
      kept.0,
      λ m. ⊎_elim
          (λ (e : old ≡ x). true≢false (sym kept.1 ∙ ap (λ q. is_other q x) e ∙ is_other-itself x))
          (λ (r : Contains more x). below.1 r)
          (Contains-cases old more x m),
    )

pub take_out-rows : (entries : List Entry) (more before after : List (List AValue)) → AreEntries entries before → Leaves before more after → AreEntries (without_rows plain more entries) after
take_out-rows entries more before after held leaves = record {
  sorted = remove_rows more held.sorted;
  each = ap (without_rows plain more) held.each ∙ remove_rows-entries more held.sorted;
  same = λ row. (
    λ c. let was = remove_rows-only more held.sorted row c in (leaves row).1 ((held.same row).0 was.0, was.1),
    λ c. let was = (leaves row).0 c in remove_rows-keeps more held.sorted row ((held.same row).1 was.0) was.1,
  );
}
