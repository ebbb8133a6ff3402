-- The indexes of a table whose rows change.
use Rattle.std.proofs.Common.{Bool, pos, ◌≡◌, ◌<◌, ◌≤◌, ◌+◌, ◌-◌, ◌^◌, ℕ, List, [], ◌∷◌, ◌++◌, length, get_or, take, set, slice_get, Some, ap, refl, sym, ◌∙◌, arith, inl, inr, All, Contains, length-set, length-take-le, length-append}
use Rattle.std.specs.List.{swap_remove, items_where_true}
use Rattle.std.proofs.lemmas.Bool.{cases_eq}
use Rattle.std.proofs.lemmas.List.{get_or_append_left, get_or_default, get_or-take, get_or-set_same, get_or-set_other, append-nil, append_assoc, take_at}
use Rattle.std.proofs.lemmas.Option.{slice_get_within, get_or_from_slice_get}
use Rattle.su_base.specs.declared.values.Value.{Value}
use Rattle.su_base.specs.declared.values.Value.TheVariants.{Int}
use Rattle.su_rel.specs.Changes.{PutInAll}
use Rattle.su_rel.specs.Stored.{Stored}
use Rattle.su_index.specs.declared.index.Index.{Index}
use Rattle.su_index.specs.inside.Indexed.{AreIndexesBelow, IsIndexed, entries_in}
use Rattle.su_index.specs.inside.Upkeep.{AreIndexesWithout, HavePositions, AreKept}
use Rattle.su_index.specs.inside.Entries.{IsRunWithLeads}
use Rattle.su_index.specs.inside.Order.{value_at}
use Rattle.su_index.specs.inside.Spans.{rank_of, with_value}
use Rattle.su_index.proofs.Ranks.{kept_row, kept_rows_length, rank-le}
use Rattle.su_index.proofs.Changed.{positions_more, with_value-itself, with_value-other}
use Rattle.su_index.proofs.Entries.{index_length, index_with-same, index_with-run, index_with-kept, empty_run_with}

-- the rows that were there are the first ones of more
pub value_at-first : (rows more : List (List Value)) (column p : ℕ) → p < length rows → value_at rows column p ≡ value_at (rows ++ more) column p
value_at-first rows more column p h = ap (λ row. get_or row column (Int (pos 0))) (sym (get_or_append_left rows more [] p h))

pub indexes_first : (rows more new : List (List Value)) (n : ℕ) (indexes : List Index) → n ≤ length rows → new ≡ rows ++ more → AreIndexesBelow rows n indexes → AreIndexesBelow new n indexes
indexes_first rows more new n indexes le e all column d h =
    rw e (record {
      entries = index_with-same (value_at rows column) (value_at (rows ++ more) column) n _ (λ p l. value_at-first rows more column p (omega arith)) (all column d h).entries;
      some = (all column d h).some;
    })

-- the last row moved to position i
pub get_or-swap_remove : (rows : List (List Value)) (i p : ℕ) (row : List Value) → i < length rows → p + 1 < length rows → get_or (swap_remove rows i row) p [] ≡ get_or (set rows i (get_or rows (length rows - 1) row)) p []
get_or-swap_remove rows i p row h l = get_or-take (length rows - 1) (set rows i (get_or rows (length rows - 1) row)) p [] (omega arith)

pub value_at-swap_remove : (rows : List (List Value)) (i : ℕ) (row : List Value) (column p : ℕ) → i < length rows → p + 1 < length rows
    → with_value (value_at rows column) i (value_at rows column (length rows - 1)) p ≡ value_at (swap_remove rows i row) column p
value_at-swap_remove rows i row column p h l =
    elim (cases_eq p i) [
      | inl e ↦ rw (e, with_value-itself (value_at rows column) (value_at rows column (length rows - 1)) i) (
          ap (λ r. get_or r column (Int (pos 0)))
          (get_or_default rows (length rows - 1) [] row (omega arith) ∙ sym (get_or-set_same rows i (get_or rows (length rows - 1) row) [] h) ∙ sym (get_or-swap_remove rows i i row h (omega (arith, e)))))
      | inr apart ↦ rw (with_value-other (value_at rows column) (value_at rows column (length rows - 1)) i p apart) (
          ap (λ r. get_or r column (Int (pos 0)))
          (sym (get_or-set_other rows i p (get_or rows (length rows - 1) row) [] apart) ∙ sym (get_or-swap_remove rows i p row h l)))
    ]

pub length-swap_remove : (rows : List (List Value)) (i : ℕ) (row : List Value) → 0 < length rows → length (swap_remove rows i row) ≡ length rows - 1
length-swap_remove rows i row h =
    length-take-le (length rows - 1) (set rows i (get_or rows (length rows - 1) row)) (omega (arith, length-set rows i (get_or rows (length rows - 1) row)))

pub indexed_removed : (old new : Stored) (i : ℕ) (row : List Value) (indexes : List Index) → i < length old.rows → length old.rows < 2 ^ 32 → new.rows ≡ swap_remove old.rows i row → length indexes ≡ new.width
    → AreIndexesWithout old.rows i indexes
    → IsIndexed new indexes
indexed_removed old new i row indexes h small e count all =
    let len : length new.rows ≡ length old.rows - 1 = ap length e ∙ length-swap_remove old.rows i row (omega arith) in
    record {
      count = count;
      small = omega arith;
      indexes = λ column d l. rw (len, e) (record {
        entries = index_with-same _ (value_at (swap_remove old.rows i row) column) (length old.rows - 1) _ (λ p m. value_at-swap_remove old.rows i row column p h (omega arith)) (all column d l).entries;
        some = (all column d l).some;
      });
    }

-- a table without rows
pub indexed_none : (new : Stored) (indexes : List Index) → new.rows ≡ [] → length indexes ≡ new.width → All (λ (index : Index). index.chunks.items ≡ []) indexes → IsIndexed new indexes
indexed_none new indexes e count none = record {
  count = count;
  small = rw e (omega arith);
  indexes = λ column d l. rw e (record {
    entries = rw (none column d l) (index_with-run (value_at [] column) 0 [] (empty_run_with (value_at [] column)) refl (omega arith));
    some = rw (none column d l) (λ k e h. absurd (omega arith));
  });
}

-- a row that stands at a position is there
pub there_at : (rows : List (List Value)) (i : ℕ) (row : List Value) → slice_get rows i ≡ Some row → Contains rows row
there_at rows i row at = (i, slice_get_within rows i row at, get_or_from_slice_get rows i row row at)

-- rows that are put in come after those that were there
pub put_in_after : (old rows new : List (List Value)) → PutInAll old rows new → (more : List (List Value)) × (new ≡ old ++ more)
put_in_after old [] new e = ([], e ∙ sym (append-nil old))
put_in_after old (row ∷ rows) new (between, one, rest) =
    let later = put_in_after between rows new rest in
    elim one [
      | inl there ↦ (later.0, later.1 ∙ ap (λ xs. xs ++ later.0) there.1)
      | inr fresh ↦ (row ∷ later.0, later.1 ∙ ap (λ xs. xs ++ later.0) fresh.1 ∙ append_assoc old (row ∷ []) later.0)
    ]

pub taken_back : (old rows new : List (List Value)) (n : ℕ) → PutInAll old rows new → n ≡ length old → take n new ≡ old
taken_back old rows new n put e =
    let after = put_in_after old rows new put in
    ap (take n) after.1 ∙ take_at old after.0 n (sym e)

stored_same : (a b : Stored) → a.width ≡ b.width → a.rows ≡ b.rows → a ≡ b
stored_same a b p q = λ i. record { width = p i; rows = q i }

-- the rows that were put in are taken back
pub restored : (old between new : Stored) (rows : List (List Value)) (n : ℕ) → PutInAll old.rows rows between.rows → n ≡ length old.rows → between.width ≡ old.width → new.width ≡ between.width → new.rows ≡ take n between.rows → new ≡ old
restored old between new rows n put e w v t = stored_same new old (v ∙ w) (t ∙ taken_back old.rows rows between.rows n put e)

-- the indexes of rows that are the first ones of more
pub run_first : (old new : Stored) (rows : List (List Value)) (indexes : List Index) → PutInAll old.rows rows new.rows → IsIndexed old indexes → (column : ℕ) (d : Index) → column < length indexes → IsRunWithLeads (value_at new.rows column) 0 (entries_in (get_or indexes column d))
run_first old new rows indexes put i column d h =
    let after = put_in_after old.rows rows new.rows put in
    let index = indexes_first old.rows after.0 new.rows (length old.rows) indexes (omega arith) after.1 i.indexes column d h in
    record { order = index.entries.order.run; leads = index.entries.leads }

pub run_length : (old : Stored) (indexes : List Index) → IsIndexed old indexes → (column : ℕ) (d : Index) → column < length indexes → length old.rows ≡ length (entries_in (get_or indexes column d))
run_length old indexes i column d h = index_length _ (length old.rows) _ (i.indexes column d h).entries

pub run_within : (old new : Stored) (rows : List (List Value)) → PutInAll old.rows rows new.rows → length old.rows ≤ length new.rows
run_within old new rows put =
    let after = put_in_after old.rows rows new.rows put in
    omega (arith, ap length after.1, length-append old.rows after.0)

-- the rows that are kept
pub indexed_positions : (old : Stored) (indexes : List Index) (n : ℕ) → IsIndexed old indexes → n ≡ length old.rows → HavePositions n indexes
indexed_positions old indexes n i e k d h = positions_more (value_at old.rows k) (length old.rows) _ (i.indexes k d h).entries.order n (omega arith)

pub indexed_kept : (old new : Stored) (kept : List Bool) (indexes news : List Index) → IsIndexed old indexes → length kept ≡ length old.rows → new.rows ≡ items_where_true kept old.rows → new.width ≡ old.width → length news ≡ length indexes → AreKept kept indexes news → IsIndexed new news
indexed_kept old new kept indexes news i e rows width count all =
    let len : length new.rows ≡ rank_of kept (length old.rows) = ap length rows ∙ kept_rows_length kept old.rows e in
    record {
      count = omega (arith, i.count);
      small = omega (arith, len, i.small, rank-le kept (length old.rows));
      indexes = λ column d h.
          let both = all column d h in
          rw (len, rows) (record {
            entries = rw both.0 (index_with-kept kept (value_at old.rows column) (value_at (items_where_true kept old.rows) column) (λ p k. ap (λ row. get_or row column (Int (pos 0))) (kept_row kept old.rows p [] e k)) (length old.rows) _ (i.indexes column d (omega arith)).entries);
            some = both.1;
          });
    }
