-- Rows with their leads: sorted so, the rows ascend.
use Rattle.std.proofs.Common.{◌≡◌, ◌<◌, ◌+◌, ℕ, zero, suc, List, [], ◌∷◌, map, length, slice_index_or, ap, refl, sym, ◌∙◌, arith, All, Bor}
use Rattle.std.specs.Cmp.Lexicographic.{slice_cmp}
use Rattle.std.specs.List.Sorted.{IsPermutation, IsSorted}
use Rattle.std.specs.Ordering.{nat_cmp, ordering_then, is_lt}
use Rattle.std.specs.declared.cmp.Ordering.{Ordering}
use Rattle.std.proofs.lemmas.List.{length-map}
use Rattle.std.proofs.lemmas.List.Sorted.{All-permutation, IsPermutation-map}
use Rattle.su_base.specs.declared.values.Value.{Value}
use Rattle.su_base.specs.contracts.values.ValueOrd.TheImpl.{ghosts}
use Rattle.su_base.specs.Value.{compare_lists}
use Rattle.su_base.proofs.Rows.{cmp-rows}
use Rattle.su_base.proofs.Items.{some_item}
use Rattle.su_state.specs.Changes.{AreInOrder}
use Rattle.su_state.specs.inside.Leads.{IsRowLead}
use Rattle.su_base.specs.Lists.{AllDiffer}
use Rattle.su_state.proofs.DifferentRows.{differ_moved}
use Rattle.su_state.proofs.LeadOrder.{lead_of_row_first}

abbrev pub Key : Type 0
Key = ℕ × Bor (List Value)

abbrev pub rows_of_keys : List Key → List (List Value)
rows_of_keys keys = map (λ (k : Key). k.1.now) keys

abbrev pub key_cmp : Key → Key → Ordering
key_cmp a b = ordering_then (nat_cmp a.0 b.0) (slice_cmp ghosts.cmp a.1.now b.1.now)

row_at : (keys : List Key) (i : ℕ) (d : List Value) (e : Key) → i < length keys → slice_index_or (rows_of_keys keys) i d ≡ (slice_index_or keys i e).1.now
row_at [] i d e h = absurd (omega arith)
row_at (k ∷ keys) zero d e h = refl
row_at (k ∷ keys) (suc i) d e h = row_at keys i d e (omega arith)

same_key : (a b : Key) → IsRowLead a.0 a.1.now → IsRowLead b.0 b.1.now → compare_lists b.1.now a.1.now ≡ key_cmp b a
same_key a b e f = sym (lead_of_row_first b.0 a.0 b.1.now a.1.now f e) ∙ ap (λ o. ordering_then (nat_cmp b.0 a.0) o) (sym (cmp-rows b.1.now a.1.now))

rows_sorted : (keys : List Key) → All (λ key. IsRowLead key.0 key.1.now) keys → IsSorted key_cmp keys → IsSorted compare_lists (rows_of_keys keys)
rows_sorted keys leads order k d low h =
    let n : length (rows_of_keys keys) ≡ length keys = length-map keys (λ (key : Key). key.1.now) in
    let e : Key = some_item keys (omega arith) in
    let a : Key = slice_index_or keys k e in
    let b : Key = slice_index_or keys (k + 1) e in
    rw (row_at keys (k + 1) d e (omega arith), row_at keys k d e (omega arith))
    (ap is_lt (same_key a b (leads k e (omega arith)) (leads (k + 1) e (omega arith))) ∙ order k e low (omega arith))

-- what a sort makes of rows with their leads
pub in_order_by_keys : (rows : List (List Value)) (keys sorted : List Key) → rows_of_keys keys ≡ rows → All (λ key. IsRowLead key.0 key.1.now) keys → IsPermutation keys sorted → IsSorted key_cmp sorted
    → AllDiffer rows → AreInOrder rows (rows_of_keys sorted)
in_order_by_keys rows keys sorted same leads perm order differ =
    let moved : IsPermutation rows (rows_of_keys sorted) = rw (← same) (IsPermutation-map (λ (k : Key). k.1.now) keys sorted perm) in
    record {
      same = moved;
      ascending = rows_sorted sorted (All-permutation (λ (key : Key). IsRowLead key.0 key.1.now) keys sorted perm leads) order;
      once = differ_moved rows (rows_of_keys sorted) moved differ;
    }
