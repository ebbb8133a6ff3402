-- Entries: their positions, and their leads where runs and values change.
use Rattle.std.proofs.Common.{◌≡◌, ◌<◌, ◌≤◌, ◌+◌, ◌-◌, ◌^◌, ℕ, suc, Bool, true, false, cond, List, [], ◌∷◌, ◌++◌, map, filter, length, get_or, take, drop, ap, subst, refl, sym, ◌∙◌, arith, inl, inr, All, Contains, count_by}
use Rattle.std.specs.List.{insert, remove}
use Rattle.std.specs.List.Sorted.{IsStrictlySortedBy, IsPermutation, IsSorted}
use Rattle.std.proofs.lemmas.Bool.{cases_eq}
use Rattle.std.proofs.lemmas.List.{append_assoc, length-drop, length-map, length-take-le, get_or-drop, get_or-map, get_or-take, map-append, take_more, take-map, drop-map, get_or_default}
use Rattle.std.proofs.lemmas.List.Elements.{All-nil, All-cons, All-append, All-push, All-take, All-drop, All-head, All-tail, All-map}
use Rattle.std.proofs.lemmas.List.Sorted.{All-permutation}
use Rattle.su_base.specs.declared.values.Value.{Value}
use Rattle.su_index.specs.declared.entry.Entry.{Entry}
use Rattle.su_index.specs.Entries.{positions, stretch}
use Rattle.su_index.specs.inside.Entries.{HaveLeads, IsIndexWithLeads, IsRunWithLeads, kept_entry, kept_entries}
use Rattle.su_index.specs.inside.Lead.{IsLead}
use Rattle.su_base.specs.Numbers.{count_below}
use Rattle.su_index.specs.inside.Order.{compare_keys, compare_places, IsRun}
use Rattle.su_index.specs.inside.Spans.{ArePositions, comes_before, with_value, is_kept, rank_of}
use Rattle.su_index.proofs.Changed.{index-same, index_add, index_of_run, index_removed, with_value-itself, with_value-other, with_value-same, empty_run}
use Rattle.su_index.specs.inside.Keys.{Key}
use Rattle.su_index.proofs.Keys.{key_cmp, IsRun-sorted}
use Rattle.su_index.proofs.MergedRuns.{Merging, merge_none, merge_step, merge_end}
use Rattle.su_index.proofs.Ranks.{new_run, kept_index}
use Rattle.su_index.proofs.Spans.{later_too, index_positions}

-- ---- positions of entries

pub positions_length : (run : List Entry) → length (positions run) ≡ length run
positions_length run = length-map run (λ e. e.position)

pub at_position : (run : List Entry) (k : ℕ) (d : Entry) → k < length run → get_or (positions run) k 0 ≡ (get_or run k d).position
at_position run k d h = get_or-map (λ e. e.position) run k d 0 h

pub position_within : (n : ℕ) (run : List Entry) (k : ℕ) (d : Entry) → ArePositions n (positions run) → k < length run → (get_or run k d).position < n
position_within n run k d all h = omega (arith, at_position run k d h, all k 0 (omega (arith, positions_length run)))

-- what a comparison with an entry says of its position
pub before_at : (at : ℕ → Value) (v : Value) (p : ℕ) (run : List Entry) (k : ℕ) (d : Entry) (b t : Bool) → k < length run → b ≡ comes_before at v p (get_or run k d).position → b ≡ t → comes_before at v p (get_or (positions run) k 0) ≡ t
before_at at v p run k d b t h e f = ap (λ q. comes_before at v p q) (at_position run k d h) ∙ sym e ∙ f

-- one more of the positions past the first ones
pub stretch_more : (xs : List ℕ) (run : List Entry) (at n k : ℕ) (e : Entry) → k < n → at + n ≤ length run → e ≡ get_or run (at + k) e → (xs ++ take k (stretch run at n)) ++ e.position ∷ [] ≡ xs ++ take (k + 1) (stretch run at n)
stretch_more xs run at n k e below within is =
    let all = positions_length run in
    let late : length (drop at (positions run)) ≡ length (positions run) - at = length-drop at (positions run) in
    let long : length (stretch run at n) ≡ n = length-take-le n (drop at (positions run)) (omega (arith, all, late, within)) in
    let here : get_or (stretch run at n) k 0 ≡ e.position =
    get_or-take n (drop at (positions run)) k 0 below ∙ get_or-drop at (positions run) k 0 ∙ at_position run (at + k) e (omega arith) ∙ ap (λ (x : Entry). x.position) (sym is) in
    append_assoc xs (take k (stretch run at n)) (e.position ∷ [])
    ∙ ap (λ x. xs ++ (take k (stretch run at n) ++ x ∷ [])) (sym here)
    ∙ ap (λ ys. xs ++ ys) (sym (take_more (stretch run at n) k 0 (omega (arith, long, below))))

-- an entry that stands in the run
pub entry_within : (n : ℕ) (run : List Entry) (k : ℕ) (e : Entry) → ArePositions n (positions run) → k < length run → e ≡ get_or run k e → e.position < n
entry_within n run k e all h is = subst (λ (x : Entry). x.position < n) (sym is) (position_within n run k e all h)

pub entry_lead : (at : ℕ → Value) (run : List Entry) (k : ℕ) (e : Entry) → HaveLeads at run → k < length run → e ≡ get_or run k e → IsLead e.lead (at e.position)
entry_lead at run k e leads h is = subst (λ (x : Entry). IsLead x.lead (at x.position)) (sym is) (leads k e h)

pub entry_before : (at : ℕ → Value) (v : Value) (p : ℕ) (run : List Entry) (k : ℕ) (e : Entry) (b t : Bool) → k < length run → e ≡ get_or run k e → b ≡ comes_before at v p e.position → b ≡ t → comes_before at v p (get_or (positions run) k 0) ≡ t
entry_before at v p run k e b t h is one two = before_at at v p run k e b t h (one ∙ ap (λ (x : Entry). comes_before at v p x.position) is) two

-- the first ones and one more
pub comes_before-more : (at : ℕ → Value) (v : Value) (top : ℕ) (run : List ℕ) (first : ℕ)
    → ((k : ℕ) → k < first → comes_before at v 0 (get_or run k 0) ≡ true) → comes_before at v top (get_or run first 0) ≡ true
    → (k : ℕ) → k < first + 1 → comes_before at v top (get_or run k 0) ≡ true
comes_before-more at v top run first below more k h =
    elim (cases_eq k first) [
      | inl e ↦ rw e more
      | inr apart ↦ later_too (compare_keys (at (get_or run k 0)) v) (get_or run k 0) top (below k (omega (arith, apart)))
    ]

pub positions-append : (xs ys : List Entry) → positions (xs ++ ys) ≡ positions xs ++ positions ys
positions-append xs ys = map-append (λ e. e.position) xs ys

pub positions-drop : (n : ℕ) (run : List Entry) → positions (drop n run) ≡ drop n (positions run)
positions-drop n run = sym (drop-map (λ e. e.position) n run)

pub positions-take : (n : ℕ) (run : List Entry) → positions (take n run) ≡ take n (positions run)
positions-take n run = sym (take-map (λ e. e.position) n run)

pub positions-insert : (run : List Entry) (q : ℕ) (e : Entry) → positions (insert run q e) ≡ insert (positions run) q e.position
positions-insert run q e =
    positions-append (take q run) (e ∷ drop q run)
    ∙ ap (λ xs. xs ++ e.position ∷ positions (drop q run)) (positions-take q run)
    ∙ ap (λ xs. take q (positions run) ++ e.position ∷ xs) (positions-drop q run)

pub positions-remove : (run : List Entry) (q : ℕ) → positions (remove run q) ≡ remove (positions run) q
positions-remove run q =
    positions-append (take q run) (drop (suc q) run)
    ∙ ap (λ xs. xs ++ positions (drop (suc q) run)) (positions-take q run)
    ∙ ap (λ xs. take q (positions run) ++ xs) (positions-drop (suc q) run)

-- ---- leads where a run changes

pub leads-insert : (at : ℕ → Value) (run : List Entry) (q : ℕ) (e : Entry) → HaveLeads at run → IsLead e.lead (at e.position) → HaveLeads at (insert run q e)
leads-insert at run q e leads lead =
    All-append (λ (x : Entry). IsLead x.lead (at x.position)) (take q run) (e ∷ drop q run)
    (All-take (λ (x : Entry). IsLead x.lead (at x.position)) q run leads)
    (All-cons (λ (x : Entry). IsLead x.lead (at x.position)) e (drop q run) lead (All-drop (λ (x : Entry). IsLead x.lead (at x.position)) q run leads))

pub leads-remove : (at : ℕ → Value) (run : List Entry) (q : ℕ) → HaveLeads at run → HaveLeads at (remove run q)
leads-remove at run q leads =
    All-append (λ (x : Entry). IsLead x.lead (at x.position)) (take q run) (drop (suc q) run)
    (All-take (λ (x : Entry). IsLead x.lead (at x.position)) q run leads)
    (All-drop (λ (x : Entry). IsLead x.lead (at x.position)) (suc q) run leads)

-- values that agree at the positions of the run
pub leads-same : (at other : ℕ → Value) (run : List Entry) → ((k : ℕ) → k < length (positions run) → at (get_or (positions run) k 0) ≡ other (get_or (positions run) k 0)) → HaveLeads at run → HaveLeads other run
leads-same at other run same leads k d h =
    let e : at (get_or run k d).position ≡ other (get_or run k d).position = subst (λ p. at p ≡ other p) (at_position run k d h) (same k (omega (arith, positions_length run))) in
    subst (λ v. IsLead (get_or run k d).lead v) e (leads k d h)

-- an insert, where the row at the entry's position has come to have the value
pub leads-insert_with : (at : ℕ → Value) (v : Value) (run : List Entry) (q : ℕ) (e : Entry) → HaveLeads at run → ¬ Contains (positions run) e.position → IsLead e.lead v → HaveLeads (with_value at e.position v) (insert run q e)
leads-insert_with at v run q e leads out lead =
    leads-insert (with_value at e.position v) run q e
    (leads-same at (with_value at e.position v) run (λ k h. sym (with_value-other at v e.position (get_or (positions run) k 0) (λ is. out (k, h, get_or_default (positions run) k e.position 0 h ∙ is)))) leads)
    (rw with_value-itself lead)

-- ---- an index whose rows change

pub index_with-same : (at other : ℕ → Value) (n : ℕ) (run : List Entry) → ((p : ℕ) → p < n → at p ≡ other p) → IsIndexWithLeads at n run → IsIndexWithLeads other n run
index_with-same at other n run same i = record {
  order = index-same at other n (positions run) same i.order;
  leads = leads-same at other run (λ k h. same (get_or (positions run) k 0) (index_positions at n (positions run) i.order k 0 h)) i.leads;
}

pub index_with-run : (at : ℕ → Value) (n : ℕ) (run : List Entry) → IsRunWithLeads at 0 run → length run ≡ n → n < 2 ^ 32 → IsIndexWithLeads at n run
index_with-run at n run r len small = record {
  order = index_of_run at n (positions run) r.order (positions_length run ∙ len) small;
  leads = r.leads;
}

pub index_length : (at : ℕ → Value) (n : ℕ) (run : List Entry) → IsIndexWithLeads at n run → n ≡ length run
index_length at n run i = omega (arith, i.order.whole, positions_length run)

pub empty_run_with : (at : ℕ → Value) → IsRunWithLeads at 0 []
empty_run_with at = record { order = empty_run at; leads = All-nil (λ (e : Entry). IsLead e.lead (at e.position)) }

pub index_with-add : (at : ℕ → Value) (n : ℕ) (run new : List Entry) → IsIndexWithLeads at n run → n + 1 < 2 ^ 32 → IsStrictlySortedBy (compare_places (with_value at n (at n))) (positions new) → ((test : ℕ → Bool) → count_by test (positions new) ≡ count_by test (positions run) + cond (test n) 1 0) → length new ≡ length run + 1 → HaveLeads (with_value at n (at n)) new → IsIndexWithLeads at (n + 1) new
index_with-add at n run new i small sorted counted len leads = record {
  order = index_add at n (positions run) (positions new) i.order small sorted counted (omega (arith, len, positions_length new, positions_length run));
  leads = leads-same (with_value at n (at n)) at new (λ k h. with_value-same at n (get_or (positions new) k 0)) leads;
}

pub index_with-removed : (at other : ℕ → Value) (n : ℕ) (run new : List Entry) → IsIndexWithLeads at n run → IsStrictlySortedBy (compare_places other) (positions new) → ((test : ℕ → Bool) → count_by test (positions new) + cond (test (n - 1)) 1 0 ≡ count_by test (positions run)) → length new + 1 ≡ length run → HaveLeads other new → IsIndexWithLeads other (n - 1) new
index_with-removed at other n run new i sorted counted len leads = record {
  order = index_removed at other n (positions run) (positions new) i.order sorted counted (omega (arith, len, positions_length new, positions_length run));
  leads = leads;
}

-- ---- two runs that are made one

pub record MergingEntries (at : ℕ → Value) (early late run : List Entry) (from j : ℕ) : Type 0 where
  pub order : Merging at (positions early) (positions late) (positions run) from j
  pub leads : HaveLeads at run

pub merge_entries_none : (at : ℕ → Value) (early late : List Entry) → MergingEntries at early late [] 0 0
merge_entries_none at early late = record {
  order = merge_none at (positions early) (positions late);
  leads = All-nil (λ (e : Entry). IsLead e.lead (at e.position));
}

late_order : (at : ℕ → Value) (early late : List Entry) → IsRunWithLeads at (length early) late → IsRun at (length (positions early)) (positions late)
late_order at early late l = subst (λ n. IsRun at n (positions late)) (sym (positions_length early)) l.order

pub merge_entries_step : (at : ℕ → Value) (early late run : List Entry) (from j count : ℕ) (e : Entry) → IsRunWithLeads at 0 early → IsRunWithLeads at (length early) late → MergingEntries at early late run from j → j < length late → e ≡ get_or late j e → count ≤ length (drop from early)
    → ((k : ℕ) → k < count → comes_before at (at e.position) e.position (get_or (positions (drop from early)) k 0) ≡ true)
    → ((k : ℕ) → count ≤ k → k < length (drop from early) → comes_before at (at e.position) e.position (get_or (positions (drop from early)) k 0) ≡ false)
    → MergingEntries at early late ((run ++ take count (drop from early)) ++ e ∷ []) (from + count) (j + 1)
merge_entries_step at early late run from j count e early_run late_run m more is short below above =
    let rest : positions (drop from early) ≡ drop from (positions early) = positions-drop from early in
    let len : length (drop from early) ≡ length (drop from (positions early)) = sym (positions_length (drop from early)) ∙ ap length rest in
    let same : positions ((run ++ take count (drop from early)) ++ e ∷ []) ≡ (positions run ++ take count (drop from (positions early))) ++ e.position ∷ [] =
    positions-append (run ++ take count (drop from early)) (e ∷ [])
    ∙ ap (λ xs. xs ++ e.position ∷ []) (positions-append run (take count (drop from early)) ∙ ap (λ xs. positions run ++ xs) (positions-take count (drop from early) ∙ ap (take count) rest)) in
    record {
      order = rw same
          (merge_step at (positions early) (positions late) (positions run) from j e.position count early_run.order (late_order at early late late_run) m.order
          (omega (arith, more, positions_length late)) (ap (λ x. x.position) is ∙ sym (at_position late j e more)) (omega (arith, short, len))
          (λ k h. subst (λ xs. comes_before at (at e.position) e.position (get_or xs k 0) ≡ true) rest (below k h))
          (λ k h l. subst (λ xs. comes_before at (at e.position) e.position (get_or xs k 0) ≡ false) rest (above k h (omega (arith, l, len)))));
      leads = All-push (λ (x : Entry). IsLead x.lead (at x.position)) (run ++ take count (drop from early)) e
          (All-append (λ (x : Entry). IsLead x.lead (at x.position)) run (take count (drop from early)) m.leads
          (All-take (λ (x : Entry). IsLead x.lead (at x.position)) count (drop from early) (All-drop (λ (x : Entry). IsLead x.lead (at x.position)) from early early_run.leads)))
          (subst (λ x. IsLead x.lead (at x.position)) (sym is) (late_run.leads j e more));
    }

pub merge_entries_end : (at : ℕ → Value) (early late run : List Entry) (from j : ℕ) → IsRunWithLeads at 0 early → IsRunWithLeads at (length early) late → MergingEntries at early late run from j → length late ≤ j → j ≤ length late → IsRunWithLeads at 0 (run ++ drop from early) × (length (run ++ drop from early) ≡ length early + length late)
merge_entries_end at early late run from j early_run late_run m all most =
    let same : positions (run ++ drop from early) ≡ positions run ++ drop from (positions early) = positions-append run (drop from early) ∙ ap (λ xs. positions run ++ xs) (positions-drop from early) in
    let ends = merge_end at (positions early) (positions late) (positions run) from j early_run.order (late_order at early late late_run) m.order (omega (arith, all, positions_length late)) (omega (arith, most, positions_length late)) in (
      record {
        order = rw same ends.0;
        leads = All-append (λ (x : Entry). IsLead x.lead (at x.position)) run (drop from early) m.leads (All-drop (λ (x : Entry). IsLead x.lead (at x.position)) from early early_run.leads);
      },
      omega (arith, ends.1, ap length same, positions_length (run ++ drop from early), positions_length early, positions_length late),
    )

-- ---- the rows that are kept

module _ (kept : List Bool) where
  pub positions-kept : (run : List Entry) → positions (kept_entries kept run) ≡ new_run kept (positions run)
  positions-kept [] = refl
  positions-kept (e ∷ run) =
      elim (is_kept kept e.position) as (λ b. positions (map (kept_entry kept) (cond b (e ∷ filter (λ x. is_kept kept x.position) run) (filter (λ x. is_kept kept x.position) run))) ≡ map (rank_of kept) (cond b (e.position ∷ filter (is_kept kept) (positions run)) (filter (is_kept kept) (positions run)))) [
        | true ↦ ap (λ xs. rank_of kept e.position ∷ xs) (positions-kept run)
        | false ↦ positions-kept run
      ]

  module _ (at other : ℕ → Value) (same : (p : ℕ) → is_kept kept p ≡ true → other (rank_of kept p) ≡ at p) where
    leads-kept : (run : List Entry) → HaveLeads at run → HaveLeads other (kept_entries kept run)
    leads-kept [] leads = All-nil (λ (x : Entry). IsLead x.lead (other x.position))
    leads-kept (e ∷ run) leads =
        let rest : HaveLeads other (kept_entries kept run) = leads-kept run (All-tail (λ (x : Entry). IsLead x.lead (at x.position)) e run leads) in
        elim (is_kept kept e.position) as (λ b. is_kept kept e.position ≡ b → HaveLeads other (map (kept_entry kept) (cond b (e ∷ filter (λ x. is_kept kept x.position) run) (filter (λ x. is_kept kept x.position) run)))) [
          | true ↦ λ k. All-cons (λ (x : Entry). IsLead x.lead (other x.position)) (kept_entry kept e) (kept_entries kept run) (subst (λ v. IsLead e.lead v) (sym (same e.position k)) (All-head (λ (x : Entry). IsLead x.lead (at x.position)) e run leads)) rest
          | false ↦ λ k. rest
        ] refl

    pub index_with-kept : (n : ℕ) (run : List Entry) → IsIndexWithLeads at n run → IsIndexWithLeads other (rank_of kept n) (kept_entries kept run)
    index_with-kept n run i = record {
      order = rw (positions-kept run) (kept_index kept at other same n (positions run) i.order);
      leads = leads-kept run i.leads;
    }

-- ---- a sort

positions-sorted : (keys : List Key) → positions (map (λ key. record { lead = key.0; position = key.2 }) keys) ≡ map (λ key. key.2) keys
positions-sorted [] = refl
positions-sorted (key ∷ keys) = ap (λ xs. key.2 ∷ xs) (positions-sorted keys)

pub run_with-sorted : (at : ℕ → Value) (from n : ℕ) (keys sorted : List Key) → IsPermutation keys sorted
    → All (λ (key : Key). IsLead key.0 key.1.now × (key.1.now ≡ at key.2)) keys
    → ((test : ℕ → Bool) → count_below test from + count_by (λ (key : Key). test key.2) keys ≡ count_below test n)
    → from + length keys ≡ n → IsSorted key_cmp sorted
    → IsRunWithLeads at from (map (λ key. record { lead = key.0; position = key.2 }) sorted)
run_with-sorted at from n keys sorted perm values each len order = record {
  order = rw (positions-sorted sorted) (IsRun-sorted at from n keys sorted perm values each len order);
  leads = All-map (λ (e : Entry). IsLead e.lead (at e.position)) (λ (key : Key). record { lead = key.0; position = key.2 }) sorted (λ k d h.
      let v = All-permutation (λ (key : Key). IsLead key.0 key.1.now × (key.1.now ≡ at key.2)) keys sorted perm values k d h in
      subst (λ w. IsLead (get_or sorted k d).0 w) v.1 v.0);
}
