-- A scan, row by row.
use Rattle.std.proofs.Common.{◌≡◌, ◌<◌, ◌≤◌, ◌+◌, ℕ, Bool, true, false, List, [], ◌∷◌, ◌++◌, Some, length, get_or, ap, refl, sym, subst, ◌∙◌, arith, inl, inr}
use Rattle.std.proofs.lemmas.Bool.{cases_eq}
use Rattle.std.proofs.lemmas.List.{append_assoc, append-nil, get_or_append_left, get_or_default, get_or_push, length_push, take_all}
use Rattle.std.proofs.lemmas.List.Sums.{count_by_more_no, count_by_more_yes}
use Rattle.std.proofs.lemmas.Option.{slice_get_within, slice_get-get_or, get_or_from_slice_get}
use Rattle.su_base.specs.declared.values.Value.{Value}
use Rattle.su_index.specs.Matches.{has_value, matches, AreAdded, IsMatch}
use Rattle.su_plain.specs.inside.Scans.{AreAddedBelow}

module _ (column : ℕ) (value : Value) (rows : List (List Value)) where
  -- what a look at row i tells
  pub told_of : (i : ℕ) (row : List Value) (has : Bool) → i < length rows → row ≡ get_or rows i row → has ≡ has_value column value row → has_value column value (get_or rows i []) ≡ has
  told_of i row has within is tells = ap (has_value column value) (get_or_default rows i [] row within ∙ sym is) ∙ sym tells

  pub added_none : (before : List ℕ) → AreAddedBelow column value rows 0 before before
  added_none before = record {
    found = [];
    count = refl;
    each = λ k p at. absurd (omega (arith, slice_get_within [] k p at));
    behind = sym (append-nil before);
  }

  pub added_no : (i : ℕ) (before after : List ℕ) → i < length rows → has_value column value (get_or rows i []) ≡ false → AreAddedBelow column value rows i before after → AreAddedBelow column value rows (i + 1) before after
  added_no i before after within lacks so_far = record {
    found = so_far.found;
    count = so_far.count ∙ sym (count_by_more_no (has_value column value) rows i [] within lacks);
    each = so_far.each;
    behind = so_far.behind;
  }

  pub added_yes : (i : ℕ) (before after : List ℕ) → i < length rows → has_value column value (get_or rows i []) ≡ true → AreAddedBelow column value rows i before after → AreAddedBelow column value rows (i + 1) before (after ++ i ∷ [])
  added_yes i before after within here so_far =
      let found = so_far.found in
      let long : length (found ++ i ∷ []) ≡ length found + 1 = length_push found i in
      record {
        found = found ++ i ∷ [];
        count = omega (arith, long, so_far.count, count_by_more_yes (has_value column value) rows i [] within here);
        each = λ k p at.
            let low = slice_get_within (found ++ i ∷ []) k p at in
            let is : get_or (found ++ i ∷ []) k 0 ≡ p = get_or_from_slice_get (found ++ i ∷ []) k p 0 at in
            elim (cases_eq k (length found)) [
              | inl last ↦
                  let last_is : i ≡ p = sym (get_or_push found i 0 k (sym last)) ∙ is in
                  subst (IsMatch column value rows k) last_is (record { within = within; has = here; rank = sym so_far.count ∙ sym last })
              | inr early ↦
                  let inside : k < length found = omega (arith, long, low, early) in
                  so_far.each k p (slice_get-get_or found k 0 inside ∙ ap Some (sym (get_or_append_left found (i ∷ []) 0 k inside) ∙ is))
            ];
        behind = ap (λ ps. ps ++ i ∷ []) so_far.behind ∙ append_assoc before found (i ∷ []);
      }

  pub added_all : (i : ℕ) (before after : List ℕ) → length rows ≤ i → AreAddedBelow column value rows i before after → AreAdded column value rows before after
  added_all i before after all so_far = record {
    found = so_far.found;
    matches = record { count = so_far.count ∙ ap (matches column value) (take_all i rows all); each = so_far.each };
    behind = so_far.behind;
  }
