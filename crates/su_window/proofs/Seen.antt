-- A list that is put among those seen.
use Rattle.std.proofs.Common.{◌≡◌, Bool, true, false, inl, inr, ⊎_elim, List, ◌∷◌, Contains, refl, sym, ap, ◌∙◌, subst, arith}
use Rattle.std.specs.Prelude.{not}
use Rattle.std.specs.Bool.{MatchBool}
use Rattle.std.specs.List.{list_any}
use Rattle.std.specs.HashSet.{HashSet, contains, PutsKey, IsUnchanged}
use Rattle.std.specs.Cmp.Lexicographic.{pointwise}
use Rattle.std.specs.List.Sorted.{IsPermutation}
use Rattle.std.proofs.lemmas.Bool.{cases_Bool, true≢false, false≢true}
use Rattle.std.proofs.lemmas.List.Sorted.{Contains-permutation, IsPermutation-sym}
use Rattle.std.proofs.lemmas.Map.Views.{list_any-from_Contains, Contains-from_any}
use Rattle.su_base.specs.declared.values.Value.{Value}
use Rattle.su_base.specs.contracts.values.ValuePartialEq.TheImpl.{ghosts}
use Rattle.su_base.proofs.Rows.{rows_equiv}
use Rattle.su_base.proofs.Same.{row_eq-Decides}
use Rattle.su_base.proofs.Items.{Contains-later, Contains-cases}
use Rattle.su_window.specs.inside.Readings.{Sees}

abbrev same_row : List Value → List Value → Bool
same_row = pointwise ghosts.eq

seen_one : (keys : List (List Value)) (x : List Value) → list_any (same_row x) keys ≡ true → Contains keys x
seen_one keys x e = Contains-from_any (λ a b t. (row_eq-Decides a b true (sym t)).0 refl) x keys e

seen_none : (keys : List (List Value)) (x : List Value) → list_any (same_row x) keys ≡ false → ¬ Contains keys x
seen_none keys x e c = false≢true (sym e ∙ list_any-from_Contains rows_equiv x keys c)

put_new : (old new : List (List Value)) (values : List Value) → list_any (same_row values) old ≡ false → IsPermutation (values ∷ old) new → Sees old new values true
put_new old new values none moved = record {
  new_one = λ _. seen_none old values none;
  old_one = λ f. absurd (true≢false f);
  members = λ x. (
    λ c.
        ⊎_elim
        (λ (e : values ≡ x). inr (sym e))
        (λ (r : Contains old x). inl r)
        (Contains-cases values old x (Contains-permutation new (values ∷ old) x (IsPermutation-sym (values ∷ old) new moved) c)),
    λ s.
        Contains-permutation (values ∷ old) new x moved
        (⊎_elim
        (λ (r : Contains old x). Contains-later values old x r)
        (λ (e : x ≡ values). (0, omega arith, sym e))
        s),
  );
}

put_old : (old new : List (List Value)) (values : List Value) → list_any (same_row values) old ≡ true → new ≡ old → Sees old new values false
put_old old new values there same = record {
  new_one = λ t. absurd (false≢true t);
  old_one = λ _. seen_one old values there;
  members = λ x. (
    λ c. inl (subst (λ (keys : List (List Value)). Contains keys x) same c),
    λ s.
        subst (λ (keys : List (List Value)). Contains keys x) (sym same)
        (⊎_elim
        (λ (r : Contains old x). r)
        (λ (e : x ≡ values). subst (Contains old) (sym e) (seen_one old values there))
        s),
  );
}

pub sees : {S : Type 0} (old new : HashSet (List Value) S) (values : List Value) (added : Bool) → added ≡ not (contains same_row old values) → PutsKey old new values added → Sees old.keys new.keys values added
sees old new values added is puts =
    elim (cases_Bool (contains same_row old values)) [
      | inl t ↦
          let e : added ≡ false = is ∙ ap not t in
          subst (Sees old.keys new.keys values) (sym e) (put_old old.keys new.keys values t (subst (λ (b : Bool). MatchBool b (IsPermutation (values ∷ old.keys) new.keys) (IsUnchanged old new)) e puts))
      | inr f ↦
          let e : added ≡ true = is ∙ ap not f in
          subst (Sees old.keys new.keys values) (sym e) (put_new old.keys new.keys values f (subst (λ (b : Bool). MatchBool b (IsPermutation (values ∷ old.keys) new.keys) (IsUnchanged old new)) e puts))
    ]
