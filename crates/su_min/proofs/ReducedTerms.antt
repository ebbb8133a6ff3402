-- The terms that are gone through, one more at a time.
use Rattle.std.proofs.Common.{◌≡◌, ◌<◌, ◌↔◌, ◌+◌, ◌∙◌, ℕ, Bool, true, false, List, [], ◌∷◌, ◌++◌, map, length, All, sym, ap, subst, ⊎_elim}
use Rattle.std.proofs.lemmas.Bool.{cases_Bool}
use Rattle.std.proofs.lemmas.List.{map-append}
use Rattle.std.proofs.lemmas.List.Elements.{All-push}
use Rattle.su_base.specs.Lists.{AreExactly}
use Rattle.su_base.proofs.AscendingNumbers.{exactly_more, exactly_skip}
use Rattle.su_tableau.specs.Tableaux.{Tab}
use Rattle.su_map.specs.Lists.{IsMapping, IsFirst}
use Rattle.su_min.specs.declared.reduced.Cover.{Cover}
use Rattle.su_min.specs.Kept.{Minimised}
use Rattle.su_min.specs.Cover.{AreAlike, Covers}
use Rattle.su_min.specs.Reduction.{term_at, IsDropped, IsKeptTerm, IsLeastCover, IsFirstMapping, IsCover, IsReduced}
use Rattle.su_min.proofs.Covers.{tells_covers}

pub move : (P : Tab → ℕ → Tab → ℕ → Type 0) (s s' : Tab) (m m' : ℕ) (t t' : Tab) (k k' : ℕ) → s ≡ s' → m ≡ m' → t ≡ t' → k ≡ k' → P s m t k → P s' m' t' k'
move P s s' m m' t t' k k' es em et ek p = subst (λ s. P s m' t' k') es (subst (λ m. P s m t' k') em (subst (λ t. P s m t k') et (subst (λ k. P s m t k) ek p)))

-- a search that finds the first mapping or tells that there is none finds it where the one term covers the other
pub first_found : (one other : Minimised) (s t : Tab) (m k : ℕ) (b : Bool) (list : List ℕ)
    → s ≡ one.tableau → t ≡ other.tableau → m ≡ one.mask → k ≡ other.mask
    → Covers one other
    → (b ≡ true → IsFirst s m t k list)
    → (b ≡ false → (l : List ℕ) → IsMapping s m t k l → ⊥)
    → IsFirst one.tableau one.mask other.tableau other.mask list
first_found one other s t m k b list es et em ek c found none =
    ⊎_elim
    (λ (is : b ≡ true). move (λ s m t k. IsFirst s m t k list) s one.tableau m one.mask t other.tableau k other.mask es em et ek (found is))
    (λ (is : b ≡ false). absurd (none is c.list (move (λ s m t k. IsMapping s m t k c.list) one.tableau s one.mask m other.tableau t other.mask k (sym es) (sym em) (sym et) (sym ek) c.maps)))
    (cases_Bool b)

-- a search that finds a mapping or tells that there is none tells whether the one of two like terms covers the other
pub tells_found : (one other : Minimised) (s t : Tab) (m k : ℕ) (b : Bool) (list : List ℕ)
    → s ≡ one.tableau → t ≡ other.tableau → m ≡ one.mask → k ≡ other.mask
    → AreAlike one.tableau other.tableau
    → (b ≡ true → IsMapping s m t k list)
    → (b ≡ false → (l : List ℕ) → IsMapping s m t k l → ⊥)
    → (b ≡ true) ↔ Covers one other
tells_found one other s t m k b list es et em ek alike found none =
    tells_covers one other b list alike
    (λ yes. move (λ s m t k. IsMapping s m t k list) s one.tableau m one.mask t other.tableau k other.mask es em et ek (found yes))
    (λ no l g. none no l (move (λ s m t k. IsMapping s m t k l) one.tableau s one.mask m other.tableau t other.mask k (sym es) (sym em) (sym et) (sym ek) g))

cover_is : (terms : List Minimised) (c : Cover) (i by : ℕ) → c.dropped ≡ i → c.by ≡ by → IsLeastCover terms i by → IsFirstMapping (term_at terms by) (term_at terms i) c.mapping → IsCover terms c
cover_is terms c i by ei eb least mapping = record {
  least = subst (λ i. IsLeastCover terms i c.by) (sym ei) (subst (λ b. IsLeastCover terms i b) (sym eb) least);
  mapping = subst (λ i. IsFirstMapping (term_at terms c.by) (term_at terms i) c.mapping) (sym ei) (subst (λ b. IsFirstMapping (term_at terms b) (term_at terms i) c.mapping) (sym eb) mapping);
}

-- the terms below i are gone through
pub record AreReduced (terms : List Minimised) (i : ℕ) (kept : List ℕ) (covers : List Cover) : Type 0 where
  pub kept_are : AreExactly (λ j. (j < i) × IsKeptTerm terms j) kept
  pub dropped_are : AreExactly (λ j. (j < i) × IsDropped terms j) (map (λ c. c.dropped) covers)
  pub covers_are : All (IsCover terms) covers

pub one_kept : (terms : List Minimised) (i : ℕ) (kept new : List ℕ) (covers : List Cover) → new ≡ kept ++ i ∷ [] → IsKeptTerm terms i → AreReduced terms i kept covers → AreReduced terms (i + 1) new covers
one_kept terms i kept new covers is k r = record {
  kept_are = subst (AreExactly (λ j. (j < i + 1) × IsKeptTerm terms j)) (sym is) (exactly_more (IsKeptTerm terms) i kept k r.kept_are);
  dropped_are = exactly_skip (IsDropped terms) i (map (λ c. c.dropped) covers) k.stays r.dropped_are;
  covers_are = r.covers_are;
}

pub one_dropped : (terms : List Minimised) (i by : ℕ) (kept : List ℕ) (covers new : List Cover) (c : Cover) → new ≡ covers ++ c ∷ [] → c.dropped ≡ i → c.by ≡ by → IsDropped terms i → IsLeastCover terms i by → IsFirstMapping (term_at terms by) (term_at terms i) c.mapping → AreReduced terms i kept covers → AreReduced terms (i + 1) kept new
one_dropped terms i by kept covers new c is ei eb d least mapping r =
    let f = λ (c : Cover). c.dropped in
    let e : map f new ≡ map f covers ++ i ∷ [] = ap (map f) is ∙ map-append f covers (c ∷ []) ∙ ap (λ n. map f covers ++ n ∷ []) ei in
    record {
      kept_are = exactly_skip (IsKeptTerm terms) i kept (λ k. k.stays d) r.kept_are;
      dropped_are = subst (AreExactly (λ j. (j < i + 1) × IsDropped terms j)) (sym e) (exactly_more (IsDropped terms) i (map f covers) d r.dropped_are);
      covers_are = subst (All (IsCover terms)) (sym is) (All-push (IsCover terms) covers c r.covers_are (cover_is terms c i by ei eb least mapping));
    }

pub all_reduced : (terms : List Minimised) (i : ℕ) (kept : List ℕ) (covers : List Cover) → i ≡ length terms → AreReduced terms i kept covers → IsReduced terms (record { kept = kept; covers = covers })
all_reduced terms i kept covers e r = record {
  kept = subst (λ n. AreExactly (λ j. (j < n) × IsKeptTerm terms j) kept) e r.kept_are;
  dropped = subst (λ n. AreExactly (λ j. (j < n) × IsDropped terms j) (map (λ c. c.dropped) covers)) e r.dropped_are;
  covers = r.covers_are;
}
