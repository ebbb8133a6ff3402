-- The least breakers among sets that stand behind their parts, one set after another: a set that has one found so far within it is not least, and a breaker that has none is.
use Rattle.std.proofs.Common.{ℕ, ◌≡◌, ◌+◌, ◌<◌, ◌≤◌, ◌↔◌, ◌⊎◌, inl, inr, IsTrue, Bool, true, false, List, [], ◌∷◌, ◌++◌, if◌then◌else◌, take, length, get_or, Contains, refl, sym, ap, subst, ◌∙◌, ⊎_elim, arith, append-nil}
use Rattle.std.specs.List.{list_any}
use Rattle.std.specs.Ordering.{nat_cmp}
use Rattle.std.specs.FinSet.{FinSet, is_subset}
use Rattle.std.proofs.lemmas.Bool.{cases_lt, false≢true}
use Rattle.std.proofs.lemmas.List.{length-take, get_or-take, get_or_default, take_more, take_all}
use Rattle.std.proofs.lemmas.List.Elements.{Contains-append_left, Contains-push, Contains-push_cases}
use Rattle.std.proofs.lemmas.List.Folds.{Any-from_list_any, list_any_at}
use Rattle.su_base.specs.Lists.{AllDiffer}
use Rattle.su_base.proofs.Items.{Contains-nil, AllDiffer-push}
use Rattle.su_base.proofs.Subsets.{subset_refl, subset_trans, subset_antisymm}
use Rattle.su_reduce.specs.Ears.{AreAcyclic}
use Rattle.su_advise.specs.Acyclic.{edges_of}
use Rattle.su_advise.specs.Breakers.{thinned, IsBreaker, IsLeastBreaker, AreLeastBreakers}

-- one of these is within the set
abbrev pub HasWithin : List (FinSet nat_cmp) → FinSet nat_cmp → Type 0
HasWithin found s = (f : FinSet nat_cmp) × Contains found f × IsTrue (is_subset f s)

pub within_by : (found : List (FinSet nat_cmp)) (s : FinSet nat_cmp) → list_any (λ f. is_subset f s) found ≡ true → HasWithin found s
within_by found s h = let w = Any-from_list_any (λ (f : FinSet nat_cmp). is_subset f s) found h in (w.1, (w.0, w.2, w.3), w.4)

pub none_within : (found : List (FinSet nat_cmp)) (s : FinSet nat_cmp) → list_any (λ f. is_subset f s) found ≡ false → HasWithin found s → ⊥
none_within found s out w =
    let c = w.1 in
    false≢true (sym out ∙ list_any_at (λ (f : FinSet nat_cmp). is_subset f s) found c.0 w.0 c.1 (ap (λ (f : FinSet nat_cmp). is_subset f s) c.2 ∙ w.2))

-- those of the first n sets
pub record AreBreakersTo (objects : List (FinSet nat_cmp)) (m among : FinSet nat_cmp) (sets : List (FinSet nat_cmp)) (n : ℕ) (found : List (FinSet nat_cmp)) : Type 0 where
  pub differ : AllDiffer found
  pub members : (s : FinSet nat_cmp) → Contains found s → IsLeastBreaker objects m among s
  pub covers : (s : FinSet nat_cmp) → Contains (take n sets) s → AreAcyclic (edges_of (thinned objects s) m) → HasWithin found s

module _ (objects : List (FinSet nat_cmp)) (m among : FinSet nat_cmp) (sets : List (FinSet nat_cmp)) (are : (s : FinSet nat_cmp) → Contains sets s ↔ IsTrue (is_subset s among))
    (parts_first : (i j : ℕ) (d : FinSet nat_cmp) → i < length sets → j < length sets → IsTrue (is_subset (get_or sets i d) (get_or sets j d)) → i ≤ j) where
  pub breakers_none : (found : List (FinSet nat_cmp)) → found ≡ [] → AreBreakersTo objects m among sets 0 found
  breakers_none found e = subst (AreBreakersTo objects m among sets 0) (sym e) (record {
    differ = λ i j d lt within. absurd (omega arith);
    members = λ s c. absurd (Contains-nil s c);
    covers = λ s c acyclic. absurd (Contains-nil s c);
  })

  module _ (n : ℕ) (low : n < length sets) (found : List (FinSet nat_cmp)) (before : AreBreakersTo objects m among sets n found) (tried : FinSet nat_cmp) (is : tried ≡ get_or sets n tried) where
    more : take (n + 1) sets ≡ take n sets ++ tried ∷ []
    more = take_more sets n tried low ∙ ap (λ t. take n sets ++ t ∷ []) (sym is)

    cases : (s : FinSet nat_cmp) → Contains (take (n + 1) sets) s → Contains (take n sets) s ⊎ (tried ≡ s)
    cases s c = Contains-push_cases (take n sets) tried s (subst (λ ts. Contains ts s) more c)

    pub breakers_past : HasWithin found tried → AreBreakersTo objects m among sets (n + 1) found
    breakers_past has = record {
      differ = before.differ;
      members = before.members;
      covers = λ s c acyclic. ⊎_elim
          (λ (old : Contains (take n sets) s). before.covers s old acyclic)
          (λ (new : tried ≡ s). subst (HasWithin found) new has)
          (cases s c);
    }

    module _ (none : HasWithin found tried → ⊥) where
      -- a breaker within the set stands before it, and so has one found within it, or is the set
      least : (u : FinSet nat_cmp) → IsTrue (is_subset u tried) → IsBreaker objects m among u → IsTrue (is_subset tried u)
      least u part breaker =
          let c = (are u).1 breaker.within in
          let j = c.0 in
          let at : get_or sets j tried ≡ u = get_or_default sets j tried u c.1 ∙ c.2 in
          let first : j ≤ n = parts_first j n tried c.1 low (subst (λ (t : FinSet nat_cmp). IsTrue (is_subset (get_or sets j tried) t)) is (subst (λ (t : FinSet nat_cmp). IsTrue (is_subset t tried)) (sym at) part)) in
          elim (cases_lt j n) [
            | inl earlier ↦
                let early : Contains (take n sets) u = (j, omega (arith, length-take n sets, low, earlier), get_or-take n sets j u earlier ∙ c.2) in
                let w = before.covers u early breaker.acyclic in
                absurd (none (w.0, w.1, subset_trans w.0 u tried w.2 part))
            | inr here ↦
                let same : n ≡ j = omega arith in
                let equal : tried ≡ u = is ∙ ap (λ (k : ℕ). get_or sets k tried) same ∙ at in
                subst (λ (t : FinSet nat_cmp). IsTrue (is_subset tried t)) equal (subset_refl tried)
          ]

      breakers_in : AreAcyclic (edges_of (thinned objects tried) m) → AreBreakersTo objects m among sets (n + 1) (found ++ tried ∷ [])
      breakers_in acyclic = record {
        differ = AllDiffer-push found tried before.differ (λ c. none (tried, c, subset_refl tried));
        members = λ s c. ⊎_elim
            (λ (old : Contains found s). before.members s old)
            (λ (new : tried ≡ s). subst (IsLeastBreaker objects m among) new (record {
              breaker = record { within = (are tried).0 (n, low, sym is); acyclic = acyclic };
              least = least;
            }))
            (Contains-push_cases found tried s c);
        covers = λ s c acyclic. ⊎_elim
            (λ (old : Contains (take n sets) s). let w = before.covers s old acyclic in (w.0, Contains-append_left found (tried ∷ []) w.0 w.1, w.2))
            (λ (new : tried ≡ s). subst (HasWithin (found ++ tried ∷ [])) new (tried, Contains-push found tried, subset_refl tried))
            (cases s c);
      }

      breakers_out : (AreAcyclic (edges_of (thinned objects tried) m) → ⊥) → AreBreakersTo objects m among sets (n + 1) found
      breakers_out cyclic = record {
        differ = before.differ;
        members = before.members;
        covers = λ s c acyclic. ⊎_elim
            (λ (old : Contains (take n sets) s). before.covers s old acyclic)
            (λ (new : tried ≡ s). absurd (cyclic (subst (λ (t : FinSet nat_cmp). AreAcyclic (edges_of (thinned objects t) m)) (sym new) acyclic)))
            (cases s c);
      }

      pub breakers_next : (b : Bool) (next : List (FinSet nat_cmp)) → (IsTrue b ↔ AreAcyclic (edges_of (thinned objects tried) m)) → next ≡ found ++ (if b then tried ∷ [] else []) → AreBreakersTo objects m among sets (n + 1) next
      breakers_next true next tells e = subst (AreBreakersTo objects m among sets (n + 1)) (sym e) (breakers_in (tells.0 refl))
      breakers_next false next tells e = subst (AreBreakersTo objects m among sets (n + 1)) (sym (e ∙ append-nil found)) (breakers_out (λ acyclic. false≢true (tells.1 acyclic)))

  pub breakers_all : (n : ℕ) (found : List (FinSet nat_cmp)) → n ≡ length sets → AreBreakersTo objects m among sets n found → AreLeastBreakers objects m among found
  breakers_all n found end before = record {
    differ = before.differ;
    members = λ s. (
      before.members s,
      λ is_least.
          let all : take n sets ≡ sets = take_all n sets (omega arith) in
          let there = (are s).1 is_least.breaker.within in
          let w = before.covers s (subst (λ ts. Contains ts s) (sym all) there) is_least.breaker.acyclic in
          let own = before.members w.0 w.1 in
          let same : w.0 ≡ s = subset_antisymm w.0 s w.2 (is_least.least w.0 w.2 own.breaker) in
          subst (Contains found) same w.1,
    );
  }
