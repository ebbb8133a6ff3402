-- The list of maximal objects, seed by seed, and that there is one.
use Rattle.std.proofs.Common.{ℕ, ◌+◌, ◌<◌, ◌≡◌, inl, inr, true, false, List, [], ◌∷◌, ◌++◌, map, length, get_or, ap, subst, sym, ◌∙◌, append-nil, cond, arith}
use Rattle.std.specs.List.{filter, range_with_len}
use Rattle.std.proofs.lemmas.Bool.{cases_lt}
use Rattle.std.proofs.lemmas.List.{get_or_append_left, get_or_push, get_or_default, same_lists}
use Rattle.std.specs.Ordering.{nat_cmp}
use Rattle.std.specs.FinSet.{FinSet, empty}
use Rattle.su_base.proofs.PassingNumbers.{images_more}
use Rattle.su_fd.specs.declared.Fd.{Fd}
use Rattle.su_maxobj.specs.Laws.{MaximalObjectsAreUnique}
use Rattle.su_maxobj.specs.Growth.{IsGrown}
use Rattle.su_base.specs.Sets.{set_at}
use Rattle.su_maxobj.specs.MaximalObjects.{object_sets, is_listed, computed}
use Rattle.su_base.proofs.Subsets.{set_at_read}
use Rattle.su_maxobj.proofs.GrowthSteps.{one_grown}

abbrev pub ListedBelow : List (FinSet nat_cmp) → List (FinSet nat_cmp) → ℕ → List (FinSet nat_cmp)
ListedBelow declared grown n = declared ++ map (set_at grown) (filter (is_listed declared grown) (range_with_len 0 n))

module _ (declared grown sets t : List (FinSet nat_cmp)) (n : ℕ) (before : sets ≡ ListedBelow declared grown n) where
  pub listed_push : is_listed declared grown n ≡ true → n < length grown → (v : FinSet nat_cmp) → v ≡ get_or grown n v → t ≡ sets ++ v ∷ [] → t ≡ ListedBelow declared grown (n + 1)
  listed_push passes h v v_is t_is =
      let own : v ≡ set_at grown n = sym (set_at_read grown n v h v_is) in
      images_more (set_at grown) (is_listed declared grown) n declared sets t before (t_is ∙ ap (λ z. sets ++ z ∷ []) own ∙ sym (ap (λ b. sets ++ cond b (set_at grown n ∷ []) []) passes))

  pub listed_skip : is_listed declared grown n ≡ false → t ≡ sets → t ≡ ListedBelow declared grown (n + 1)
  listed_skip fails t_is = images_more (set_at grown) (is_listed declared grown) n declared sets t before (t_is ∙ sym (append-nil sets) ∙ sym (ap (λ b. sets ++ cond b (set_at grown n ∷ []) []) fails))

-- the grown sets of the first seeds, with one seed more
pub grown_push : (fds : List Fd) (objects grown : List (FinSet nat_cmp)) (n : ℕ) (v : FinSet nat_cmp) → length grown ≡ n → ((k : ℕ) → k < n → IsGrown fds objects k (set_at grown k)) → IsGrown fds objects n v
    → (k : ℕ) → k < n + 1 → IsGrown fds objects k (set_at (grown ++ v ∷ []) k)
grown_push fds objects grown n v seeds each own k h = elim (cases_lt k n) [
  | inl lt ↦ subst (IsGrown fds objects k) (sym (get_or_append_left grown (v ∷ []) empty k (omega (arith, seeds)))) (each k lt)
  | inr ge ↦
      let same : k ≡ n = omega arith in
      let last : set_at (grown ++ v ∷ []) k ≡ v = get_or_push grown v empty k (seeds ∙ sym same) in
      subst (IsGrown fds objects k) (sym last) (subst (λ m. IsGrown fds objects m v) (sym same) own)
]

-- a schema has one list of maximal objects
pub one_list : MaximalObjectsAreUnique
one_list schema sets other a b =
    let same : b.grown ≡ a.grown =
    same_lists b.grown a.grown (b.seeds ∙ sym a.seeds)
    (λ k d h.
    let x : IsGrown schema.fds (object_sets schema) k (set_at b.grown k) = b.each k (omega (arith, b.seeds)) in
    let y : IsGrown schema.fds (object_sets schema) k (set_at a.grown k) = a.each k (omega (arith, b.seeds)) in
    get_or_default b.grown k d empty h ∙ one_grown _ _ _ _ _ x y ∙ get_or_default a.grown k empty d (omega (arith, a.seeds, b.seeds)))
    in
    b.sets_are ∙ ap (λ g. schema.declared ++ computed schema.declared g) same ∙ sym a.sets_are
