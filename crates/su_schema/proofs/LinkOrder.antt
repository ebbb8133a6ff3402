-- Links in ascending order of their attributes, one attribute after another.
use Rattle.std.proofs.Common.{◌≡◌, ◌+◌, ℕ, List, [], ◌∷◌, ◌++◌, ◌==◌, ◌<◌, Bool, true, false, Contains, ◌≢◌, nat_lt, length-append, All, AllPairs, get_or, length, Option, Some, None, find, subst, zero, suc, refl, ap, sym, ◌∙◌, append-nil, add-one, arith}
use Rattle.std.specs.Prelude.{if◌then◌else◌}
use Rattle.std.proofs.lemmas.List.{get_or_default}
use Rattle.std.proofs.lemmas.List.Quantifiers.{all_pairs_push}
use Rattle.std.proofs.lemmas.Bool.Decides.{nat_tests}
use Rattle.std.specs.List.{range_with_len, filter_map, cons_option}
use Rattle.std.proofs.lemmas.List.Elements.{filter_map-append, All-push}
use Rattle.su_base.proofs.Items.{range-suc}
use Rattle.su_schema.specs.declared.links.Link.{Link}
use Rattle.su_schema.specs.Definitions.{ascending}

module _ (links : List Link) (a : ℕ) where
  more : ascending (a + 1) links ≡ ascending a links ++ filter_map (λ b. find (λ l. l.attribute == b) links) (a ∷ [])
  more =
      let range : range_with_len 0 (a + 1) ≡ range_with_len 0 a ++ a ∷ [] = rw add-one (range-suc 0 a a (omega arith)) in
      ap (filter_map (λ b. find (λ l. l.attribute == b) links)) range ∙ filter_map-append (λ b. find (λ l. l.attribute == b) links) (range_with_len 0 a) (a ∷ [])

  pub ascending-Some : (l : Link) → Some l ≡ find (λ k. k.attribute == a) links → ascending (a + 1) links ≡ ascending a links ++ l ∷ []
  ascending-Some l found = more ∙ ap (λ o. ascending a links ++ cons_option o []) (sym found)

  pub ascending-None : None ≡ find (λ k. k.attribute == a) links → ascending (a + 1) links ≡ ascending a links
  ascending-None none = more ∙ ap (λ o. ascending a links ++ cons_option o []) (sym none) ∙ append-nil (ascending a links)

-- what `find` gives is in the list and passes
pub found : {X : Type 0} (p : X → Bool) (xs : List X) (x : X) → find p xs ≡ Some x → Contains xs x × (p x ≡ true)
found p [] x h = cc
found p (y ∷ ys) x h =
    elim (p y) as (λ b. p y ≡ b → (if b then Some y else find p ys) ≡ Some x → Contains (y ∷ ys) x × (p x ≡ true)) [
      | true ↦ λ one e. let same : y ≡ x = cc in ((0, omega arith, same), rw (← same) one)
      | false ↦ λ none e. let later : Contains ys x × (p x ≡ true) = found p ys x e in ((suc later.0.0, omega arith, later.0.2), later.1)
    ] refl h

-- each is one of the links, and its attribute is below n
pub record IsBelow (links : List Link) (n : ℕ) (l : Link) : Type 0 where
  pub one : Contains links l
  pub below : l.attribute < n

pub ascending-IsBelow : (links : List Link) (n : ℕ) → All (IsBelow links n) (ascending n links)
ascending-IsBelow links zero = λ k d h. absurd (omega arith)
ascending-IsBelow links (suc n) =
    let before : All (IsBelow links (suc n)) (ascending n links) = λ k d h. let b : IsBelow links n (get_or (ascending n links) k d) = ascending-IsBelow links n k d h in record { one = b.one; below = omega arith } in
    let next : n + 1 ≡ suc n = omega arith in
    let shape : ascending (n + 1) links ≡ ascending (suc n) links = ap (λ m. ascending m links) next in
    by (find (λ l. l.attribute == n) links) refl before shape
  where
    by : (o : Option Link) → find (λ l. l.attribute == n) links ≡ o → All (IsBelow links (suc n)) (ascending n links) → ascending (n + 1) links ≡ ascending (suc n) links → All (IsBelow links (suc n)) (ascending (suc n) links)
    by None none before shape = subst (All (IsBelow links (suc n))) (sym (ascending-None links n (sym none)) ∙ shape) before
    by (Some l) some before shape =
        let f : Contains links l × ((l.attribute == n) ≡ true) = found (λ l. l.attribute == n) links l some in
        let at : l.attribute ≡ n = grind (arith, nat_tests, f.1) in
        let here : IsBelow links (suc n) l = record { one = f.0; below = omega arith } in
        subst (All (IsBelow links (suc n))) (sym (ascending-Some links n l (sym some)) ∙ shape) (All-push (IsBelow links (suc n)) (ascending n links) l before here)

-- a link that is found at an attribute below n is among the first n
pub ascending-holds : (links : List Link) (n a : ℕ) (l : Link) → a < n → find (λ k. k.attribute == a) links ≡ Some l → 0 < length (ascending n links)
ascending-holds links zero a l below at = absurd (omega arith)
ascending-holds links (suc n) a l below at =
    let next : n + 1 ≡ suc n = omega arith in
    let shape : ascending (n + 1) links ≡ ascending (suc n) links = ap (λ m. ascending m links) next in
    by (find (λ l. l.attribute == n) links) refl shape (λ less. ascending-holds links n a l less at)
  where
    by : (o : Option Link) → find (λ l. l.attribute == n) links ≡ o → ascending (n + 1) links ≡ ascending (suc n) links → (a < n → 0 < length (ascending n links)) → 0 < length (ascending (suc n) links)
    by None none shape before =
        let other : (a ≡ n) → ⊥ = λ same. let two : find (λ k. k.attribute == a) links ≡ None = rw same none in let bad : Some l ≡ None = sym at ∙ two in cc in
        let less : a < n = omega arith in
        rw (← shape, ascending-None links n (sym none)) (before less)
    by (Some k) some shape before = rw (← shape, ascending-Some links n k (sym some), length-append) (omega arith)

-- two links of the list that differ in their attributes differ in their columns, where no two places share a column
pub columns_apart : (links : List Link) → AllPairs (λ k l. k.column ≢ l.column) links → (k l : Link) → Contains links k → Contains links l → k.attribute < l.attribute → k.column ≢ l.column
columns_apart links apart k l one two less same =
    let ki : get_or links one.0 k ≡ k = one.2 in
    let li : get_or links two.0 l ≡ l = two.2 in
    let lk : get_or links two.0 k ≡ l = get_or_default links two.0 k l two.1 ∙ li in
    let kl : get_or links one.0 l ≡ k = get_or_default links one.0 l k one.1 ∙ ki in
    elim (nat_lt one.0 two.0) as (λ b. nat_lt one.0 two.0 ≡ b → ⊥) [
      | true ↦ λ first. let far : (get_or links one.0 k).column ≢ (get_or links two.0 k).column = apart one.0 two.0 k (grind (arith, nat_tests, first)) two.1 in far (ap (λ x. x.column) ki ∙ same ∙ sym (ap (λ x. x.column) lk))
      | false ↦ λ later.
          elim (nat_lt two.0 one.0) as (λ b. nat_lt two.0 one.0 ≡ b → ⊥) [
            | true ↦ λ second. let far : (get_or links two.0 l).column ≢ (get_or links one.0 l).column = apart two.0 one.0 l (grind (arith, nat_tests, second)) one.1 in far (ap (λ x. x.column) li ∙ sym same ∙ sym (ap (λ x. x.column) kl))
            | false ↦ λ nor.
                let place : one.0 ≡ two.0 = grind (arith, nat_tests, later, nor) in
                let one_link : k ≡ l = sym ki ∙ ap (λ i. get_or links i k) place ∙ lk in
                let equal : k.attribute ≡ l.attribute = ap (λ x. x.attribute) one_link in
                absurd (omega arith)
          ] refl
    ] refl

-- the links stand in ascending order, and their columns differ
pub record Ordered (k l : Link) : Type 0 where
  pub less : k.attribute < l.attribute
  pub apart : k.column ≢ l.column

pub ascending-AllPairs : (links : List Link) → AllPairs (λ k l. k.column ≢ l.column) links → (n : ℕ) → AllPairs Ordered (ascending n links)
ascending-AllPairs links apart zero = λ i j d less within. absurd (omega arith)
ascending-AllPairs links apart (suc n) =
    let next : n + 1 ≡ suc n = omega arith in
    let shape : ascending (n + 1) links ≡ ascending (suc n) links = ap (λ m. ascending m links) next in
    by (find (λ l. l.attribute == n) links) refl (ascending-AllPairs links apart n) shape
  where
    by : (o : Option Link) → find (λ l. l.attribute == n) links ≡ o → AllPairs Ordered (ascending n links) → ascending (n + 1) links ≡ ascending (suc n) links → AllPairs Ordered (ascending (suc n) links)
    by None none before shape = subst (AllPairs Ordered) (sym (ascending-None links n (sym none)) ∙ shape) before
    by (Some l) some before shape =
        let f : Contains links l × ((l.attribute == n) ≡ true) = found (λ l. l.attribute == n) links l some in
        let at : l.attribute ≡ n = grind (arith, nat_tests, f.1) in
        let last : (k : ℕ) (d : Link) → k < length (ascending n links) → Ordered (get_or (ascending n links) k d) l =
        λ k d h.
        let b : IsBelow links n (get_or (ascending n links) k d) = ascending-IsBelow links n k d h in
        let less : (get_or (ascending n links) k d).attribute < l.attribute = rw at b.below in
        record { less = less; apart = columns_apart links apart (get_or (ascending n links) k d) l b.one f.0 less } in
        subst (AllPairs Ordered) (sym (ascending-Some links n l (sym some)) ∙ shape) (all_pairs_push Ordered (ascending n links) l before last)
