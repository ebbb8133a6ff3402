-- The number of a known name: it leads back to the name, so known names with one number are one name.
use Rattle.std.proofs.Common.{◌≡◌, ◌+◌, ◌<◌, ℕ, Bool, true, false, cond, not, ◌||◌, List, [], ◌∷◌, ◌++◌, length, map, slice_get, Some, None, is_some, refl, sym, ap, subst, ◌∙◌, All, take, get_or, nat_eq, nat_lt, suc, arith}
use Rattle.std.specs.List.{position_or_len, list_any}
use Rattle.std.specs.Str.{bytes_eq}
use Rattle.std.specs.Ordering.{nat_cmp}
use Rattle.std.specs.Cmp.{nat_cmp_total}
use Rattle.std.specs.FinSet.{contains, insert, from_list, contains-from_list_nat, members, same_set, nat_cmp-IsAntisymmetric}
use Rattle.std.proofs.lemmas.Bool.{false≢true}
use Rattle.std.proofs.lemmas.Bool.Decides.{nat_tests}
use Rattle.std.proofs.lemmas.Grind.{common_steps}
use Rattle.std.proofs.lemmas.List.Elements.{All-head, All-tail}
use Rattle.std.proofs.lemmas.Slice.Eq.{bytes_eq-Decides}
use Rattle.std.proofs.lemmas.List.Folds.{list_any-append}
use Rattle.std.proofs.lemmas.List.{take_more, map-append}
use Rattle.su_schema.specs.Entries.{place_of}
use Rattle.su_schema.specs.Known.{is_known, number_of}
use Rattle.su_schema.specs.Definitions.{numbers_of}

-- an item passes exactly where the first that passes is within the list
pub any_within : {X : Type 0} (p : X → Bool) (xs : List X) → list_any p xs ≡ nat_lt (position_or_len p xs) (length xs)
any_within p [] = refl
any_within p (x ∷ xs) =
    elim (p x) as (λ b. (b || list_any p xs) ≡ nat_lt (cond (not b) (1 + position_or_len p xs) 0) (suc (length xs))) [
      | true ↦ grind (arith, nat_tests)
      | false ↦ grind (arith, nat_tests, any_within p xs)
    ]

pub known-Some : (names : List (List ℕ)) (name : List ℕ) (i : ℕ) → place_of names name ≡ Some i → (is_known names name ≡ true) × (number_of names name ≡ i) × (i < length names)
known-Some names name i at = (grind (arith, nat_tests, any_within (λ n. bytes_eq name n) names, at), grind (arith, nat_tests, at), grind (arith, nat_tests, at))

pub known-None : (names : List (List ℕ)) (name : List ℕ) → place_of names name ≡ None → is_known names name ≡ false
known-None names name at = grind (arith, nat_tests, any_within (λ n. bytes_eq name n) names, at)

pub is_known-place_of : (names : List (List ℕ)) (name : List ℕ) → is_known names name ≡ is_some (place_of names name)
is_known-place_of names name = grind (arith, nat_tests, any_within (λ n. bytes_eq name n) names, common_steps)

-- the number of a known name leads back to it
pub slice_get-number_of : (names : List (List ℕ)) (name : List ℕ) → is_known names name ≡ true → slice_get names (number_of names name) ≡ Some name
slice_get-number_of [] name known = absurd (false≢true known)
slice_get-number_of (n ∷ names) name known =
    elim (bytes_eq name n)
    as (λ b. bytes_eq name n ≡ b → (b || is_known names name) ≡ true → slice_get (n ∷ names) (cond (not b) (1 + number_of names name) 0) ≡ Some name) [
      | true ↦ λ same found. ap Some (sym ((bytes_eq-Decides name n).0 same))
      | false ↦ λ other found. let up : suc (number_of names name) ≡ 1 + number_of names name = omega arith in subst (λ (k : ℕ). slice_get (n ∷ names) k ≡ Some name) up (slice_get-number_of names name found)
    ] refl known

-- known names with one number are one name
pub same_number : (names : List (List ℕ)) (n m : List ℕ) → is_known names n ≡ true → is_known names m ≡ true → nat_eq (number_of names n) (number_of names m) ≡ bytes_eq m n
same_number names n m known-n known-m =
    elim (bytes_eq m n) as (λ b. bytes_eq m n ≡ b → nat_eq (number_of names n) (number_of names m) ≡ b) [
      | true ↦ λ same. let e : m ≡ n = (bytes_eq-Decides m n).0 same in rw e (grind (arith, nat_tests))
      | false ↦ λ other.
          elim (nat_eq (number_of names n) (number_of names m)) as (λ b. nat_eq (number_of names n) (number_of names m) ≡ b → b ≡ false) [
            | false ↦ λ _. refl
            | true ↦ λ one.
                let k : number_of names n ≡ number_of names m = grind (arith, nat_tests, one) in
                let at-n : slice_get names (number_of names n) ≡ Some n = slice_get-number_of names n known-n in
                let at-m : slice_get names (number_of names m) ≡ Some m = slice_get-number_of names m known-m in
                let e : m ≡ n = cc in
                absurd (false≢true (sym other ∙ (bytes_eq-Decides m n).1 e))
          ] refl
    ] refl

-- so a number stands among the numbers of known names exactly where its name stands among them
pub any-numbers : (names before : List (List ℕ)) (name : List ℕ) → All (λ n. is_known names n ≡ true) before → is_known names name ≡ true
    → list_any (λ y. nat_eq y (number_of names name)) (map (number_of names) before) ≡ is_known before name
any-numbers names [] name all known = refl
any-numbers names (n ∷ before) name all known =
    let head : nat_eq (number_of names n) (number_of names name) ≡ bytes_eq name n = same_number names n name (All-head (λ m. is_known names m ≡ true) n before all) known in
    let tail : list_any (λ y. nat_eq y (number_of names name)) (map (number_of names) before) ≡ is_known before name = any-numbers names before name (All-tail (λ m. is_known names m ≡ true) n before all) known in
    rw (head, tail) refl

pub contains-numbers_of : (names before : List (List ℕ)) (name : List ℕ) → All (λ n. is_known names n ≡ true) before → is_known names name ≡ true
    → contains (numbers_of names before) (number_of names name) ≡ is_known before name
contains-numbers_of names before name all known = contains-from_list_nat (map (number_of names) before) (number_of names name) ∙ any-numbers names before name all known

last_first : (a b c : Bool) → a ≡ b → (c || (a || false)) ≡ (b || c)
last_first true b true e = rw (← e) refl
last_first true b false e = rw (← e) refl
last_first false b true e = rw (← e) refl
last_first false b false e = rw (← e) refl

-- a set takes its last member in as it takes its first
pub from_list-push : (ks : List ℕ) (k : ℕ) → from_list {R = nat_cmp} (ks ++ k ∷ []) ≡ insert (from_list ks) k
from_list-push ks k =
    same_set nat_cmp_total nat_cmp-IsAntisymmetric _ _
    (λ q. let left : contains (from_list {R = nat_cmp} (ks ++ k ∷ [])) q ≡ (list_any (λ y. nat_eq y q) ks || (nat_eq k q || false)) = contains-from_list_nat (ks ++ k ∷ []) q ∙ list_any-append (λ y. nat_eq y q) ks (k ∷ []) in
    let right : contains (insert (from_list {R = nat_cmp} ks) k) q ≡ (nat_eq q k || list_any (λ y. nat_eq y q) ks) = grind (arith, nat_tests, members, contains-from_list_nat ks q) in
    left ∙ last_first (nat_eq k q) (nat_eq q k) _ (grind (arith, nat_tests)) ∙ sym right)

-- one more number of a list goes into the set
pub from_list-more : {X : Type 0} (f : X → ℕ) (xs : List X) (i : ℕ) (d : X) → i < length xs → from_list {R = nat_cmp} (map f (take (i + 1) xs)) ≡ insert (from_list (map f (take i xs))) (f (get_or xs i d))
from_list-more f xs i d within = rw (take_more xs i d within, map-append) (from_list-push (map f (take i xs)) (f (get_or xs i d)))
