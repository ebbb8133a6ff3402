-- Lists whose elements stay below a bound while they are changed.
use Rattle.std.proofs.Common.{◌≡◌, ℕ, zero, suc, ◌+◌, ◌<◌, ◌≤◌, List, [], ◌∷◌, ◌++◌, length, get_or, set, Contains, refl, sym, ◌∙◌, subst, arith}
use Rattle.std.specs.Prelude.{All, MatchOption, Option, Some, None}
use Rattle.std.proofs.lemmas.List.{length-set, length-append}
use Rattle.std.proofs.lemmas.List.Elements.{All-nil, All-set, All-append, All-contains, Contains-append_left, Contains-get_or}
use Rattle.su_classes.specs.declared.worklist.Spot.{Spot}
use Rattle.su_classes.specs.declared.worklist.Worklist.{Worklist}
use Rattle.su_classes.specs.inside.Worklists.{IsWell, IsSame, IsSpot, IsFor}

pub all_more : (n m : ℕ) (xs : List ℕ) → n ≤ m → All (λ x. x < n) xs → All (λ x. x < m) xs
all_more n m xs le all i d l = let b = all i d l in omega arith

pub all_one : {X : Type 0} (P : X → Type 0) (x : X) → P x → All P (x ∷ [])
all_one P x p zero d l = p
all_one P x p (suc i) d l = absurd (omega arith)

-- an element is put in place of another
pub ring_set : (next : List ℕ) (i n : ℕ) → n < length next → All (λ k. k < length next) next → All (λ k. k < length (set next i n)) (set next i n)
ring_set next i n l all = all_more (length next) (length (set next i n)) (set next i n) (let e = length-set next i n in omega arith) (All-set (λ k. k < length next) next i n l all)

-- a new last element comes after the i-th one
pub ring_enter : (next : List ℕ) (i after : ℕ) → after < length next → All (λ k. k < length next) next → All (λ k. k < length (set (next ++ after ∷ []) i (length next))) (set (next ++ after ∷ []) i (length next))
ring_enter next i after l all =
    let longer = next ++ after ∷ [] in
    let e : length longer ≡ length next + 1 = length-append next (after ∷ []) in
    let more : All (λ k. k < length longer) longer = all_more (length next) (length longer) longer (omega arith) (All-append (λ k. k < length next) next (after ∷ []) all (all_one (λ k. k < length next) after l)) in
    ring_set longer i (length next) (omega arith) more

pub members_more : {X : Type 0} (xs ys zs : List X) → All (Contains xs) ys → All (Contains (xs ++ zs)) ys
members_more xs ys zs all i d l = Contains-append_left xs zs (get_or ys i d) (all i d l)

pub same_none : (w : Worklist) → IsWell w → IsSame w w
same_none w well = record { well = well; items = refl; spots = refl }

pub same_then : (a b c : Worklist) → IsSame a b → IsSame b c → IsSame a c
same_then a b c s r = record { well = r.well; items = r.items ∙ s.items; spots = r.spots ∙ s.spots }

pub for_same : (items rows : ℕ) (a b : Worklist) → IsFor items rows a → IsSame a b → IsFor items rows b
for_same items rows a b f s = record {
  well = s.well;
  count = s.items ∙ f.count;
  spots = subst (λ (list : List Spot). All (IsSpot rows) list) (sym s.spots) f.spots;
}

pub all_popped : {X : Type 0} (P : X → Type 0) (old new : List X) (r : Option X) → MatchOption r ((old ≡ []) × (new ≡ [])) (λ x. old ≡ new ++ x ∷ []) → All P old → All P new
all_popped P old new None e all = subst (All P) (sym e.1) (All-nil P)
all_popped P old new (Some x) e all = λ i d l. All-contains P (new ++ x ∷ []) (get_or new i d) (subst (All P) e all) (Contains-append_left new (x ∷ []) (get_or new i d) (Contains-get_or new i d l))
