-- Lists of numbers that ascend.
use Rattle.std.proofs.Common.{◌≡◌, ℕ, zero, suc, ◌+◌, ◌<◌, ◌≤◌, ◌↔◌, List, [], ◌∷◌, ◌++◌, length, get_or, Contains, refl, ap, subst, ◌∙◌, ⊎_elim, arith}
use Rattle.std.proofs.Math.Seq.{get_or-append_seam}
use Rattle.std.proofs.lemmas.Bool.{cases_lt}
use Rattle.std.proofs.lemmas.List.{get_or_default, length-append, get_or_append_left}
use Rattle.std.specs.List.{sum_by}
use Rattle.std.proofs.lemmas.List.Sums.{sum_by-cons}
use Rattle.std.proofs.lemmas.List.Elements.{Contains-push, Contains-push_cases, Contains-append_left, Contains-get_or}
use Rattle.su_base.specs.Lists.{IsAscending, AreExactly}
use Rattle.su_base.proofs.Items.{Contains-cases, Contains-head, Contains-later, Contains-nil}

-- ---- heads and tails

asc_tail : (x : ℕ) (xs : List ℕ) → IsAscending (x ∷ xs) → IsAscending xs
asc_tail x xs up a b lt h = up (suc a) (suc b) (omega arith) (omega arith)

asc_head : (x : ℕ) (xs : List ℕ) (j : ℕ) → IsAscending (x ∷ xs) → Contains xs j → x < j
asc_head x xs j up has =
    let l = has.1 in
    let u = up 0 (suc has.0) (omega arith) (omega arith) in
    let e : get_or xs has.0 0 ≡ j = get_or_default xs has.0 0 j has.1 ∙ has.2 in
    omega arith

-- the head is no less than each element
least : (x : ℕ) (xs : List ℕ) (j : ℕ) → IsAscending (x ∷ xs) → Contains (x ∷ xs) j → x ≤ j
least x xs j up has =
    ⊎_elim
    (λ (e : x ≡ j). let r : x ≤ j = omega arith in r)
    (λ (r : Contains xs j). let l = asc_head x xs j up r in let r : x ≤ j = omega arith in r)
    (Contains-cases x xs j has)

-- an element greater than the head is in the tail
in_tail : (x : ℕ) (xs : List ℕ) (j : ℕ) → Contains (x ∷ xs) j → x < j → Contains xs j
in_tail x xs j has lt =
    ⊎_elim
    (λ (e : x ≡ j). absurd (omega arith))
    (λ (r : Contains xs j). r)
    (Contains-cases x xs j has)

-- lists that ascend are one if they have the same elements
pub same_ascending : (xs ys : List ℕ) → IsAscending xs → IsAscending ys → ((j : ℕ) → Contains xs j ↔ Contains ys j) → xs ≡ ys
same_ascending [] [] ux uy same = refl
same_ascending [] (y ∷ ys) ux uy same = absurd (Contains-nil y ((same y).1 (Contains-head y ys)))
same_ascending (x ∷ xs) [] ux uy same = absurd (Contains-nil x ((same x).0 (Contains-head x xs)))
same_ascending (x ∷ xs) (y ∷ ys) ux uy same =
    let lx = least x xs y ux ((same y).1 (Contains-head y ys)) in
    let ly = least y ys x uy ((same x).0 (Contains-head x xs)) in
    let e : x ≡ y = omega arith in
    let tail =
    same_ascending xs ys (asc_tail x xs ux) (asc_tail y ys uy) (λ j. (
      λ h. in_tail y ys j ((same j).0 (Contains-later x xs j h)) (let l = asc_head x xs j ux h in omega arith),
      λ h. in_tail x xs j ((same j).1 (Contains-later y ys j h)) (let l = asc_head y ys j uy h in omega arith),
    )) in
    ap (λ z. z ∷ xs) e ∙ ap (λ zs. y ∷ zs) tail

-- ---- exactly the numbers with a property

pub exactly_one : (P : ℕ → Type 0) (xs ys : List ℕ) → AreExactly P xs → AreExactly P ys → xs ≡ ys
exactly_one P xs ys hx hy =
    same_ascending xs ys hx.ascends hy.ascends (λ j. (
      λ h. (hy.members j).1 ((hx.members j).0 h),
      λ h. (hx.members j).1 ((hy.members j).0 h),
    ))

pub exactly_as : (P Q : ℕ → Type 0) (xs : List ℕ) → ((j : ℕ) → P j ↔ Q j) → AreExactly P xs → AreExactly Q xs
exactly_as P Q xs same h = record { ascends = h.ascends; members = λ j. (λ has. (same j).0 ((h.members j).0 has), λ q. (h.members j).1 ((same j).1 q)) }

pub exactly_none : (P : ℕ → Type 0) → AreExactly (λ j. (j < 0) × P j) []
exactly_none P = record {
  ascends = λ a b lt h. absurd (omega arith);
  members = λ j. (λ has. absurd (Contains-nil j has), λ h. absurd (let l = h.0 in omega arith));
}

asc_push : (xs : List ℕ) (n : ℕ) → IsAscending xs → ((j : ℕ) → Contains xs j → j < n) → IsAscending (xs ++ n ∷ [])
asc_push xs n up below a b lt h =
    let len = length-append xs (n ∷ []) in
    let la : a < length xs = omega arith in
    let ea = get_or_append_left xs (n ∷ []) 0 a la in
    ⊎_elim
    (λ (lb : b < length xs). let eb = get_or_append_left xs (n ∷ []) 0 b lb in let u = up a b lt lb in let r : get_or (xs ++ n ∷ []) a 0 < get_or (xs ++ n ∷ []) b 0 = omega arith in r)
    (λ (le : length xs ≤ b).
    let e : length xs ≡ b = omega arith in
    let eb : get_or (xs ++ n ∷ []) b 0 ≡ n = subst (λ k. get_or (xs ++ n ∷ []) k 0 ≡ n) e (get_or-append_seam xs n [] 0) in
    let u = below (get_or xs a 0) (Contains-get_or xs a 0 la) in
    let r : get_or (xs ++ n ∷ []) a 0 < get_or (xs ++ n ∷ []) b 0 = omega arith in
    r)
    (cases_lt b (length xs))

pub exactly_more : (P : ℕ → Type 0) (n : ℕ) (xs : List ℕ) → P n → AreExactly (λ j. (j < n) × P j) xs → AreExactly (λ j. (j < n + 1) × P j) (xs ++ n ∷ [])
exactly_more P n xs p h = record {
  ascends = asc_push xs n h.ascends (λ j has. ((h.members j).0 has).0);
  members = λ j. (
    λ has.
        ⊎_elim
        (λ (before : Contains xs j). let r = (h.members j).0 before in let l = r.0 in (omega arith, r.1))
        (λ (e : n ≡ j). (omega arith, subst P e p))
        (Contains-push_cases xs n j has),
    λ a.
        let l = a.0 in
        ⊎_elim
        (λ (lt : j < n). Contains-append_left xs (n ∷ []) j ((h.members j).1 (lt, a.1)))
        (λ (le : n ≤ j). let e : n ≡ j = omega arith in subst (Contains (xs ++ n ∷ [])) e (Contains-push xs n))
        (cases_lt j n),
  );
}

pub exactly_skip : (P : ℕ → Type 0) (n : ℕ) (xs : List ℕ) → (P n → ⊥) → AreExactly (λ j. (j < n) × P j) xs → AreExactly (λ j. (j < n + 1) × P j) xs
exactly_skip P n xs none h =
    exactly_as (λ j. (j < n) × P j) (λ j. (j < n + 1) × P j) xs (λ j. (
      λ a. (let l = a.0 in omega arith, a.1),
      λ a.
          let l = a.0 in
          ⊎_elim
          (λ (lt : j < n). (lt, a.1))
          (λ (le : n ≤ j). let e : j ≡ n = omega arith in absurd (none (subst P e a.1)))
          (cases_lt j n),
    )) h

-- all of them, where each is below n
pub exactly_all : (P : ℕ → Type 0) (n : ℕ) (xs : List ℕ) → ((j : ℕ) → P j → j < n) → AreExactly (λ j. (j < n) × P j) xs → AreExactly P xs
exactly_all P n xs below h = exactly_as (λ j. (j < n) × P j) P xs (λ j. (λ a. a.1, λ p. (below j p, p))) h

-- ---- a front

pub record IsFront (xs ys : List ℕ) (n : ℕ) : Type 0 where
  pub shorter : length xs < length ys
  pub same : (k : ℕ) → k < length xs → get_or xs k 0 ≡ get_or ys k 0
  pub next : get_or ys (length xs) 0 ≡ n

front_cons : (x y : ℕ) (xs ys : List ℕ) (n : ℕ) → x ≡ y → IsFront xs ys n → IsFront (x ∷ xs) (y ∷ ys) n
front_cons x y xs ys n e f = record {
  shorter = let l = f.shorter in omega arith;
  same = λ k h. front_same k h;
  next = f.next;
}
  where
    front_same : (k : ℕ) → k < suc (length xs) → get_or (x ∷ xs) k 0 ≡ get_or (y ∷ ys) k 0
    front_same zero h = e
    front_same (suc k) h = f.same k (omega arith)

-- the elements below n are in front, and n follows
pub front_below : (xs ys : List ℕ) (n : ℕ) → IsAscending xs → IsAscending ys → ((j : ℕ) → Contains xs j ↔ ((j < n) × Contains ys j)) → Contains ys n → IsFront xs ys n
front_below xs [] n ux uy same has = absurd (Contains-nil n has)
front_below [] (y ∷ ys) n ux uy same has = record {
  shorter = omega arith;
  same = λ k h. absurd (omega arith);
  next =
      let l = least y ys n uy has in
      ⊎_elim
      (λ (lt : y < n). absurd (Contains-nil y ((same y).1 (lt, Contains-head y ys))))
      (λ (le : n ≤ y). let r : y ≡ n = omega arith in r)
      (cases_lt y n);
}
front_below (x ∷ xs) (y ∷ ys) n ux uy same has =
    let a = (same x).0 (Contains-head x xs) in
    let ly = least y ys x uy a.1 in let lx = a.0 in
    let b = (same y).1 (omega arith, Contains-head y ys) in
    let lb = least x xs y ux b in
    let e : x ≡ y = omega arith in
    front_cons x y xs ys n e (front_below xs ys n (asc_tail x xs ux) (asc_tail y ys uy) (λ j. (
      λ h. let r = (same j).0 (Contains-later x xs j h) in (r.0, in_tail y ys j r.1 (let l = asc_head x xs j ux h in omega arith)),
      λ h. in_tail x xs j ((same j).1 (h.0, Contains-later y ys j h.1)) (let l = asc_head y ys j uy h.1 in omega arith),
    )) (in_tail y ys n has (omega arith)))

-- ---- sums

-- a front and the element behind it have no greater sum
pub sums_front : {X : Type 0} (f : X → ℕ) (xs ys : List X) (d : X) → length xs < length ys → ((k : ℕ) → k < length xs → f (get_or xs k d) ≡ f (get_or ys k d)) → sum_by f xs + f (get_or ys (length xs) d) ≤ sum_by f ys
sums_front f xs [] d h same = absurd (omega arith)
sums_front f [] (y ∷ ys) d h same = let e = sum_by-cons f y ys in omega arith
sums_front f (x ∷ xs) (y ∷ ys) d h same =
    let i = sums_front f xs ys d (omega arith) (λ k l. same (suc k) (omega arith)) in
    let e = same 0 (omega arith) in
    let a = sum_by-cons f x xs in let b = sum_by-cons f y ys in
    omega arith
