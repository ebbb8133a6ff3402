-- Combinations of items, the first slowest: how many there are, and which one stands where.
use Rattle.std.proofs.Common.{◌≡◌, ℕ, zero, suc, ◌+◌, ◌*◌, ◌/◌, ◌%◌, ◌<◌, ◌≤◌, ◌⊎◌, inl, inr, ⊎_elim, min, List, [], ◌∷◌, ◌++◌, map, length, get_or, sym, ap, subst, ◌∙◌, arith}
use Rattle.std.specs.List.{flat_map}
use Rattle.std.proofs.lemmas.Bool.{cases_lt}
use Rattle.std.proofs.lemmas.Nat.{div-add-mod'}
use Rattle.std.proofs.lemmas.List.{get_or_append_left, get_or-append-add, length-append, length-map, get_or-map}
use Rattle.std.proofs.Math.Nat.{eq-zero-or-pos, mul-zero, zero-mul, mul_comm, mul-div_cancel_left, div-lt_iff_lt-mul, mod-lt, le-mul_of_pos_right}

-- ---- pairs

module _ {X Y Z : Type 0} (join : X → Y → Z) where
  -- each of these with each of those
  abbrev pub pairs : List X → List Y → List Z
  pairs xs ys = flat_map (λ x. map (join x) ys) xs

  pub length-pairs : (xs : List X) (ys : List Y) → length (pairs xs ys) ≡ length xs * length ys
  length-pairs [] ys = grind arith
  length-pairs (x ∷ xs) ys = grind (arith, length-append, length-map, length-pairs xs ys)

  pub get_or-pairs : (xs : List X) (ys : List Y) (i k : ℕ) (d : X) (e : Y) (f : Z) → i < length xs → k < length ys → get_or (pairs xs ys) (i * length ys + k) f ≡ join (get_or xs i d) (get_or ys k e)
  get_or-pairs [] ys i k d e f h l = absurd (omega arith)
  get_or-pairs (x ∷ xs) ys zero k d e f h l =
      let first : zero * length ys + k ≡ k = grind arith in
      ap (λ j. get_or (map (join x) ys ++ pairs xs ys) j f) first
      ∙ get_or_append_left (map (join x) ys) (pairs xs ys) f k (let same = length-map ys (join x) in omega arith) ∙ get_or-map (join x) ys k e f l
  get_or-pairs (x ∷ xs) ys (suc i) k d e f h l =
      let same : length (map (join x) ys) ≡ length ys = length-map ys (join x) in
      let later : suc i * length ys + k ≡ length (map (join x) ys) + (i * length ys + k) = grind (arith, same) in
      ap (λ j. get_or (map (join x) ys ++ pairs xs ys) j f) later ∙ get_or-append-add (map (join x) ys) (pairs xs ys) (i * length ys + k) f ∙ get_or-pairs xs ys i k d e f (omega arith) l

-- ---- the place of a combination

-- of n times m combinations the one at place left has the item left / m, and the rest of it stands at left % m
pub record Split (n m total left : ℕ) : Type 0 where
  pub some : 0 < n
  pub others : 0 < m
  pub behind : total / n ≡ m
  pub own : n ≤ total
  pub fewer : m ≤ total
  pub place : left / m < n
  pub below : left % m < m
  pub whole : left / m * m + left % m ≡ left

pub split : (n m total left : ℕ) → total ≡ n * m → left < total → Split n m total left
split n zero total left e h = absurd (omega (arith, e ∙ mul-zero n))
split zero (suc m) total left e h = absurd (omega (arith, e ∙ zero-mul (suc m)))
split (suc n) (suc m) total left e h = record {
  some = omega arith;
  others = omega arith;
  behind = ap (λ k. k / suc n) e ∙ mul-div_cancel_left (suc m) (omega arith);
  own = subst (λ (k : ℕ). suc n ≤ k) (sym e) (le-mul_of_pos_right {m = suc m} (suc n) (omega arith));
  fewer = subst (λ (k : ℕ). suc m ≤ k) (mul_comm (suc m) (suc n) ∙ sym e) (le-mul_of_pos_right {m = suc n} (suc m) (omega arith));
  place = (div-lt_iff_lt-mul {k = suc m} (omega arith)).1 (subst (λ (k : ℕ). left < k) e h);
  below = mod-lt left (omega arith);
  whole = div-add-mod' left (suc m);
}

-- ---- counts that stop

module _ (limit : ℕ) where
  pub same_or_many : (a m : ℕ) → a ≡ min m limit → (a ≡ m) ⊎ ((a ≡ limit) × (limit ≤ m))
  same_or_many a m e = elim (cases_lt m limit) [
    | inl less ↦ inl (omega arith)
    | inr more ↦ inr (omega arith, more)
  ]

  many_times : (m n : ℕ) → limit ≤ m → 0 < n → limit ≤ m * n
  many_times m n h k = omega (arith, le-mul_of_pos_right {m = n} m k)

  -- a count that stops at the limit multiplies as the count does
  pub min-mul : (a m n : ℕ) → a ≡ min m limit → min limit (a * n) ≡ min (m * n) limit
  min-mul a m n e =
      ⊎_elim
      (λ (s : a ≡ m). subst (λ k. min limit (k * n) ≡ min (m * n) limit) (sym s) (let x : ℕ = m * n in omega arith))
      (λ (b : (a ≡ limit) × (limit ≤ m)).
      ⊎_elim
      (λ (z : n ≡ 0). let x : a * n ≡ 0 = ap (λ k. a * k) z ∙ mul-zero a in let y : m * n ≡ 0 = ap (λ k. m * k) z ∙ mul-zero m in omega arith)
      (λ (p : 0 < n). let x : limit ≤ m * n = many_times m n b.1 p in let y : limit ≤ a * n = many_times a n (omega (arith, b.0)) p in omega arith)
      (eq-zero-or-pos n))
      (same_or_many a m e)

  -- also where both counts stop
  pub min-mul_both : (a b m n : ℕ) → a ≡ min m limit → b ≡ min n limit → min limit (a * b) ≡ min (m * n) limit
  min-mul_both a b m n e f =
      let first : min limit (a * b) ≡ min (m * b) limit = min-mul a m b e in
      let second : min limit (b * m) ≡ min (n * m) limit = min-mul b n m f in
      let turned : m * b ≡ b * m = mul_comm m b in
      let back : n * m ≡ m * n = mul_comm n m in
      let ab : ℕ = a * b in
      first ∙ ap (λ k. min k limit) turned ∙ (let x : ℕ = b * m in let swap : min x limit ≡ min limit x = omega arith in swap) ∙ second ∙ ap (λ k. min k limit) back
