-- How many members a set has.
use Rattle.std.proofs.Common.{◌≡◌, ◌≢◌, ℕ, zero, suc, ◌+◌, ◌*◌, ◌/◌, ◌%◌, ◌^◌, ◌<◌, ◌≤◌, List, length, refl, sym, ap, subst, ◌∙◌, ⊎_elim, arith, count_ones}
use lib.Count.{ones}
use Rattle.std.specs.Int.{bit_at}
use Rattle.std.proofs.lemmas.Bool.{cases_eq, cases_lt}
use Rattle.std.proofs.lemmas.Nat.{ones_cat, mod-pow-add, pow_pos}
use Rattle.std.proofs.Math.Nat.{mod-one, mod-lt}
use Rattle.std.proofs.lemmas.Nat.Bits.{bit_at-lt, bit_at_above, bit_at_cat_low, same_from_bits}
use Rattle.su_base.specs.Lists.{AreExactly}
use Rattle.su_base.proofs.AscendingNumbers.{exactly_none, exactly_more, exactly_skip, exactly_all, exactly_one}
use Rattle.su_map.specs.Lists.{numbers_of}
use Rattle.su_map.proofs.Ranks.{numbers-more, numbers-none, numbers_step}

-- the members below n, ascending
pub numbers_exactly : (m n : ℕ) → AreExactly (λ j. (j < n) × (bit_at m j ≡ 1)) (numbers_of m n)
numbers_exactly m zero = exactly_none (λ j. bit_at m j ≡ 1)
numbers_exactly m (suc n) =
    let before = numbers_exactly m n in
    let e : n + 1 ≡ suc n = omega arith in
    subst (λ k. AreExactly (λ j. (j < k) × (bit_at m j ≡ 1)) (numbers_of m (suc n))) e
    (⊎_elim
    (λ (one : bit_at m n ≡ 1). subst (AreExactly (λ j. (j < n + 1) × (bit_at m j ≡ 1))) (sym (numbers-more m n one)) (exactly_more (λ j. bit_at m j ≡ 1) n (numbers_of m n) one before))
    (λ (none : bit_at m n ≢ 1). subst (AreExactly (λ j. (j < n + 1) × (bit_at m j ≡ 1))) (sym (numbers-none m n none)) (exactly_skip (λ j. bit_at m j ≡ 1) n (numbers_of m n) none before))
    (cases_eq (bit_at m n) 1))

ones_bit : (b : ℕ) → b < 2 → count_ones b ≡ b
unfolding ones
ones_bit zero h = refl
ones_bit (suc b) h = let e : b ≡ 0 = omega arith in subst (λ b. count_ones (suc b) ≡ suc b) (sym e) refl

-- the low n bits have as many ones as there are members below n
ones_numbers : (m n : ℕ) → count_ones (m % 2 ^ n) ≡ length (numbers_of m n)
unfolding ones
ones_numbers m zero = ap count_ones (mod-one m)
ones_numbers m (suc n) =
    let i = ones_numbers m n in
    let split : m % 2 ^ (1 + n) ≡ bit_at m n * 2 ^ n + m % 2 ^ n = mod-pow-add m 1 n in
    let e : 1 + n ≡ suc n = omega arith in
    let low : m % 2 ^ n < 2 ^ n = mod-lt m (pow_pos n) in
    let cat = ones_cat n (bit_at m n) (m % 2 ^ n) low in
    let b = ones_bit (bit_at m n) (bit_at-lt m n) in
    let s = numbers_step m n in
    let here : count_ones (m % 2 ^ suc n) ≡ count_ones (bit_at m n) + count_ones (m % 2 ^ n) = ap (λ k. count_ones (m % 2 ^ k)) (sym e) ∙ ap count_ones split ∙ cat in
    omega arith

-- a set of numbers below 64 is its low 64 bits
small_set : (m : ℕ) → ((i : ℕ) → bit_at m i ≡ 1 → i < 64) → m % 2 ^ 64 ≡ m
small_set m small =
    let low : m % 2 ^ 64 < 2 ^ 64 = mod-lt m (pow_pos 64) in
    let whole : m / 2 ^ 64 * 2 ^ 64 + m % 2 ^ 64 ≡ m = omega arith in
    same_from_bits (m % 2 ^ 64) m (λ i.
    ⊎_elim
    (λ (lt : i < 64). sym (ap (λ k. bit_at k i) (sym whole) ∙ bit_at_cat_low (m / 2 ^ 64) 64 (m % 2 ^ 64) i lt))
    (λ (le : 64 ≤ i).
    let a = bit_at_above (m % 2 ^ 64) 64 i low le in
    let l = bit_at-lt m i in
    ⊎_elim
    (λ (one : bit_at m i ≡ 1). absurd (let s = small i one in omega arith))
    (λ (none : bit_at m i ≢ 1). let r : bit_at (m % 2 ^ 64) i ≡ bit_at m i = omega arith in r)
    (cases_eq (bit_at m i) 1))
    (cases_lt i 64))

-- the members of a set of numbers below 64 are as many as its ones
pub count_set : (m : ℕ) (xs : List ℕ) → ((i : ℕ) → bit_at m i ≡ 1 → i < 64) → AreExactly (λ j. bit_at m j ≡ 1) xs → count_ones m ≡ length xs
count_set m xs small h =
    let all = exactly_all (λ j. bit_at m j ≡ 1) 64 (numbers_of m 64) small (numbers_exactly m 64) in
    let one = exactly_one (λ j. bit_at m j ≡ 1) (numbers_of m 64) xs all h in
    ap count_ones (sym (small_set m small)) ∙ ones_numbers m 64 ∙ ap length one

pub all_members : (m : ℕ) → ((i : ℕ) → bit_at m i ≡ 1 → i < 64) → AreExactly (λ j. bit_at m j ≡ 1) (numbers_of m 64)
all_members m small = exactly_all (λ j. bit_at m j ≡ 1) 64 (numbers_of m 64) small (numbers_exactly m 64)
