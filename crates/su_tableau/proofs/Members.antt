-- A set of numbers is a number: with bit i set or cleared it has or lacks i alone, and the bits of a conjunction are those of both.
use Rattle.std.proofs.Common.{◌≡◌, ◌≢◌, ℕ, ◌*◌, ◌%◌, ◌<◌, ◌≤◌, ◌^◌, ◌↔◌, ⊎_elim, bit_and, bit_or, arith}
use Rattle.std.specs.Int.{bit_at, bit_not, w64}
use Rattle.std.proofs.lemmas.Nat.Bits.{bit_at-lt, bit_at_and, bit_at_set_same, bit_at_set_other, bit_at_clear_same, bit_at_clear_other, bit_at_above}
use Rattle.std.proofs.lemmas.Bool.{cases_lt}

pub and_both : (a b j : ℕ) → (bit_at (bit_and a b) j ≡ 1) ↔ ((bit_at a j ≡ 1) × (bit_at b j ≡ 1))
and_both a b j =
    let e = bit_at_and a b j in let la = bit_at-lt a j in let lb = bit_at-lt b j in
    (λ h. (omega arith, omega arith), λ h. let x = h.0 in let y = h.1 in omega arith)

pub with_same : (n k j : ℕ) → k < 64 → j ≢ k → bit_at (bit_or n (1 * 2 ^ k % 2 ^ 64)) j ≡ bit_at n j
with_same n k j h ne = bit_at_set_other w64 n k h j ne

pub with_member : (n k : ℕ) → k < 64 → bit_at (bit_or n (1 * 2 ^ k % 2 ^ 64)) k ≡ 1
with_member n k h = bit_at_set_same w64 n k h

pub without_out : (n k : ℕ) → k < 64 → bit_at (bit_and n (bit_not w64 (1 * 2 ^ k % 2 ^ 64))) k ≡ 0
without_out n k h = bit_at_clear_same w64 n k h

pub without_same : (n k j : ℕ) → n < 2 ^ 64 → k < 64 → j ≢ k → bit_at (bit_and n (bit_not w64 (1 * 2 ^ k % 2 ^ 64))) j ≡ bit_at n j
without_same n k j small h ne =
    ⊎_elim
    (λ (lt : j < 64). bit_at_clear_other w64 n k h j lt ne)
    (λ (le : 64 ≤ j).
    let none = bit_at_above n 64 j small le in
    let e = bit_at_and n (bit_not w64 (1 * 2 ^ k % 2 ^ 64)) j in
    let r : bit_at (bit_and n (bit_not w64 (1 * 2 ^ k % 2 ^ 64))) j ≡ bit_at n j = omega arith in r)
    (cases_lt j 64)

-- the members of a number below a power of two
pub member_below : (m n i : ℕ) → m < 2 ^ n → bit_at m i ≡ 1 → i < n
member_below m n i small one =
    ⊎_elim
    (λ (lt : i < n). lt)
    (λ (le : n ≤ i). absurd (let z = bit_at_above m n i small le in omega arith))
    (cases_lt i n)
