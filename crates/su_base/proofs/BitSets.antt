-- Sets kept in the bits of a number: what the machine's operations on the number do to the set.
use Rattle.std.specs.Prelude.{◌≡◌, ℕ, ◌*◌, ◌/◌, ◌^◌, ◌<◌, ◌%◌, true, ◌&&◌, nat_eq, nat_lt, bit_and, bit_or}
use Rattle.std.specs.Int.{bit_not, Width, w64, w128}
use mir.Val.{bits}
use Rattle.std.specs.Ordering.{nat_cmp}
use Rattle.std.specs.FinSet.{FinSet, contains, empty, insert, union, intersection, difference, is_subset, is_subset-contains, contains-is_subset, members, same_set, nat_cmp-IsAntisymmetric}
use Rattle.std.specs.Cmp.{nat_cmp_total}
use Rattle.std.proofs.Common.{◌∙◌, sym, ap, arith}
use Rattle.std.proofs.lemmas.Nat.{pow_pos, or_lt}
use Rattle.std.proofs.lemmas.Nat.Bits.{shr_and_one, bit_at-lt, bit_at-zero, bit_at_and, bit_at_or, bit_at_not, bit_at_set_same, bit_at_set_other}
use Rattle.std.proofs.lemmas.Bool.Decides.{nat_tests}
use Rattle.su_base.specs.BitSet.{set_of_bits, bits_of_set, contains-set_of_bits, bits_of_set-set_of_bits}

pub set_of_bits-zero : (w : ℕ) → set_of_bits w 0 ≡ empty
set_of_bits-zero w = same_set nat_cmp_total nat_cmp-IsAntisymmetric _ _ (λ q. grind (arith, nat_tests, members, contains-set_of_bits, bit_at-zero))

pub set_of_bits-or : (w m n : ℕ) → set_of_bits w (bit_or m n) ≡ union (set_of_bits w m) (set_of_bits w n)
set_of_bits-or w m n =
    same_set nat_cmp_total nat_cmp-IsAntisymmetric _ _
    (λ q. grind (arith, nat_tests, members, contains-set_of_bits, bit_at_or m n q, bit_at-lt m q, bit_at-lt n q))

pub set_of_bits-and : (w m n : ℕ) → set_of_bits w (bit_and m n) ≡ intersection (set_of_bits w m) (set_of_bits w n)
set_of_bits-and w m n =
    same_set nat_cmp_total nat_cmp-IsAntisymmetric _ _
    (λ q. grind (arith, nat_tests, members, contains-set_of_bits, bit_at_and m n q, bit_at-lt m q, bit_at-lt n q))

pub set_of_bits-and_not : (w : Width) (m n : ℕ) → n < 2 ^ bits w → set_of_bits (bits w) (bit_and m (bit_not w n)) ≡ difference (set_of_bits (bits w) m) (set_of_bits (bits w) n)
set_of_bits-and_not w m n h =
    same_set nat_cmp_total nat_cmp-IsAntisymmetric _ _
    (λ q. grind (arith, nat_tests, members, contains-set_of_bits, bit_at_and m (bit_not w n) q, bit_at_not w n q h, bit_at-lt m q, bit_at-lt n q))

pub set_of_bits-or_one : (w : Width) (n k : ℕ) → k < bits w → set_of_bits (bits w) (bit_or n (1 * 2 ^ k % 2 ^ bits w)) ≡ insert (set_of_bits (bits w) n) k
set_of_bits-or_one w n k h =
    same_set nat_cmp_total nat_cmp-IsAntisymmetric _ _
    (λ q. grind (arith, nat_tests, members, contains-set_of_bits, bit_at_set_same w n k h, bit_at_set_other w n k h q))

-- the laws at 128 bits, for the functions of `AttrSet`
pub attr_minus : (m n : ℕ) → n < 2 ^ 128 → set_of_bits 128 (bit_and m (bit_not w128 n)) ≡ difference (set_of_bits 128 m) (set_of_bits 128 n)
attr_minus = set_of_bits-and_not w128

pub attr_insert : (n k : ℕ) → k < 128 → set_of_bits 128 (bit_or n (1 * 2 ^ k % 2 ^ 128)) ≡ insert (set_of_bits 128 n) k
attr_insert = set_of_bits-or_one w128

pub attr_fits_or : (m n : ℕ) → m < 2 ^ 128 → n < 2 ^ 128 → bit_or m n < 2 ^ 128
attr_fits_or = or_lt 128

pub attr_fits_insert : (n k : ℕ) → n < 2 ^ 128 → bit_or n (1 * 2 ^ k % 2 ^ 128) < 2 ^ 128
attr_fits_insert n k h = let one : 1 * 2 ^ k % 2 ^ 128 < 2 ^ 128 = omega arith in or_lt 128 n _ h one

-- the test `(n >> q) & 1 == 1`
pub attr_contains : (n q : ℕ) → contains (set_of_bits 128 n) q ≡ (nat_lt q 128 && nat_eq (bit_and (n / 2 ^ q) 1) 1)
attr_contains n q = contains-set_of_bits 128 n q ∙ ap (λ b. nat_lt q 128 && nat_eq b 1) (sym (shr_and_one n q))

-- the laws at 64 bits, for the functions of `ObjSet`
pub obj_minus : (m n : ℕ) → n < 2 ^ 64 → set_of_bits 64 (bit_and m (bit_not w64 n)) ≡ difference (set_of_bits 64 m) (set_of_bits 64 n)
obj_minus = set_of_bits-and_not w64

pub obj_insert : (n k : ℕ) → k < 64 → set_of_bits 64 (bit_or n (1 * 2 ^ k % 2 ^ 64)) ≡ insert (set_of_bits 64 n) k
obj_insert = set_of_bits-or_one w64

pub obj_fits_or : (m n : ℕ) → m < 2 ^ 64 → n < 2 ^ 64 → bit_or m n < 2 ^ 64
obj_fits_or = or_lt 64

pub obj_fits_insert : (n k : ℕ) → n < 2 ^ 64 → bit_or n (1 * 2 ^ k % 2 ^ 64) < 2 ^ 64
obj_fits_insert n k h = let one : 1 * 2 ^ k % 2 ^ 64 < 2 ^ 64 = omega arith in or_lt 64 n _ h one

-- the test `(n >> q) & 1 == 1`
pub obj_contains : (n q : ℕ) → contains (set_of_bits 64 n) q ≡ (nat_lt q 64 && nat_eq (bit_and (n / 2 ^ q) 1) 1)
obj_contains n q = contains-set_of_bits 64 n q ∙ ap (λ b. nat_lt q 64 && nat_eq b 1) (sym (shr_and_one n q))

-- no bit is set exactly where the set is empty
pub set_of_bits-is_empty : (w n : ℕ) → n < 2 ^ w → (set_of_bits w n ≡ empty) → n ≡ 0
set_of_bits-is_empty w n h e =
    sym (bits_of_set-set_of_bits w n h) ∙ ap (bits_of_set w) (e ∙ sym (set_of_bits-zero w)) ∙ bits_of_set-set_of_bits w 0 (omega (arith, pow_pos w))

-- a set is within another exactly where nothing is left of it without the other
pub difference-empty : (s t : FinSet nat_cmp) → difference s t ≡ empty → is_subset s t ≡ true
difference-empty s t e =
    contains-is_subset nat_cmp_total s t (λ q one. let gone : contains (difference s t) q ≡ contains empty q = ap (λ r. contains r q) e in grind (arith, members, gone, one))

pub is_subset-difference : (s t : FinSet nat_cmp) → is_subset s t ≡ true → difference s t ≡ empty
is_subset-difference s t all =
    same_set nat_cmp_total nat_cmp-IsAntisymmetric _ _ (λ q. grind (arith, members, is_subset-contains nat_cmp_total s t all q))

pub ruleset bit_sets = (set_of_bits-zero, set_of_bits-or, set_of_bits-and, attr_minus, attr_insert, attr_fits_or, attr_fits_insert, attr_contains, obj_minus, obj_insert, obj_fits_or, obj_fits_insert, obj_contains, set_of_bits-is_empty, difference-empty, is_subset-difference)
