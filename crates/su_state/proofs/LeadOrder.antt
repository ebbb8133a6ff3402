-- The lead of a value never falls as the values rise.
use Rattle.std.proofs.Common.{◌≡◌, ◌<◌, ◌≤◌, ◌+◌, ◌*◌, ◌^◌, ℕ, zero, suc, ℤ, pos, negsuc, List, [], ◌∷◌, ap, refl, sym, ◌∙◌, arith, All, slice_index}
use Rattle.std.specs.Cmp.Lexicographic.{slice_cmp}
use Rattle.std.specs.Ordering.{nat_cmp, int_cmp, ordering_then, ordering_reverse}
use Rattle.std.specs.declared.cmp.Ordering.{Ordering}
use Rattle.std.specs.declared.cmp.Ordering.TheVariants.{Less, Equal, Greater}
use Rattle.std.proofs.lemmas.Bool.Decides.{nat_tests}
use Rattle.std.proofs.lemmas.Cmp.{ranked}
use Rattle.std.proofs.Math.Nat.{pow-suc, suc-mul, mul-le-mul_right, one-le-pow}
use Rattle.std.proofs.lemmas.List.Elements.{All-head, All-tail}
use Rattle.su_base.specs.declared.values.Value.{Value}
use Rattle.su_base.specs.declared.values.Value.TheVariants.{Int, Text}
use Rattle.su_base.specs.Value.{compare_values}
use Rattle.su_base.proofs.Rows.{values_total, equal_values}
use Rattle.su_state.specs.inside.Leads.{sort_lead_of_number, sort_lead_of_bytes, IsSortLead, IsRowLead}

-- the seven bytes written out
pub sort_lead_of_bytes-seven : (s : List ℕ) → sort_lead_of_bytes 7 s ≡ (((slice_index s 0 * 256 + slice_index s 1) * 256 + slice_index s 2) * 16777216 + ((slice_index s 3 * 256 + slice_index s 4) * 256 + slice_index s 5)) * 256 + slice_index s 6
sort_lead_of_bytes-seven [] = refl
sort_lead_of_bytes-seven (a ∷ []) = omega arith
sort_lead_of_bytes-seven (a ∷ b ∷ []) = omega arith
sort_lead_of_bytes-seven (a ∷ b ∷ c ∷ []) = omega arith
sort_lead_of_bytes-seven (a ∷ b ∷ c ∷ d ∷ []) = omega arith
sort_lead_of_bytes-seven (a ∷ b ∷ c ∷ d ∷ e ∷ []) = omega arith
sort_lead_of_bytes-seven (a ∷ b ∷ c ∷ d ∷ e ∷ f ∷ []) = omega arith
sort_lead_of_bytes-seven (a ∷ b ∷ c ∷ d ∷ e ∷ f ∷ g ∷ s) = omega arith

bytes_less : (k : ℕ) (s : List ℕ) → All (λ b. b < 256) s → sort_lead_of_bytes k s < 256 ^ k
bytes_less zero s all = omega arith
bytes_less (suc k) [] all = one-le-pow (suc k) 256 (omega arith)
bytes_less (suc k) (b ∷ s) all =
    let h : b < 256 = All-head (λ x. x < 256) b s all in
    let t : sort_lead_of_bytes k s < 256 ^ k = bytes_less k s (All-tail (λ x. x < 256) b s all) in
    let p : 256 ^ suc k ≡ 256 ^ k * 256 = pow-suc 256 k in
    let q : b * 256 ^ k ≤ 255 * 256 ^ k = mul-le-mul_right (256 ^ k) (omega arith) in
    omega (arith, h, t, p, q)

bytes_rise : (k : ℕ) (s t : List ℕ) → All (λ b. b < 256) s → All (λ b. b < 256) t → slice_cmp nat_cmp s t ≡ Less → sort_lead_of_bytes k s ≤ sort_lead_of_bytes k t
bytes_rise zero s t a b e = omega arith
bytes_rise (suc k) [] t a b e = omega arith
bytes_rise (suc k) (x ∷ s) [] a b e = absurd (cc)
bytes_rise (suc k) (x ∷ s) (y ∷ t) a b e =
    elim (nat_cmp x y) as (λ o. nat_cmp x y ≡ o → ordering_then o (slice_cmp nat_cmp s t) ≡ Less → x * 256 ^ k + sort_lead_of_bytes k s ≤ y * 256 ^ k + sort_lead_of_bytes k t) [
      | Less ↦ λ o f.
          let less : x < y = ranked x y Less (sym o) in
          let q : suc x * 256 ^ k ≤ y * 256 ^ k = mul-le-mul_right (256 ^ k) less in
          omega (arith, q, suc-mul x (256 ^ k), bytes_less k s (All-tail (λ b. b < 256) x s a))
      | Equal ↦ λ o f.
          let same : x * 256 ^ k ≡ y * 256 ^ k = ap (λ z. z * 256 ^ k) (ranked x y Equal (sym o)) in
          omega (arith, same, bytes_rise k s t (All-tail (λ b. b < 256) x s a) (All-tail (λ b. b < 256) y t b) f)
      | Greater ↦ λ o f. absurd (cc)
    ] refl e

number_less : (z : ℤ) → sort_lead_of_number z < 2 ^ 63
number_less (pos n) = omega arith
number_less (negsuc n) = omega arith

number_rise : (y z : ℤ) → int_cmp y z ≡ Less → sort_lead_of_number y ≤ sort_lead_of_number z
number_rise (pos m) (pos n) e = grind (arith, nat_tests, e)
number_rise (pos m) (negsuc n) e = absurd (cc)
number_rise (negsuc m) (pos n) e = omega arith
number_rise (negsuc m) (negsuc n) e = grind (arith, nat_tests, e)

lead_rise : (m n : ℕ) (v w : Value) → IsSortLead m v → IsSortLead n w → compare_values v w ≡ Less → m ≤ n
lead_rise m n (Int y) (Int z) a b e = rw (a, b) (number_rise y z e)
lead_rise m n (Int y) (Text t) a b e = omega (arith, a, b.0, number_less y)
lead_rise m n (Text s) (Int z) a b e = absurd (cc)
lead_rise m n (Text s) (Text t) a b e = omega (arith, a.0, b.0, bytes_rise 7 s t a.1 b.1 e)

lead_same : (m n : ℕ) (v : Value) → IsSortLead m v → IsSortLead n v → m ≡ n
lead_same m n (Int z) a b = a ∙ sym b
lead_same m n (Text s) a b = a.0 ∙ sym b.0

-- comparing the leads first changes nothing
lead_first : (m n : ℕ) (v w : Value) (o : Ordering) → IsSortLead m v → IsSortLead n w → ordering_then (nat_cmp m n) (ordering_then (compare_values v w) o) ≡ ordering_then (compare_values v w) o
lead_first m n v w o a b =
    elim (compare_values v w) as (λ c. compare_values v w ≡ c → ordering_then (nat_cmp m n) (ordering_then c o) ≡ ordering_then c o) [
      | Less ↦ λ e. let le : m ≤ n = lead_rise m n v w a b e in grind (arith, nat_tests, le)
      | Equal ↦ λ e. let same : m ≡ n = lead_same m n v a (rw (equal_values v w e) b) in grind (arith, nat_tests, same)
      | Greater ↦ λ e. let ge : n ≤ m = lead_rise n m w v b a (values_total.antisymm w v ∙ ap ordering_reverse e) in grind (arith, nat_tests, ge)
    ] refl

-- nor does comparing the leads of rows
pub lead_of_row_first : (m n : ℕ) (a b : List Value) → IsRowLead m a → IsRowLead n b → ordering_then (nat_cmp m n) (slice_cmp compare_values a b) ≡ slice_cmp compare_values a b
lead_of_row_first m n [] [] e f = rw (e, f) refl
lead_of_row_first m n [] (w ∷ b) e f = let le : m ≤ n = omega (arith, e) in grind (arith, nat_tests, le)
lead_of_row_first m n (v ∷ a) [] e f = let ge : n ≤ m = omega (arith, f) in grind (arith, nat_tests, ge)
lead_of_row_first m n (v ∷ a) (w ∷ b) e f = lead_first m n v w (slice_cmp compare_values a b) e f
