-- A number below 1,000 is read from its decimal.
use Rattle.std.proofs.Common.{◌≡◌, ◌<◌, ◌≤◌, ◌+◌, ◌*◌, ◌/◌, ◌%◌, ℕ, true, false, cond, [], ◌∷◌, ◌++◌, Some, None, ap, ◌∙◌, arith, ⊎_elim}
use Rattle.std.specs.Prelude.{◌==◌, ◌-◌, ◌&&◌, nat_le, nat_lt, decimal}
use Rattle.std.specs.Option.{option_and_then, option_map}
use Rattle.std.proofs.lemmas.Bool.{cases_lt}
use Rattle.std.proofs.lemmas.Bool.Decides.{nat_tests}
use Rattle.std.proofs.lemmas.Fmt.{decimal_digit, decimal_step}
use Rattle.su_explained.specs.Numbers.{digit_of, with_digit, number_in}
use Rattle.su_explained.specs.Checks.{some_is, is_decimal, is_decimal_below}

digit_at : (d : ℕ) → d < 10 → digit_of (48 + d) ≡ Some d
digit_at d h =
    let is : (nat_le 48 (48 + d) && nat_le (48 + d) 57) ≡ true = grind (arith, nat_tests, h) in
    let value : (48 + d) - 48 ≡ d = omega arith in
    ap (λ b. cond b (Some ((48 + d) - 48)) None) is ∙ ap Some value

with_at : (front d : ℕ) → 0 < front → d < 10 → with_digit (48 + d) front ≡ Some (front * 10 + d)
with_at front d some h =
    let more : (front == 0) ≡ false = grind (arith, nat_tests, some) in
    ap (λ b. cond b None (option_map (λ e. front * 10 + e) (digit_of (48 + d)))) more ∙ ap (option_map (λ e. front * 10 + e)) (digit_at d h)

two_at : (a b : ℕ) → 0 < a → a < 10 → b < 10 → option_and_then (with_digit (48 + b)) (digit_of (48 + a)) ≡ Some (a * 10 + b)
two_at a b some l m = ap (option_and_then (with_digit (48 + b))) (digit_at a l) ∙ with_at a b some m

three_at : (a b c : ℕ) → 0 < a → a < 10 → b < 10 → c < 10 → number_in ((48 + a) ∷ (48 + b) ∷ (48 + c) ∷ []) ≡ Some ((a * 10 + b) * 10 + c)
three_at a b c some l m n = ap (option_and_then (with_digit (48 + c))) (two_at a b some l m) ∙ with_at (a * 10 + b) c (omega arith) n

decimal_two : (n : ℕ) → 10 ≤ n → n < 100 → decimal n ≡ (48 + n / 10) ∷ (48 + n % 10) ∷ []
decimal_two n low high = decimal_step n low (omega arith) ∙ ap (λ ds. ds ++ (48 + n % 10) ∷ []) (decimal_digit (n / 10) (omega arith))

decimal_three : (n : ℕ) → 100 ≤ n → n < 1000 → decimal n ≡ (48 + n / 10 / 10) ∷ (48 + n / 10 % 10) ∷ (48 + n % 10) ∷ []
decimal_three n low high = decimal_step n (omega arith) (omega arith) ∙ ap (λ ds. ds ++ (48 + n % 10) ∷ []) (decimal_two (n / 10) (omega arith) (omega arith))

above_nine : (n : ℕ) → 10 ≤ n → n < 1000 → number_in (decimal n) ≡ Some n
above_nine n low high = ⊎_elim
    (λ small.
    let parts : n / 10 * 10 + n % 10 ≡ n = omega arith in
    ap number_in (decimal_two n low small) ∙ two_at (n / 10) (n % 10) (omega arith) (omega arith) (omega arith) ∙ ap Some parts)
    (λ large.
    let parts : (n / 10 / 10 * 10 + n / 10 % 10) * 10 + n % 10 ≡ n = omega arith in
    ap number_in (decimal_three n large high) ∙ three_at (n / 10 / 10) (n / 10 % 10) (n % 10) (omega arith) (omega arith) (omega arith) (omega arith) ∙ ap Some parts)
    (cases_lt n 100)

pub number_in-decimal : (n : ℕ) → n < 1000 → number_in (decimal n) ≡ Some n
number_in-decimal n high = ⊎_elim (λ small. ap number_in (decimal_digit n small) ∙ digit_at n small) (λ large. above_nine n large high) (cases_lt n 10)

pub is_decimal-decimal : (n : ℕ) → n < 1000 → is_decimal n (decimal n) ≡ true
unfolding is_decimal
is_decimal-decimal n h =
    let same : (n == n) ≡ true = grind (arith, nat_tests) in
    ap (some_is (λ m. m == n)) (number_in-decimal n h) ∙ same

pub below-decimal : (end n : ℕ) → n < end → n < 1000 → is_decimal_below end (decimal n) ≡ true
unfolding is_decimal_below
below-decimal end n l h =
    let less : nat_lt n end ≡ true = grind (arith, nat_tests, l) in
    ap (some_is (λ m. nat_lt m end)) (number_in-decimal n h) ∙ less
