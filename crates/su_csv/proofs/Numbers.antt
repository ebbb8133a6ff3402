-- The number of a field: what `parse` answers, and what a number is written as.
use Rattle.std.proofs.Common.{◌≡◌, ◌^◌, ◌&&◌, ◌==◌, ℕ, true, false, List, [], ◌∷◌, get_or, Some, None, Result, Ok, Err, refl, ap, inl, inr, rules, arith, ℤ, pos, negsuc, lit<, eqb-true, ne_eqb}
use Rattle.std.proofs.lemmas.Bool.{cases_Bool, both_ways, lt-ltb, ltb-true, and_parts}
use Rattle.std.specs.Result.{result_ok}
use Rattle.std.specs.Str.{IsUtf8, IsAscii, all_ascii_digits}
use Rattle.std.specs.Str.Parse.{AllDigits, IsNumeral, ParsesSigned, digits_value, digits_value_after, signed_digits_value, without_leading_sign}
use Rattle.std.specs.Fmt.{signed_decimal, decimal}
use Rattle.std.proofs.lemmas.Str.{IsUtf8-from_ascii}
use Rattle.std.proofs.lemmas.Str.Ascii.{IsAscii-cons}
use Rattle.std.proofs.lemmas.Str.Parse.{IsNumeralModel, numerals_by_fold, tells_all_ascii_digits, digit_from_value}
use Rattle.std.proofs.lemmas.Fmt.{IsAscii-from_digits, decimal_is_IsNumeral, parse-signed_decimal}
use mir.Syntax.{w64}
use mir.Val.{SFits}
use Rattle.su_csv.specs.Field.{digits_of, is_digits, in_range, field_number}

own : IsNumeralModel (λ ds. all_ascii_digits ds ≡ true) (digits_value 10)
own = numerals_by_fold _ tells_all_ascii_digits (digits_value_after 10) (search rules)

-- the test of a numeral
digits-numeral : (ds : List ℕ) → is_digits ds ≡ true → IsNumeral 10 ds
digits-numeral [] h = absurd (cc h)
digits-numeral (d ∷ ds) h = (omega arith, own.to (d ∷ ds) h)

numeral-digits : (ds : List ℕ) → IsNumeral 10 ds → is_digits ds ≡ true
numeral-digits [] h = absurd (omega (arith, h.0))
numeral-digits (d ∷ ds) h = own.from (d ∷ ds) h.1

-- the test of the range
pub range-fits : (z : ℤ) → in_range z ≡ true → SFits w64 z
range-fits (pos n) h = record { sfits = ltb-true n (2 ^ 63) h }
range-fits (negsuc n) h = record { sfits = ltb-true n (2 ^ 63) h }

fits-range : (z : ℤ) → SFits w64 z → in_range z ≡ true
fits-range (pos n) h = lt-ltb n (2 ^ 63) h.sfits
fits-range (negsuc n) h = lt-ltb n (2 ^ 63) h.sfits

-- a text with no '+' at its start
no-plus : (bs : List ℕ) → (get_or bs 0 0 == 43) ≡ false → without_leading_sign bs ≡ digits_of bs
no-plus bs plain = rw plain refl

module _ {E : Type 0} (bs : List ℕ) (plain : (get_or bs 0 0 == 43) ≡ false) where
  -- what `parse` answers is the number
  pub parsed : (r : Result ℤ E) → ParsesSigned w64 10 bs r → result_ok r ≡ field_number bs
  parsed (Ok x) h =
      let numeral : IsNumeral 10 (digits_of bs) = rw (no-plus bs plain) at h.0.0 in
      rw (numeral-digits (digits_of bs) numeral, fits-range (signed_digits_value 10 bs) h.0.1) (ap Some h.1)
  parsed (Err e) h = elim (cases_Bool (is_digits (digits_of bs) && in_range (signed_digits_value 10 bs))) [
    | inl test ↦
        let parts = and_parts _ _ test in
        absurd (h (rw (no-plus bs plain) (digits-numeral (digits_of bs) parts.0), range-fits (signed_digits_value 10 bs) parts.1))
    | inr test ↦ rw test refl
  ]

-- a field that is no UTF-8 writes no number
pub not-text : (bs : List ℕ) → (IsUtf8 bs → ⊥) → field_number bs ≡ None
not-text bs other = elim (cases_Bool (is_digits (digits_of bs) && in_range (signed_digits_value 10 bs))) [
  | inl test ↦ absurd (other (IsUtf8-from_ascii bs (ascii bs (digits-numeral (digits_of bs) (and_parts _ _ test).0).1)))
  | inr test ↦ rw test refl
]
  where
    ascii : (bs : List ℕ) → AllDigits 10 (digits_of bs) → IsAscii bs
    ascii [] h = λ i. lit< tt
    ascii (c ∷ cs) h = elim (cases_Bool (c == 45)) [
      | inl minus ↦
          let is : c ≡ 45 = eqb-true c 45 minus in
          IsAscii-cons c cs (omega arith) (IsAscii-from_digits cs (rw minus at h))
      | inr plain ↦ IsAscii-from_digits (c ∷ cs) (rw plain at h)
    ]

-- what a number is written as, writes it
pub written : (z : ℤ) → SFits w64 z → field_number (signed_decimal z) ≡ Some z
written z fits = elim (cases_Bool (is_digits (digits_of (signed_decimal z)) && in_range (signed_digits_value 10 (signed_decimal z)))) [
  | inl test ↦
      let parts = and_parts _ _ test in
      let back : ◌≡◌ {A = Result ℤ (Unit {0})} (Ok (signed_digits_value 10 (signed_decimal z))) (Ok z) =
      parse-signed_decimal w64 z (signed_decimal z) (Ok (signed_digits_value 10 (signed_decimal z))) fits fits.sfits refl
      ((rw (no-plus (signed_decimal z) (no-plus-written z fits)) (digits-numeral (digits_of (signed_decimal z)) parts.0), range-fits (signed_digits_value 10 (signed_decimal z)) parts.1), refl) in
      rw test (ap Some (cc back))
  | inr test ↦
      let back : ◌≡◌ {A = Result ℤ (Unit {0})} (Err tt) (Ok z) =
      parse-signed_decimal w64 z (signed_decimal z) (Err tt) fits fits.sfits refl
      (λ h. both_ways _ test (rw (numeral-digits (digits_of (signed_decimal z)) (rw (no-plus (signed_decimal z) (no-plus-written z fits)) at h.0), fits-range (signed_digits_value 10 (signed_decimal z)) h.1) refl)) in
      absurd (cc back)
]
  where
    no-plus-digits : (ds : List ℕ) → IsNumeral 10 ds → (get_or ds 0 0 == 43) ≡ false
    no-plus-digits [] h = absurd (omega (arith, h.0))
    no-plus-digits (d ∷ ds) h = let range = digit_from_value d h.1.0 in ne_eqb d 43 (λ e. absurd (omega (arith, range)))

    no-plus-written : (z : ℤ) → SFits w64 z → (get_or (signed_decimal z) 0 0 == 43) ≡ false
    no-plus-written (pos n) fits = no-plus-digits (decimal n) (decimal_is_IsNumeral n (omega (arith, fits.sfits))).0
    no-plus-written (negsuc n) fits = refl
