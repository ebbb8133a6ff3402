-- Which fields are texts.
use Rattle.std.proofs.Common.{◌≡◌, ◌<◌, ◌≤◌, ℕ, true, false, List, length, refl, inl, inr, arith, leb}
use Rattle.std.proofs.lemmas.Bool.{cases_Bool, le-leb, leb-true}
use Rattle.std.proofs.lemmas.Str.{IsUtf8-from_is_utf8, is_utf8-from_IsUtf8}
use Rattle.std.specs.Str.{IsUtf8, is_utf8}
use Rattle.su_csv.specs.Field.{is_text, text_limit}

pub is-text : (bs : List ℕ) → length bs ≤ text_limit → IsUtf8 bs → is_text bs ≡ true
is-text bs short utf8 = rw (le-leb (length bs) text_limit short, is_utf8-from_IsUtf8 bs utf8) refl

pub too-long : (bs : List ℕ) → text_limit < length bs → is_text bs ≡ false
too-long bs long = elim (cases_Bool (leb (length bs) text_limit)) [
  | inl test ↦ absurd (omega (arith, leb-true (length bs) text_limit test))
  | inr test ↦ rw test refl
]

pub not-utf8 : (bs : List ℕ) → length bs ≤ text_limit → (IsUtf8 bs → ⊥) → is_text bs ≡ false
not-utf8 bs short other = rw (le-leb (length bs) text_limit short) (elim (cases_Bool (is_utf8 bs)) [
  | inl test ↦ absurd (other (IsUtf8-from_is_utf8 bs test))
  | inr test ↦ test
])
