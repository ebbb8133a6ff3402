-- A numeral is ASCII and one that the library reads too, so a refusal of the library can only mean that the value is out of range.
use Rattle.std.proofs.Common.{ℕ, List, sym, subst}
use Rattle.std.specs.Int.{w64}
use Rattle.std.specs.Int.RustNames.{FitsSigned}
use Rattle.std.specs.Str.Parse.{signed_digits_value, without_leading_sign, IsNumeral as IsStdNumeral}
use Rattle.su_lex.proofs.Numerals.{numeral_std, numeral_ascii}
use Rattle.std.proofs.lemmas.Str.{IsUtf8-from_ascii}
use Rattle.su_faults.proofs.numbers.numeral_value.Goals as goal

pub returns-in-Err-parse : goal.returns-in-Err-parse
returns-in-Err-parse c = λ fits. c.in-Err-parse.ensures.value.0
    (subst (λ (x : List ℕ). IsStdNumeral 10 (without_leading_sign x) × FitsSigned w64 (signed_digits_value 10 x)) (sym c.in-Ok.ensures.cases.0) (numeral_std _ c.requires, fits))

pub returns-in-Err : goal.returns-in-Err
returns-in-Err c = λ _. c.in-Err.ensures.cases.0 (IsUtf8-from_ascii _ (numeral_ascii _ c.requires))
