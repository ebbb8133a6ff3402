use Rattle.std.proofs.Common.{◌≡◌, ◌<◌, ◌^◌, drop}
use Rattle.std.specs.Str.{all_ascii_digits}
use Rattle.std.specs.Str.Parse.{digits_value, digits_value_after}
use Rattle.su_csv.proofs.fields.digits_of.Given as goal

abbrev pub invariant-loop-digit : goal.invariant-loop-digit
invariant-loop-digit l = record {
  tested : all_ascii_digits l.digits ≡ all_ascii_digits (drop l.digit-index l.digits);
  small : l.value < 10 ^ l.digit-index;
  counted : digits_value 10 l.digits ≡ digits_value_after 10 l.value (drop l.digit-index l.digits);
}
