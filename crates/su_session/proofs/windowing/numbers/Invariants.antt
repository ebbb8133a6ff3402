use Rattle.std.proofs.Common.{◌≡◌, ◌<◌, take, drop, All}
use Rattle.su_schema.specs.Entries.{attribute_names}
use Rattle.su_query.specs.Scopes.{first_unknown_name}
use Rattle.su_window.specs.Cuts.{width}
use Rattle.su_session.specs.Windows.{attribute_numbers}
use Rattle.su_session.proofs.windowing.numbers.Given as goal

abbrev pub invariant-loop-name : goal.invariant-loop-name
invariant-loop-name l = record {
  numbers : l.numbers ≡ attribute_numbers l.schema (take l.name-index l.names);
  below : All (λ a. a < width l.schema) l.numbers;
  known : first_unknown_name (attribute_names l.schema) (drop l.name-index l.names) ≡ first_unknown_name (attribute_names l.schema) l.names;
}
