use Rattle.std.proofs.Common.{◌≡◌, ◌≤◌, [], length, map, take, drop}
use Rattle.su_query.specs.declared.scopes.Scope.TheVariants.{Attributes}
use Rattle.su_query.specs.Scopes.{names_in, first_unknown}
use Rattle.su_query.specs.Places.{number_in, places_of}
use Rattle.su_query.proofs.places.place_all.Given as goal

abbrev pub invariant-loop-reference : goal.invariant-loop-reference
invariant-loop-reference l = record {
  places : places_of l.schema l.variables l.places (map (λ r. r.now) (drop l.reference-index l.references)) ≡ places_of l.schema l.variables [] (map (λ r. r.now) l.references);
  few : length l.places ≤ l.reference-index;
  numbers : l.numbers ≡ map (number_in l.schema Attributes l.variables (places_of l.schema l.variables [] (map (λ r. r.now) l.references))) (map (λ r. r.now) (take l.reference-index l.references));
  known : first_unknown (names_in l.schema Attributes) (map (λ r. r.now) (drop l.reference-index l.references)) ≡ first_unknown (names_in l.schema Attributes) (map (λ r. r.now) l.references);
}
