use Rattle.std.proofs.Common.{◌≡◌, [], map, take, drop}
use Rattle.su_query.specs.declared.scopes.Scope.TheVariants.{Columns}
use Rattle.su_query.specs.Scopes.{names_in, first_unknown}
use Rattle.su_query.specs.Places.{number_in}
use Rattle.su_query.proofs.columns.column_numbers.Given as goal

abbrev pub invariant-loop-reference : goal.invariant-loop-reference
invariant-loop-reference l = record {
  numbers : l.numbers ≡ map (number_in l.schema (Columns l.relation) [] []) (map (λ r. r.now) (take l.reference-index l.references));
  known : first_unknown (names_in l.schema (Columns l.relation)) (map (λ r. r.now) (drop l.reference-index l.references)) ≡ first_unknown (names_in l.schema (Columns l.relation)) (map (λ r. r.now) l.references);
}
