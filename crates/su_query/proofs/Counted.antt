-- Names have at most one variable, the blank one, and compare nothing.
use Rattle.std.proofs.Common.{◌≡◌, ◌≤◌, ℕ, None, List, [], ◌∷◌, map, length, refl, ap, arith}
use Rattle.std.specs.List.{flat_map}
use Rattle.su_where.specs.declared.conditions.Condition.TheVariants.{All}
use Rattle.su_where.specs.Truth.{comparisons_of}
use Rattle.su_query.specs.declared.conditions.Comparison.{Comparison}
use Rattle.su_query.specs.Mentions.{mentions}
use Rattle.su_query.specs.Refs.{refs_beside}
use Rattle.su_query.specs.Limits.{plain_ref, variable_count}
use Rattle.su_where.proofs.Layers.{comparisons_of-All}

blank_alone : (names : List (List ℕ)) → mentions (None ∷ []) (map plain_ref names) ≡ None ∷ []
blank_alone [] = refl
blank_alone (name ∷ names) = blank_alone names

one_at_most : (names : List (List ℕ)) → length (mentions [] (map plain_ref names)) ≤ 1
one_at_most [] = omega arith
one_at_most (name ∷ names) = omega (arith, ap length (blank_alone names))

pub names_few_variables : (names : List (List ℕ)) → variable_count (map plain_ref names) (All []) ≤ 8
names_few_variables names =
    let none = ap (λ ks. length (mentions (mentions [] (map plain_ref names)) (flat_map refs_beside ks))) (comparisons_of-All []) in
    omega (arith, none, one_at_most names)

pub nothing_compared : length (comparisons_of {C = Comparison} (All [])) ≤ 256
nothing_compared = omega (arith, ap length (comparisons_of-All {C = Comparison} []))
