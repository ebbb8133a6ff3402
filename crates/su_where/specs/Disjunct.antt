-- The disjunctive form of a condition.
-- disjunct: a list of comparisons, all of which are to hold; disjuncts: a list of them, one of which is to hold
use Rattle.std.specs.Prelude.{◌≡◌, Bool, true, false, not, if◌then◌else◌, List, [], ◌∷◌, map, flat_map}
use Rattle.std.specs.List.{list_all, list_any}
use Rattle.su_base.specs.declared.values.Value.{Value}
use Rattle.su_where.specs.declared.literals.Literal.{Literal}
use Rattle.su_where.specs.declared.conditions.Condition.TheOpen.{Condition-F, Compare, Not, All, Any}
use Rattle.su_where.specs.declared.conditions.Condition.TheFolds.{fold-Condition}
use Rattle.su_where.specs.Operator.{complement_of}
use Rattle.su_where.specs.Truth.{Cond, holds, truth_of}

-- the comparison that holds exactly where this one doesn't
abbrev pub opposite_of : Literal → Literal
opposite_of l = record l { op = complement_of l.op }

-- all combinations of one member of each list, the first list slowest
abbrev pub combinations : {A : Type 0} → List (List A) → List (List A)
combinations [] = [] ∷ []
combinations (xs ∷ xss) = flat_map (λ x. map (λ ys. x ∷ ys) (combinations xss)) xs

-- one disjunct of each part, joined: all combinations, where these are the disjuncts of the parts
abbrev pub combined : List (List (List Literal)) → List (List Literal)
combined parts = map (flat_map (λ d. d)) (combinations parts)

-- the disjuncts of a condition or, if negated, of its negation, where these are those of its parts
abbrev pub form_step : Condition-F Literal (Bool → List (List Literal)) → Bool → List (List Literal)
form_step (Compare l) negated = ((if negated then opposite_of l else l) ∷ []) ∷ []
form_step (Not part) negated = part (not negated)
form_step (All parts) negated = if negated then flat_map (λ p. p true) parts else combined (map (λ p. p false) parts)
form_step (Any parts) negated = if negated then combined (map (λ p. p true) parts) else flat_map (λ p. p false) parts

-- the disjuncts of a condition or, if negated, of its negation
abbrev pub form_of : Cond → Bool → List (List Literal)
form_of = fold-Condition Literal (Bool → List (List Literal)) form_step

-- the disjuncts of a condition, in their order
abbrev pub disjuncts_of : Cond → List (List Literal)
disjuncts_of c = form_of c false

-- whether all comparisons of a disjunct hold
abbrev pub all_hold : List Literal → List Value → Bool
all_hold d values = list_all (λ l. holds l values) d

-- whether all comparisons of some disjunct hold
abbrev pub some_holds : List (List Literal) → List Value → Bool
some_holds ds values = list_any (λ d. all_hold d values) ds

-- a condition is true exactly where all comparisons of some of its disjuncts hold
abbrev pub KeepsTruth : Cond → Type 0
KeepsTruth c = (values : List Value) → truth_of c values ≡ some_holds (disjuncts_of c) values
