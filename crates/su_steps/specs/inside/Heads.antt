-- The head of a tableau beside its operators.
-- name: gives each symbol the name of its class; cs: comparisons of symbols; c: one of these, or the classes; variables: how many there are
-- place: a variable and an attribute; literal: a comparison of places, by number from 0, and constants
-- evaluated: decided by the names of the two sides; left: not evaluated
-- No public contract cites this module.
use Rattle.std.specs.Prelude.{◌≡◌, ℕ, Bool, true, false, List, [], ◌++◌, map, Option, MatchOption, Contains}
use Rattle.su_tableau.specs.declared.symbols.Sym.{Sym}
use Rattle.su_steps.specs.declared.building.Head.{Head}
use Rattle.su_where.specs.declared.operators.Op.{Op}
use Rattle.su_where.specs.declared.literals.Literal.{Literal}
use Rattle.su_query.specs.declared.places.Place.{Place}
use Rattle.su_steps.specs.declared.classes.Classes.{Classes}
use Rattle.su_steps.specs.PairSymbols.{SymbolComparison, place_symbol, comparisons}
use Rattle.su_steps.specs.Evaluated.{is_evaluated, outcome, left_over, sides, EvaluatesFalse}
use Rattle.su_steps.specs.inside.Numbers.{name_by}

-- the head with the comparisons that are left
abbrev pub with_compared : (Sym → Sym) → Head → List SymbolComparison → Head
with_compared name head cs = record { symbols = head.symbols ++ sides (left_over name cs); operators = head.operators ++ map (λ c. c.op) (left_over name cs) }

-- the head of these outputs and comparisons
abbrev pub head_of : (Sym → Sym) → List Sym → List SymbolComparison → Head
head_of name outputs cs = with_compared name (record { symbols = outputs; operators = [] }) cs

-- some comparison is evaluated and false
abbrev pub IsSomeFalse : (Sym → Sym) → List SymbolComparison → Type 0
IsSomeFalse name cs = (c : SymbolComparison) × Contains cs c × EvaluatesFalse name c

-- no comparison is evaluated and false
abbrev pub IsNoneFalse : (Sym → Sym) → List SymbolComparison → Type 0
IsNoneFalse name cs = (c : SymbolComparison) → Contains cs c → ¬ EvaluatesFalse name c

-- what a comparison says, if it is evaluated
abbrev pub IsSaid : Op → Sym → Sym → Option Bool → Type 0
IsSaid op x y said = MatchOption said (is_evaluated x y ≡ false) (λ b. (is_evaluated x y ≡ true) × (b ≡ outcome op x y))

-- the head with those of these literals that are left
abbrev pub with_literals : ℕ → Classes → List Place → Head → List Literal → Head
with_literals variables c places head literals = with_compared (name_by variables c) head (comparisons c.width places literals)

-- the names of the places with these numbers
abbrev pub names_at : ℕ → Classes → List Place → List ℕ → List Sym
names_at variables c places outputs = map (λ i. name_by variables c (place_symbol c.width places i)) outputs

-- the head of these outputs and literals, none of which is false; or one of them is
abbrev pub IsHeadIfAny : ℕ → Classes → List Place → List ℕ → List Literal → Option Head → Type 0
IsHeadIfAny variables c places outputs literals found =
    MatchOption found (IsSomeFalse (name_by variables c) (comparisons c.width places literals))
    (λ h. IsNoneFalse (name_by variables c) (comparisons c.width places literals) × (h ≡ head_of (name_by variables c) (names_at variables c places outputs) (comparisons c.width places literals)))
