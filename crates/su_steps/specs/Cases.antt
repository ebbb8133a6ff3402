-- What a case gives: no term, or a tableau closed under the dependencies.
-- case: a disjunct, by its number, and a choice; its out is a term, or none
use Rattle.std.specs.Prelude.{◌≡◌, ◌≢◌, ◌⊎◌, ℕ, List, [], get_or, Contains, Option, Some, None}
use Rattle.std.specs.Ordering.{nat_cmp}
use Rattle.std.specs.FinSet.{FinSet}
use Rattle.su_base.specs.declared.values.Value.{Value}
use Rattle.su_where.specs.Disjunct.{disjuncts_of}
use Rattle.su_tableau.specs.declared.symbols.Sym.{Sym}
use Rattle.su_tableau.specs.declared.symbols.Sym.TheVariants.{Const}
use Rattle.su_tableau.specs.Tableaux.{Tab}
use Rattle.su_schema.specs.SchemaValue.{SchemaValue}
use Rattle.su_query.specs.declared.resolving.Resolved.{Resolved}
use Rattle.su_steps.specs.declared.results.Origin.{Origin}
use Rattle.su_steps.specs.declared.results.Term.{Term}
use Rattle.su_steps.specs.Objects.{width}
use Rattle.su_steps.specs.Choices.{origins_of}
use Rattle.su_steps.specs.PairSymbols.{SymbolComparison, comparisons}
use Rattle.su_classes.specs.ClassNames.{InClass, IsNaming}
use Rattle.su_steps.specs.Classes.{IsClosedForCase}
use Rattle.su_steps.specs.Evaluated.{EvaluatesFalse}
use Rattle.su_steps.specs.CaseTableaux.{tableau_of}

-- a disjunct, by its number, and a choice
pub record Case : Type 0 where
  pub disjunct : ℕ
  pub choice : List ℕ

-- the comparisons of the disjunct of this number
abbrev pub comparisons_of : SchemaValue → Resolved → ℕ → List SymbolComparison
comparisons_of schema q i = comparisons (width schema) q.places (get_or (disjuncts_of q.cond) i [])

-- two different constants are in one class, or a comparison is evaluated and false
abbrev pub IsContradictory : SchemaValue → List Origin → List SymbolComparison → (Sym → Sym) → Type 0
IsContradictory schema os d name = ((a : Value) × (b : Value) × (a ≢ b) × InClass (IsClosedForCase schema os d) (Const a) (Const b)) ⊎ ((c : SymbolComparison) × Contains d c × EvaluatesFalse name c)

-- rows of these origins with these comparisons have no tableau
pub record HaveNone (schema : SchemaValue) (os : List Origin) (d : List SymbolComparison) : Type 0 where
  pub name : Sym → Sym
  pub naming : IsNaming (IsClosedForCase schema os d) name
  pub contradictory : IsContradictory schema os d name

-- rows of these origins with these comparisons have the tableau t
pub record HaveTableau (schema : SchemaValue) (q : Resolved) (os : List Origin) (d : List SymbolComparison) (t : Tab) : Type 0 where
  pub name : Sym → Sym
  pub naming : IsNaming (IsClosedForCase schema os d) name
  pub consistent : ¬ IsContradictory schema os d name
  pub is : t ≡ tableau_of schema q name os d

-- the case gives the term
pub record Gives (schema : SchemaValue) (maximal : List (FinSet nat_cmp)) (q : Resolved) (case : Case) (t : Term) : Type 0 where
  pub disjunct : t.disjunct ≡ case.disjunct
  pub choice : t.choice ≡ case.choice
  pub origins : t.origins ≡ origins_of schema maximal case.choice
  pub tableau : HaveTableau schema q (origins_of schema maximal case.choice) (comparisons_of schema q case.disjunct) t.tableau

-- what comes out of a case: no term, or one
abbrev pub IsOutOf : SchemaValue → List (FinSet nat_cmp) → Resolved → Case → Option Term → Type 0
IsOutOf schema maximal q case None = HaveNone schema (origins_of schema maximal case.choice) (comparisons_of schema q case.disjunct)
IsOutOf schema maximal q case (Some t) = Gives schema maximal q case t
