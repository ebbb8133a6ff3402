-- A query has one list of terms, or one refusal.
-- term, class, name: as in su_steps
use Rattle.std.specs.Prelude.{◌≡◌, ◌≢◌, List}
use Rattle.std.specs.Ordering.{nat_cmp}
use Rattle.std.specs.FinSet.{FinSet}
use Rattle.su_base.specs.declared.values.Value.{Value}
use Rattle.su_tableau.specs.declared.symbols.Sym.{Sym}
use Rattle.su_tableau.specs.declared.symbols.Sym.TheVariants.{Const}
use Rattle.su_schema.specs.SchemaValue.{SchemaValue}
use Rattle.su_query.specs.declared.resolving.Resolved.{Resolved}
use Rattle.su_steps.specs.declared.faults.StepFault.{StepFault}
use Rattle.su_steps.specs.declared.results.Origin.{Origin}
use Rattle.su_steps.specs.declared.results.Term.{Term}
use Rattle.su_steps.specs.PairSymbols.{SymbolComparison}
use Rattle.su_classes.specs.ClassNames.{InClass, IsNaming}
use Rattle.su_steps.specs.Classes.{IsClosedForCase}
use Rattle.su_steps.specs.Terms.{AreTerms}
use Rattle.su_steps.specs.Refusals.{IsStepRefusal, IsAccepted}

-- a symbol has one name, where no class has two constants
abbrev pub OneNaming : Type 0
OneNaming = (schema : SchemaValue) (os : List Origin) (d : List SymbolComparison) (name other : Sym → Sym)
    → ¬ ((a : Value) × (b : Value) × (a ≢ b) × InClass (IsClosedForCase schema os d) (Const a) (Const b))
    → IsNaming (IsClosedForCase schema os d) name → IsNaming (IsClosedForCase schema os d) other → (x : Sym) → name x ≡ other x

-- a query has at most one list of terms
abbrev pub OneListOfTerms : Type 0
OneListOfTerms = (schema : SchemaValue) (maximal : List (FinSet nat_cmp)) (q : Resolved) (ts others : List Term) → AreTerms schema maximal q ts → AreTerms schema maximal q others → ts ≡ others

-- no query is refused for two causes
abbrev pub OneStepRefusal : Type 0
OneStepRefusal = (schema : SchemaValue) (maximal : List (FinSet nat_cmp)) (q : Resolved) (why other : StepFault)
    → IsStepRefusal schema maximal q why → IsStepRefusal schema maximal q other → why ≡ other

-- nor is one that gets terms
abbrev pub RefusedOrAccepted : Type 0
RefusedOrAccepted = (schema : SchemaValue) (maximal : List (FinSet nat_cmp)) (q : Resolved) (why : StepFault)
    → IsStepRefusal schema maximal q why → ¬ IsAccepted schema maximal q
