-- What the rows of a choice and the comparisons of a disjunct answer before any classes.
use Rattle.std.proofs.Common.{◌≡◌, ℕ, ◌*◌, ◌/◌, ◌%◌, ◌<◌, true, pos, List, [], map, length, get_or, Contains}
use Rattle.std.specs.List.{AllByRecursion}
use Rattle.std.specs.FinSet.{contains}
use Rattle.su_base.specs.declared.values.Value.{Value}
use Rattle.su_base.specs.declared.values.Value.TheVariants.{Int}
use Rattle.su_base.specs.Value.{kind_of}
use Rattle.su_where.specs.Operator.{compares}
use Rattle.su_tableau.specs.declared.symbols.Sym.{Sym}
use Rattle.su_tableau.specs.declared.symbols.Sym.TheVariants.{Const, Var}
use Rattle.su_tableau.specs.Valuations.{value_of, values_of}
use Rattle.su_schema.specs.SchemaValue.{SchemaValue}
use Rattle.su_schema.specs.Entries.{attribute_kinds}
use Rattle.su_steps.specs.Objects.{width, attributes_at}
use Rattle.su_steps.specs.Expression.{cut, cuts}
use Rattle.su_steps.specs.Choices.{origins_from}
use Rattle.su_steps.specs.PairSymbols.{SymbolComparison}
use Rattle.su_steps.proofs.Cells.{Sent, raw_rows}

-- the attributes of objects are attributes of the schema
abbrev pub AreWithin : SchemaValue → Type 0
AreWithin schema = (o a : ℕ) → contains (attributes_at schema o) a ≡ true → a < width schema

-- all comparisons are true
abbrev pub AllTrue : (ℕ → Value) → List SymbolComparison → Type 0
AllTrue w d = AllByRecursion (λ c. compares c.op (value_of w c.left) (value_of w c.right) ≡ true) d

-- the value of a pair, where each variable has a list of values
abbrev pub pair_value : ℕ → (ℕ → List Value) → ℕ → Value
pair_value n lists p = get_or (lists (p / n)) (p % n) (Int (pos 0))

-- h is answered by one list of values per variable, where the variables take these objects
pub record InLists (schema : SchemaValue) (universe : List (List Value)) (choice : List (List ℕ)) (outputs : List Sym) (d : List SymbolComparison) (h : List Value) : Type 0 where
  pub lists : ℕ → List Value
  pub typed : (v : ℕ) → v < length choice → map kind_of (lists v) ≡ attribute_kinds schema
  pub within : (v : ℕ) → v < length choice → AllByRecursion (λ o. Contains (cuts schema universe o) (cut (attributes_at schema o) (lists v))) (get_or choice v [])
  pub holds : AllTrue (pair_value (width schema) lists) d
  pub gives : values_of (pair_value (width schema) lists) outputs ≡ h

-- h is answered by a valuation that sends the rows to rows of the universe and makes all comparisons true
pub record RawAnswer (schema : SchemaValue) (universe : List (List Value)) (choice : List (List ℕ)) (outputs : List Sym) (d : List SymbolComparison) (h : List Value) : Type 0 where
  pub valuation : ℕ → Value
  pub sends : Sent valuation (raw_rows schema (length choice * width schema) (origins_from 0 choice)) universe
  pub holds : AllTrue valuation d
  pub gives : values_of valuation outputs ≡ h

-- the pair's attribute is one of the objects that its variable takes
pub record HasObject (schema : SchemaValue) (choice : List (List ℕ)) (p : ℕ) : Type 0 where
  pub object : ℕ
  pub variable_in : p / width schema < length choice
  pub takes : Contains (get_or choice (p / width schema) []) object
  pub has : contains (attributes_at schema object) (p % width schema) ≡ true

abbrev pub IsShown : SchemaValue → List (List ℕ) → Sym → Type 0
IsShown schema choice (Const c) = Unit {0}
IsShown schema choice (Var p) = HasObject schema choice p

-- the outputs and the sides of the comparisons stand in rows
pub record AreShown (schema : SchemaValue) (choice : List (List ℕ)) (outputs : List Sym) (d : List SymbolComparison) : Type 0 where
  pub in_outputs : AllByRecursion (IsShown schema choice) outputs
  pub in_lefts : AllByRecursion (λ c. IsShown schema choice c.left) d
  pub in_rights : AllByRecursion (λ c. IsShown schema choice c.right) d
