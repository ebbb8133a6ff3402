-- Rows of symbols as rows of items, and variables with their new values. No public contract cites this module.
-- numbered: the constants of the rows, ascending, each once, are the first items, and the variables follow
use Rattle.std.specs.Prelude.{◌≡◌, ◌≢◌, ◌⊎◌, ◌↔◌, ℕ, ◌+◌, ◌<◌, ◌≤◌, cond, nat_eq, pos, IsTrue, Option, Some, None, List, [], ◌∷◌, map, flat_map, length, get_or, All, Contains}
use Rattle.std.specs.FinSet.{contains}
use Rattle.su_base.specs.declared.values.Kind.{Kind}
use Rattle.su_base.specs.declared.values.Kind.TheVariants.{Int as IntKind, Text as TextKind}
use Rattle.su_base.specs.declared.values.Value.{Value}
use Rattle.su_base.specs.declared.values.Value.TheVariants.{Int, Text}
use Rattle.su_fd.specs.declared.dependencies.Fd.{Fd}
use Rattle.su_tableau.specs.declared.symbols.Sym.{Sym}
use Rattle.su_tableau.specs.declared.symbols.Sym.TheVariants.{Const, Var}
use Rattle.su_tableau.specs.Tableaux.{Tab}
use Rattle.su_tableau.specs.Kinds.{sym_kind}
use Rattle.su_tableau.specs.Valuations.{nth}
use Rattle.su_classes.specs.declared.items.Placed.{Placed}
use Rattle.su_classes.specs.Symbols.{symbol_at}
use Rattle.su_classes.specs.inside.Symbols.{symbol_number}
use Rattle.su_classes.specs.Tables.{rep, IsLeastTable}
use Rattle.su_chase.specs.declared.candidates.Next.{Next}
use Rattle.su_chase.specs.Frozen.{candidate}

-- ---- symbols as items

-- the constant, if the symbol is one
abbrev pub constant_of : Sym → List Value
constant_of (Const c) = c ∷ []
constant_of (Var k) = []

-- the constants of the rows, each as often as it stands there
abbrev pub constants_in : List (List Sym) → List Value
constants_in rows = flat_map (λ row. flat_map constant_of row) rows

-- the row of items of a row of symbols: an item at each attribute below its length
pub record IsPlacedRow (constants : List Value) (row : List Sym) (placed : Placed) : Type 0 where
  pub cells : placed.cells ≡ map (symbol_number constants) row
  pub has : (a : ℕ) → IsTrue (contains placed.has a) ↔ (a < length row)

-- the table of the least classes of the rows' items
pub record IsTableOf (constants : List Value) (limit : ℕ) (fds : List Fd) (rows : List (List Sym)) (table : List ℕ) : Type 0 where
  pub placed : List Placed
  pub each : length placed ≡ length rows
  pub are : (i : ℕ) (d : Placed) → i < length rows → IsPlacedRow constants (get_or rows i []) (get_or placed i d)
  pub size : length table ≡ length constants + limit
  pub least : IsLeastTable fds placed [] table

-- of the first items, those that are not their own representatives: the item with the least one, and the first of these
abbrev pub IsFirstClash : ℕ → List ℕ → Option ℕ → Type 0
IsFirstClash count table None = (i : ℕ) → i < count → rep table i ≡ i
IsFirstClash count table (Some g) = (g < count) × (rep table g < g) × ((i : ℕ) → i < count → rep table i < i → rep table g ≤ rep table i) × ((i : ℕ) → i < g → rep table i < i → rep table i ≢ rep table g)

-- the item i, where it has a lesser representative than the one before or there was none; else that one
abbrev pub TakesLesser : List ℕ → Option ℕ → ℕ → Option ℕ → Type 0
TakesLesser table None i new = new ≡ Some i
TakesLesser table (Some g) i new = ((rep table i < rep table g) × (new ≡ Some i)) ⊎ ((rep table g ≤ rep table i) × (new ≡ Some g))

-- the constants of that item: its representative's, and its own
abbrev pub ClashesAt : List Value → List ℕ → Option (Value × Value) → Type 0
ClashesAt constants table None = IsFirstClash (length constants) table None
ClashesAt constants table (Some p) = (g : ℕ) × IsFirstClash (length constants) table (Some g) × (p.0 ≡ get_or constants (rep table g) (Text [])) × (p.1 ≡ get_or constants g (Text []))

-- the name of a symbol by the names of the variables; a constant is its own name
abbrev pub name_by : List Sym → Sym → Sym
name_by names (Const c) = Const c
name_by names (Var k) = get_or names k (Var k)

-- a tableau by the names of its symbols
abbrev pub named_tab : (Sym → Sym) → Tab → Tab
named_tab name t = record t { rows = map (map name) t.rows; head = map name t.head }

-- ---- variables with their values

-- the variable, if the symbol is one
abbrev pub variable_of : Sym → List ℕ
variable_of (Const c) = []
variable_of (Var k) = k ∷ []

-- the new value of a variable, where the values stand in the order of the variables
abbrev pub value_in : List ℕ → List Value → ℕ → Value
value_in [] vs k = Int (pos 0)
value_in (j ∷ js) [] k = Int (pos 0)
value_in (j ∷ js) (v ∷ vs) k = cond (nat_eq j k) v (value_in js vs k)

-- at place p of the values: the first candidate of the kind that is neither avoided nor at an earlier place
pub record IsFreeAt (avoid : List Value) (kind : Kind) (values : List Value) (p : ℕ) : Type 0 where
  pub number : ℕ
  pub is : nth values p ≡ candidate kind number
  pub free : ¬ Contains avoid (candidate kind number)
  pub new : (q : ℕ) → q < p → nth values q ≢ candidate kind number
  pub least : (i : ℕ) → i < number → Contains avoid (candidate kind i) ⊎ ((q : ℕ) × (q < p) × (nth values q ≡ candidate kind i))

-- the counter of a kind
abbrev pub count_of : Next → Kind → ℕ
count_of next IntKind = next.int
count_of next TextKind = next.text

-- the counter of the kind is past the number, and that of no other kind moved
pub record IsPast (next : Next) (kind : Kind) (number : ℕ) (new : Next) : Type 0 where
  pub here : count_of new kind ≡ number + 1
  pub others : (k : Kind) → k ≢ kind → count_of new k ≡ count_of next k

-- the kinds of these variables, however variables have kinds so that each row is of the kinds
abbrev pub AreKindsOf : List Kind → List (List Sym) → List ℕ → List Kind → Type 0
AreKindsOf kinds rows variables found = (var_kind : ℕ → Kind) → All (λ row. map (sym_kind var_kind) row ≡ kinds) rows → found ≡ map var_kind variables

-- the names of the variables below the limit, by the constants and a table of representatives
abbrev pub AreNamesBelow : ℕ → List Value → List ℕ → List Sym → Type 0
AreNamesBelow limit constants table names = (k : ℕ) → k < limit → get_or names k (Var k) ≡ symbol_at constants (rep table (length constants + k))
