-- What a tableau says of a relation.
-- valuation: a value for each variable; it keeps constants
-- answer: the values of the head under a valuation that sends every row to a row of the relation
use Rattle.std.specs.Prelude.{◌≡◌, ℕ, ◌+◌, ◌*◌, ◌<◌, pos, IsTrue, List, map, take, length, get_or, All, Contains}
use Rattle.su_base.specs.declared.values.Value.{Value}
use Rattle.su_base.specs.declared.values.Value.TheVariants.{Int}
use Rattle.su_where.specs.declared.operators.Op.TheVariants.{Equal}
use Rattle.su_where.specs.Operator.{compares}
use Rattle.su_tableau.specs.declared.symbols.Sym.{Sym}
use Rattle.su_tableau.specs.declared.symbols.Sym.TheVariants.{Const, Var}
use Rattle.su_tableau.specs.Tableaux.{Tab}

-- the k-th value of a list, which is that of variable k
abbrev pub nth : List Value → ℕ → Value
nth values k = get_or values k (Int (pos 0))

-- the values of a list at these places
abbrev pub values_at : List ℕ → List Value → List Value
values_at places values = map (λ place. get_or values place (Int (pos 0))) places

-- the value of a symbol, where each variable has one
abbrev pub value_of : (ℕ → Value) → Sym → Value
value_of v (Const c) = c
value_of v (Var k) = v k

-- the values of a list of symbols
abbrev pub values_of : (ℕ → Value) → List Sym → List Value
values_of v xs = map (value_of v) xs

-- every row has its values among the rows of the universe
abbrev pub Sends : (ℕ → Value) → List (List Sym) → List (List Value) → Type 0
Sends v rows universe = All (λ row. Contains universe (values_of v row)) rows

-- h is the values of the tableau's head under a valuation of which the fact holds
pub record IsHeadUnder (fact : (ℕ → Value) → Type 0) (t : Tab) (h : List Value) : Type 0 where
  pub valuation : ℕ → Value
  pub holds : fact valuation
  pub gives : values_of valuation t.head ≡ h

-- h is an answer of the tableau over the universe
abbrev pub Ext : Tab → List (List Value) → List Value → Type 0
Ext t universe h = IsHeadUnder (λ v. Sends v t.rows universe) t h

-- the head's values meet its comparisons: operator i compares the two values from place outputs + 2 i on
abbrev pub AreCompared : Tab → List Value → Type 0
AreCompared t head = (i : ℕ) → i < length t.operators → IsTrue (compares (get_or t.operators i Equal) (get_or head (t.outputs + 2 * i) (Int (pos 0))) (get_or head (t.outputs + 2 * i + 1) (Int (pos 0))))

-- h has the outputs of a list of the set whose comparisons hold
pub record Cut (t : Tab) (heads : List Value → Type 0) (h : List Value) : Type 0 where
  pub head : List Value
  pub member : heads head
  pub compared : AreCompared t head
  pub outputs : take t.outputs head ≡ h
