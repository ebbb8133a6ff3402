-- Freezing: the variables of a tableau get new values, which make its rows a universal relation.
-- candidate: the whole number i, or the text v with the number i, by the kind
-- frozen: each variable of the rows, ascending, gets the least candidate of its kind that is neither avoided nor given to a lesser one
use Rattle.std.specs.Prelude.{◌≡◌, ◌⊎◌, ℕ, ◌<◌, pos, List, ◌∷◌, map, Contains, All, decimal}
use Rattle.su_base.specs.declared.values.Kind.{Kind}
use Rattle.su_base.specs.declared.values.Kind.TheVariants.{Int as IntKind, Text as TextKind}
use Rattle.su_base.specs.declared.values.Value.{Value}
use Rattle.su_base.specs.declared.values.Value.TheVariants.{Int, Text}
use Rattle.su_tableau.specs.declared.symbols.Sym.{Sym}
use Rattle.su_tableau.specs.declared.symbols.Sym.TheVariants.{Const}
use Rattle.su_tableau.specs.Tableaux.{Tab, Occurs}
use Rattle.su_tableau.specs.Valuations.{values_of}
use Rattle.su_tableau.specs.Kinds.{Kinds, sym_kind}
use Rattle.su_chase.specs.declared.freezing.Frozen.{Frozen}

-- 118 is the letter v
abbrev pub candidate : Kind → ℕ → Value
candidate IntKind i = Int (pos i)
candidate TextKind i = Text (118 ∷ decimal i)

-- the value is avoided, or that of a lesser variable of the rows
abbrev pub IsTaken : List (List Sym) → List Value → (ℕ → Value) → ℕ → Value → Type 0
IsTaken rows avoid v k c = Contains avoid c ⊎ ((j : ℕ) × (j < k) × Occurs rows j × (v j ≡ c))

-- variable k, of this kind, has the first candidate that is not taken
pub record IsFirstFree (rows : List (List Sym)) (avoid : List Value) (v : ℕ → Value) (kind : Kind) (k : ℕ) : Type 0 where
  pub number : ℕ
  pub is : v k ≡ candidate kind number
  pub free : ¬ IsTaken rows avoid v k (candidate kind number)
  pub least : (i : ℕ) → i < number → IsTaken rows avoid v k (candidate kind i)

-- the rows and the head of t by such values
pub record IsFrozen (kinds : Kinds) (t : Tab) (avoid : List Value) (f : Frozen) : Type 0 where
  pub var_kind : ℕ → Kind
  pub fits : All (λ row. map (sym_kind var_kind) row ≡ kinds) t.rows
  pub valuation : ℕ → Value
  pub each : (k : ℕ) → Occurs t.rows k → IsFirstFree t.rows avoid valuation (var_kind k) k
  pub universe : f.universe ≡ map (values_of valuation) t.rows
  pub head : f.head ≡ values_of valuation t.head

-- the constants of t are among these
pub record AreAvoided (avoid : List Value) (t : Tab) : Type 0 where
  pub rows : All (λ row. (c : Value) → Contains row (Const c) → Contains avoid c) t.rows
  pub head : (c : Value) → Contains t.head (Const c) → Contains avoid c
