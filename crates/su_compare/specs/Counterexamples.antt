-- What shows that a query is not within another: a term that is left, and its chased rows frozen.
-- frozen: with new values for the variables, apart from the constants of all terms
use Rattle.std.specs.Prelude.{◌≡◌, ◌↔◌, ◌⊎◌, ℕ, ◌<◌, List, length, Contains}
use Rattle.su_base.specs.declared.values.Value.{Value}
use Rattle.su_tableau.specs.declared.symbols.Sym.{Sym}
use Rattle.su_tableau.specs.declared.symbols.Sym.TheVariants.{Const}
use Rattle.su_tableau.specs.Tableaux.{Tab}
use Rattle.su_rel.specs.ExactRows.{AreExactlyRows}
use Rattle.su_chase.specs.Frozen.{IsFrozen}
use Rattle.su_chase.specs.declared.freezing.Frozen.{Frozen}
use Rattle.su_schema.specs.SchemaValue.{SchemaValue}
use Rattle.su_schema.specs.Entries.{attribute_kinds}
use Rattle.su_steps.specs.declared.results.Term.{Term}
use Rattle.su_compare.specs.Settled.{tab_at, IsSettled, IsUnsettled}

-- the constant stands in a row or in the head
abbrev pub HasConstant : Tab → Value → Type 0
HasConstant t c = ((row : List Sym) × Contains t.rows row × Contains row (Const c)) ⊎ Contains t.head (Const c)

-- some of the terms has the constant
abbrev pub InTerms : List Term → Value → Type 0
InTerms terms c = (i : ℕ) × (i < length terms) × HasConstant (tab_at terms i) c

-- the frozen rows of c, ascending, each once, and its frozen head
pub record IsShown (schema : SchemaValue) (first second : List Term) (c : Tab) (shown : Frozen) : Type 0 where
  pub avoid : List Value
  pub avoided : (v : Value) → Contains avoid v ↔ (InTerms first v ⊎ InTerms second v)
  pub frozen : Frozen
  pub frozen_is : IsFrozen (attribute_kinds schema) c avoid frozen
  pub rows : AreExactlyRows (Contains frozen.universe) shown.universe
  pub head : shown.head ≡ frozen.head

-- the least term that is not settled, and its frozen rows
pub record IsApart (schema : SchemaValue) (first second : List Term) (term : ℕ) (shown : Frozen) : Type 0 where
  pub below : term < length first
  pub earlier : (i : ℕ) → i < term → IsSettled schema.fds second (tab_at first i)
  pub chased : Tab
  pub unsettled : IsUnsettled schema.fds second (tab_at first term) chased
  pub shown_is : IsShown schema first second chased shown
