-- How symbols are numbered as items: the constants of a disjunct's equalities, each once, and then the pairs.
-- placed: the row of items that stands for an origin, as su_classes closes it
-- No public contract cites this module.
use Rattle.std.specs.Prelude.{◌≡◌, ℕ, ◌*◌, ◌+◌, ◌≤◌, Bool, true, false, cond, List, [], ◌∷◌, length, map}
use Rattle.std.specs.List.{range_with_len}
use Rattle.su_base.specs.declared.values.Value.{Value}
use Rattle.su_where.specs.declared.operators.Op.{Op}
use Rattle.su_where.specs.declared.operators.Op.TheVariants.{Equal}
use Rattle.su_where.specs.declared.literals.Operand.{Operand}
use Rattle.su_where.specs.declared.literals.Operand.TheVariants as operand
use Rattle.su_where.specs.declared.literals.Literal.{Literal}
use Rattle.su_tableau.specs.declared.symbols.Sym.{Sym}
use Rattle.su_tableau.specs.declared.symbols.Sym.TheVariants.{Var}
use Rattle.su_classes.specs.declared.items.Placed.{Placed}
use Rattle.su_classes.specs.declared.items.Together.{Together}
use Rattle.su_classes.specs.Tables.{IsTable}
use Rattle.su_classes.specs.inside.Symbols.{has_constant, symbol_number, name_in}
use Rattle.su_schema.specs.SchemaValue.{SchemaValue}
use Rattle.su_steps.specs.declared.results.Origin.{Origin}
use Rattle.su_steps.specs.declared.classes.Classes.{Classes}
use Rattle.su_steps.specs.Objects.{width, attributes_at}
use Rattle.su_steps.specs.PairSymbols.{SymbolComparison, pair}

-- the operand is a place, or a constant among these
abbrev pub IsNoted : List Value → Operand → Type 0
IsNoted vs (operand.Place i) = Unit {0}
IsNoted vs (operand.Const c) = has_constant vs c ≡ true

-- the sides of an equality are noted
abbrev pub AreNoted : List Value → Literal → Type 0
AreNoted vs l = l.op ≡ Equal → IsNoted vs l.left × IsNoted vs l.right

-- the operator is `=`
abbrev pub is_equality : Op → Bool
is_equality Equal = true
is_equality _ = false

-- the sides of the equalities, by number
abbrev pub equals : List Value → List SymbolComparison → List Together
equals vs [] = []
equals vs (c ∷ cs) = cond (is_equality c.op) (record { left = symbol_number vs c.left; right = symbol_number vs c.right } ∷ equals vs cs) (equals vs cs)

-- the row of items of an origin: those of its variable's pairs, at the attributes of its object
abbrev pub placed_of : SchemaValue → List Value → Origin → Placed
placed_of schema vs o = record { has = attributes_at schema o.object; cells = map (λ a. symbol_number vs (Var (pair (width schema) o.variable a))) (range_with_len 0 (width schema)) }

-- the name of a symbol by the classes of so many pairs
abbrev pub class_name : ℕ → Classes → Sym → Sym
class_name limit c x = name_in c.constants limit c.table.items x

-- the name of a symbol by the classes of the pairs of so many variables
abbrev pub name_by : ℕ → Classes → Sym → Sym
name_by variables c = class_name (variables * c.width) c

-- the table is one of the constants and of the pairs of so many variables
pub record AreClasses (variables : ℕ) (c : Classes) : Type 0 where
  pub size : length c.table.items ≡ length c.constants + variables * c.width
  pub few_variables : variables ≤ 8
  pub narrow : c.width ≤ 128
  pub ordered : IsTable c.table.items
