-- Values, operators and refs, and their symbols.
-- ref: A or t.A; operand: a ref or a value
use Rattle.std.specs.Prelude.{ℕ, List, ◌∷◌, Option, Some, None}
use Rattle.su_base.specs.declared.values.Value.{Value}
use Rattle.su_base.specs.declared.values.Value.TheVariants as value
use Rattle.su_base.specs.Name.{IsName}
use Rattle.su_lex.specs.declared.signs.Sign.TheVariants as sign
use Rattle.su_where.specs.declared.operators.Op.{Op}
use Rattle.su_where.specs.declared.operators.Op.TheVariants as op
use Rattle.su_lex.specs.declared.meaning.Symbol.{Symbol}
use Rattle.su_lex.specs.declared.meaning.Symbol.TheVariants.{Word, Int, Text, Sign}
use Rattle.su_query.specs.declared.refs.Ref.{Ref as ARef}
use Rattle.su_query.specs.declared.refs.NamedOperand.{NamedOperand}
use Rattle.su_query.specs.declared.refs.NamedOperand.TheVariants.{Ref, Const}

-- the symbol of a value
abbrev pub value_sym : Value → Symbol
value_sym (value.Int n) = Int n
value_sym (value.Text content) = Text content

-- the symbol of an operator
abbrev pub op_sym : Op → Symbol
op_sym op.Equal = Sign sign.Equal
op_sym op.NotEqual = Sign sign.NotEqual
op_sym op.Less = Sign sign.Less
op_sym op.LessEqual = Sign sign.LessEqual
op_sym op.Greater = Sign sign.Greater
op_sym op.GreaterEqual = Sign sign.GreaterEqual

-- a variable and a dot, if there is one, before s
abbrev pub qualified : Option (List ℕ) → List Symbol → List Symbol
qualified None s = s
qualified (Some variable) s = Word variable ∷ Sign sign.Dot ∷ s

-- no variable, or a name
abbrev pub IsVariable : Option (List ℕ) → Type 0
IsVariable None = Unit {0}
IsVariable (Some variable) = IsName variable

-- its attribute is a name, and so is its variable where it has one
abbrev pub IsRef : ARef → Type 0
IsRef ref = IsVariable ref.variable × IsName ref.attribute

-- a ref, or any value
abbrev pub IsOperand : NamedOperand → Type 0
IsOperand (Ref ref) = IsRef ref
IsOperand (Const v) = Unit {0}
