-- The symbols of values, refs and comparisons.
-- listed: items with a separator between each two
use Rattle.std.specs.Prelude.{List, [], ◌∷◌, ◌++◌, map}
use Rattle.std.specs.List.{join_by}
use Rattle.su_base.specs.declared.values.Value.{Value}
use Rattle.su_lex.specs.declared.signs.Sign.TheVariants as sign
use Rattle.su_lex.specs.declared.meaning.Symbol.{Symbol}
use Rattle.su_lex.specs.declared.meaning.Symbol.TheVariants.{Word, Sign}
use Rattle.su_query.specs.declared.refs.Ref.{Ref as ARef}
use Rattle.su_query.specs.declared.refs.NamedOperand.{NamedOperand}
use Rattle.su_query.specs.declared.refs.NamedOperand.TheVariants.{Ref, Const}
use Rattle.su_query.specs.declared.conditions.Comparison.{Comparison}
use Rattle.su_query.specs.Operands.{value_sym, op_sym, qualified}

-- the symbol of a value
abbrev pub value_symbols : Value → List Symbol
value_symbols v = value_sym v ∷ []

-- the symbols of an attribute with its variable
abbrev pub ref_symbols : ARef → List Symbol
ref_symbols ref = qualified ref.variable (Word ref.attribute ∷ [])

-- the symbols of a side of a comparison
abbrev pub operand_symbols : NamedOperand → List Symbol
operand_symbols (Ref ref) = ref_symbols ref
operand_symbols (Const v) = value_symbols v

-- operand op operand
abbrev pub comparison_symbols : Comparison → List Symbol
comparison_symbols k = operand_symbols k.left ++ op_sym k.op ∷ operand_symbols k.right

-- values with a comma between each two
abbrev pub values_symbols : List Value → List Symbol
values_symbols row = join_by (λ x. x) (Sign sign.Comma ∷ []) (map value_symbols row)

-- refs with a comma between each two
abbrev pub refs_symbols : List ARef → List Symbol
refs_symbols refs = join_by (λ x. x) (Sign sign.Comma ∷ []) (map ref_symbols refs)
