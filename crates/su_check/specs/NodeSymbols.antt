-- The symbols of the numbers, symbols and nodes of a certificate.
-- node: a row, and its branches in parentheses
use Rattle.std.specs.Prelude.{ℕ, pos, List, ◌∷◌, flat_map, decimal}
use Rattle.su_base.specs.declared.values.Value.TheVariants as value
use Rattle.su_lex.specs.declared.meaning.Symbol.{Symbol}
use Rattle.su_lex.specs.declared.meaning.Symbol.TheVariants.{Word, Int, Text}
use Rattle.su_tableau.specs.declared.symbols.Sym.{Sym}
use Rattle.su_tableau.specs.declared.symbols.Sym.TheVariants.{Const, Var}
use Rattle.su_check.specs.declared.nodes.Node.{Node, fold-Node}
use Rattle.su_check.specs.declared.nodes.Branch.TheOpen.{Branch-F, Node-F}
use Rattle.su_lex.specs.Wordings.{in_parens}

-- a number as a symbol
abbrev pub number : ℕ → Symbol
number n = Int (pos n)

-- a variable is one word: v and its number
abbrev pub sym_symbol : Sym → Symbol
sym_symbol (Var k) = Word (118 ∷ decimal k)
sym_symbol (Const (value.Int n)) = Int n
sym_symbol (Const (value.Text content)) = Text content

-- NUMBER node
abbrev pub branch_step : Branch-F (List Symbol) (List Symbol) → List Symbol
branch_step b = number b.target ∷ b.node

-- "(" NUMBER { NUMBER node } ")"
abbrev pub node_step : Node-F (List Symbol) (List Symbol) → List Symbol
node_step n = in_parens (number n.row ∷ flat_map (λ b. b) n.next)

-- the symbols of a node: its row, and its branches in parentheses
abbrev pub node_symbols : Node → List Symbol
node_symbols = fold-Node (List Symbol) (List Symbol) branch_step node_step
