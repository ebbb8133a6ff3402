-- Wordings that several grammars and texts share: the word of a kind, symbols in parentheses, numbers behind spaces.
-- kind: of an attribute, a column or a value
use Rattle.std.specs.Prelude.{ℕ, List, [], ◌∷◌, ◌++◌, codes, flat_map, decimal}
use Rattle.su_base.specs.declared.values.Kind.{Kind}
use Rattle.su_base.specs.declared.values.Kind.TheVariants as kind
use Rattle.su_lex.specs.declared.meaning.Symbol.{Symbol}
use Rattle.su_lex.specs.declared.meaning.Symbol.TheVariants.{Word, Sign}
use Rattle.su_lex.specs.declared.signs.Sign.TheVariants as sign

-- "int" | "text"
abbrev pub kind_symbol : Kind → Symbol
kind_symbol kind.Int = Word (codes "int")
kind_symbol kind.Text = Word (codes "text")

-- symbols in parentheses
abbrev pub in_parens : List Symbol → List Symbol
in_parens s = Sign sign.Open ∷ (s ++ Sign sign.Close ∷ [])

-- each number behind a space
abbrev pub numbers_text : List ℕ → List ℕ
numbers_text numbers = flat_map (λ n. 32 ∷ decimal n) numbers
