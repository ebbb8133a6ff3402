-- Names among the symbols of a text.
-- name: a word that isn't reserved
use Rattle.std.specs.Prelude.{◌≡◌, ℕ, List, [], ◌∷◌, ◌++◌, map}
use Rattle.su_base.specs.Name.{AreNames}
use Rattle.std.specs.List.{join_by}
use Rattle.su_lex.specs.declared.meaning.Symbol.{Symbol}
use Rattle.su_lex.specs.declared.meaning.Symbol.TheVariants.{Word, Sign}
use Rattle.su_lex.specs.declared.signs.Sign.TheVariants as sign

-- the symbol comes first
abbrev pub Begins : Symbol → List Symbol → Type 0
Begins x symbols = (others : List Symbol) × (symbols ≡ x ∷ others)

-- NAME { "," NAME }
abbrev pub names_symbols : List (List ℕ) → List Symbol
names_symbols names = join_by (λ x. x) (Sign sign.Comma ∷ []) (map (λ name. Word name ∷ []) names)

-- no names are listed at the front of these symbols, up to a symbol that is no comma
abbrev pub ListsNoNames : List Symbol → Type 0
ListsNoNames symbols = (names : List (List ℕ)) (behind : List Symbol) → AreNames names → ¬ (Begins (Sign sign.Comma) behind) → ¬ (symbols ≡ names_symbols names ++ behind)
