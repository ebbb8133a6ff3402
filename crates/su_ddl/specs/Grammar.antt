-- The forms of definitions.
-- definition: an attribute, a relation, an object, a dependency or a declared maximal object; its symbols are its one spelling
use Rattle.std.specs.Prelude.{◌≡◌, ℕ, List, [], ◌∷◌, ◌++◌, map, codes}
use Rattle.su_base.specs.declared.values.Column.{Column}
use Rattle.std.specs.List.{join_by}
use Rattle.su_lex.specs.declared.meaning.Symbol.{Symbol}
use Rattle.su_lex.specs.declared.meaning.Symbol.TheVariants.{Word, Sign}
use Rattle.su_lex.specs.declared.signs.Sign.TheVariants as sign
use Rattle.su_lex.specs.Names.{names_symbols}
use Rattle.su_lex.specs.Symbols.{Symbols}
use Rattle.su_schema.specs.declared.definitions.Definition.{Definition}
use Rattle.su_schema.specs.declared.definitions.Definition.TheVariants.{Attribute, Relation, Object, Fd, Maximal}
use Rattle.su_schema.specs.WellNamed.{IsWellNamed}
use Rattle.su_lex.specs.Wordings.{kind_symbol}

-- NAME kind
abbrev pub column_symbols : Column → List Symbol
column_symbols c = Word c.name ∷ kind_symbol c.kind ∷ []

-- NAME kind { "," NAME kind }
abbrev pub columns_symbols : List Column → List Symbol
columns_symbols columns = join_by (λ x. x) (Sign sign.Comma ∷ []) (map column_symbols columns)

-- "(" NAME { "," NAME } ")", and what follows
abbrev pub in_parens : List (List ℕ) → List Symbol → List Symbol
in_parens names behind = Sign sign.Open ∷ (names_symbols names ++ Sign sign.Close ∷ behind)

-- the symbols of a definition, form by form
abbrev pub definition_symbols : Definition → List Symbol
definition_symbols (Attribute name kind) = Word (codes "attribute") ∷ Word name ∷ kind_symbol kind ∷ []
definition_symbols (Relation name columns) = Word (codes "relation") ∷ Word name ∷ Sign sign.Open ∷ (columns_symbols columns ++ Sign sign.Close ∷ [])
definition_symbols (Object name relation pairs) =
    Word (codes "object") ∷ Word name ∷ in_parens (map (λ p. p.attribute) pairs) (Word (codes "from") ∷ Word relation ∷ in_parens (map (λ p. p.column) pairs) [])
definition_symbols (Fd left right) = Word (codes "fd") ∷ (names_symbols left ++ Sign sign.Arrow ∷ names_symbols right)
definition_symbols (Maximal objects) = Word (codes "maximal") ∷ in_parens objects []

-- the symbols are this definition: its names are names of the language, and its lists are not empty
abbrev pub IsForm : List Symbol → Definition → Type 0
IsForm symbols definition = (symbols ≡ definition_symbols definition) × IsWellNamed definition

-- the text is this definition
abbrev pub IsDefinition : List ℕ → Definition → Type 0
IsDefinition text definition = (symbols : List Symbol) × Symbols text symbols × IsForm symbols definition
