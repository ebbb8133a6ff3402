-- Columns among the symbols of a definition.
-- column: a name and a kind; symbol: what a token of the language means
-- No public contract cites this module.
use Rattle.std.specs.Prelude.{◌≡◌, List, ◌∷◌, ◌++◌}
use Rattle.std.specs.List.{flat_map}
use Rattle.su_base.specs.Name.{AreNames}
use Rattle.su_base.specs.declared.values.Column.{Column}
use Rattle.su_lex.specs.declared.meaning.Symbol.{Symbol}
use Rattle.su_lex.specs.declared.meaning.Symbol.TheVariants.{Sign}
use Rattle.su_lex.specs.declared.signs.Sign.TheVariants as sign
use Rattle.su_lex.specs.Names.{Begins}
use Rattle.su_schema.specs.Entries.{column_names}
use Rattle.su_ddl.specs.Grammar.{columns_symbols}

-- names or columns, by their symbols, that each stand behind a comma
abbrev pub behind_commas : List (List Symbol) → List Symbol
behind_commas items = flat_map (λ symbols. Sign sign.Comma ∷ symbols) items

-- no columns are listed at the front of these symbols, up to a symbol that is no comma
abbrev pub ListsNoColumns : List Symbol → Type 0
ListsNoColumns symbols =
    (columns : List Column) (behind : List Symbol) → AreNames (column_names columns) → ¬ (Begins (Sign sign.Comma) behind) → ¬ (symbols ≡ columns_symbols columns ++ behind)
