-- How statements on one relation are read, and lists of names.
-- row form: what follows `insert` or `delete`: a name, and values in parentheses
-- No public contract cites this module.
use Rattle.std.specs.Prelude.{◌≡◌, true, ℕ, codes, List, [], ◌∷◌}
use Rattle.su_base.specs.declared.values.Value.{Value}
use Rattle.su_base.specs.Name.{IsName}
use Rattle.su_lex.specs.declared.signs.Sign.TheVariants as sign
use Rattle.su_lex.specs.declared.meaning.Symbol.{Symbol}
use Rattle.su_lex.specs.declared.meaning.Symbol.TheVariants.{Word, Text, Sign}
use Rattle.su_query.specs.inside.ReadItems.{Several, ReadsName, ReadsValue}
use Rattle.su_query.specs.inside.ReadConditions.{ReadsCond}
use Rattle.su_query.specs.Refs.{NamedCond}
use Rattle.su_query.specs.Mentions.{are_columns}

-- NAME "(" values ")"
pub record RowForm (relation : List ℕ) (row : List Value) (s : List Symbol) : Type 0 where
  pub values : List Symbol
  pub begins : s ≡ Word relation ∷ Sign sign.Open ∷ values
  pub named : IsName relation
  pub reads : Several ReadsValue row values (Sign sign.Close ∷ [])

-- NAME "where" cond, each ref a column
pub record ConditionForm (relation : List ℕ) (cond : NamedCond) (s : List Symbol) : Type 0 where
  pub rest : List Symbol
  pub begins : s ≡ Word relation ∷ Word (codes "where") ∷ rest
  pub named : IsName relation
  pub reads : ReadsCond cond rest []
  pub columns : are_columns cond ≡ true

-- NAME "from" TEXT
pub record FileForm (relation file : List ℕ) (s : List Symbol) : Type 0 where
  pub whole : s ≡ Word relation ∷ Word (codes "from") ∷ Text file ∷ []
  pub named : IsName relation

-- "(" names ")"
pub record NamesForm (names : List (List ℕ)) (s : List Symbol) : Type 0 where
  pub rest : List Symbol
  pub begins : s ≡ Sign sign.Open ∷ rest
  pub reads : Several ReadsName names rest (Sign sign.Close ∷ [])
