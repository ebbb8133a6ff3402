-- How statements are read, each to the end of its symbols.
-- st: a statement; s: all its symbols; t: those behind the words that it begins with; form: how these are written
-- relation, file, names: lists of bytes; q, first, second: queries over names; cond: a condition over names
-- No public contract cites this module.
use Rattle.std.specs.Prelude.{◌≡◌, ℕ, codes, List, [], ◌∷◌}
use Rattle.su_base.specs.declared.values.Value.{Value}
use Rattle.su_base.specs.Name.{IsName}
use Rattle.su_lex.specs.declared.meaning.Symbol.{Symbol}
use Rattle.su_lex.specs.declared.meaning.Symbol.TheVariants.{Word}
use Rattle.su_query.specs.declared.statements.Query.{Query as AQuery}
use Rattle.su_query.specs.declared.statements.Statement.{Statement}
use Rattle.su_query.specs.declared.statements.Statement.TheVariants.{Insert, Delete, DeleteWhere, Load, Print, Schema, Closure, Retrieve, Explain, Certify, Support, Compare, Window}
use Rattle.su_query.specs.Refs.{NamedCond}
use Rattle.su_query.specs.inside.ReadRelations.{RowForm, ConditionForm, FileForm, NamesForm}
use Rattle.su_query.specs.inside.ReadQueries.{QueryForm, PairForm}

-- the symbols are read as this statement, to their end
pub data ReadsForm : Statement → List Symbol → Type 0 where
  insert : (st : Statement) (relation : List ℕ) (row : List Value) (s t : List Symbol) → st ≡ Insert relation row → s ≡ Word (codes "insert") ∷ t → RowForm relation row t → ReadsForm st s
  delete : (st : Statement) (relation : List ℕ) (row : List Value) (s t : List Symbol) → st ≡ Delete relation row → s ≡ Word (codes "delete") ∷ t → RowForm relation row t → ReadsForm st s
  delete_where : (st : Statement) (relation : List ℕ) (cond : NamedCond) (s t : List Symbol) → st ≡ DeleteWhere relation cond → s ≡ Word (codes "delete") ∷ t → ConditionForm relation cond t → ReadsForm st s
  load : (st : Statement) (relation file : List ℕ) (s t : List Symbol) → st ≡ Load relation file → s ≡ Word (codes "load") ∷ t → FileForm relation file t → ReadsForm st s
  print : (st : Statement) (relation : List ℕ) (s : List Symbol) → st ≡ Print relation → s ≡ Word (codes "print") ∷ Word relation ∷ [] → IsName relation → ReadsForm st s
  schema : (st : Statement) (s : List Symbol) → st ≡ Schema → s ≡ Word (codes "schema") ∷ [] → ReadsForm st s
  closure : (st : Statement) (names : List (List ℕ)) (s t : List Symbol) → st ≡ Closure names → s ≡ Word (codes "closure") ∷ t → NamesForm names t → ReadsForm st s
  retrieve : (st : Statement) (q : AQuery) (s : List Symbol) → st ≡ Retrieve q → QueryForm q s → ReadsForm st s
  explain : (st : Statement) (q : AQuery) (s t : List Symbol) → st ≡ Explain q → s ≡ Word (codes "explain") ∷ t → QueryForm q t → ReadsForm st s
  certify : (st : Statement) (q : AQuery) (s t : List Symbol) → st ≡ Certify q → s ≡ Word (codes "explain") ∷ Word (codes "with") ∷ t → QueryForm q t → ReadsForm st s
  support : (st : Statement) (q : AQuery) (s t : List Symbol) → st ≡ Support q → s ≡ Word (codes "explain") ∷ Word (codes "from") ∷ t → QueryForm q t → ReadsForm st s
  compare : (st : Statement) (first second : AQuery) (s t : List Symbol) → st ≡ Compare first second → s ≡ Word (codes "compare") ∷ t → PairForm first second t → ReadsForm st s
  window : (st : Statement) (names : List (List ℕ)) (s t : List Symbol) → st ≡ Window names → s ≡ Word (codes "window") ∷ t → NamesForm names t → ReadsForm st s
