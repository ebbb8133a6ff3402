-- The grammar of statements: which symbols are which statement.
-- query: "retrieve" "(" ref { "," ref } ")" [ "where" cond ]
use Rattle.std.specs.Prelude.{◌≡◌, ◌⊎◌, true, ◌<◌, codes, List, [], ◌∷◌, ◌++◌, length}
use Rattle.std.specs.List.{AllByRecursion}
use Rattle.su_base.specs.Name.{IsName, AreNames}
use Rattle.su_lex.specs.declared.meaning.Symbol.{Symbol}
use Rattle.su_lex.specs.declared.meaning.Symbol.TheVariants.{Word, Text}
use Rattle.su_lex.specs.Names.{names_symbols}
use Rattle.su_lex.specs.Wordings.{in_parens}
use Rattle.su_where.specs.declared.conditions.Condition.TheVariants.{All}
use Rattle.su_query.specs.declared.statements.Query.{Query as AQuery}
use Rattle.su_query.specs.declared.statements.Statement.{Statement}
use Rattle.su_query.specs.declared.statements.Statement.TheVariants.{Insert, Delete, DeleteWhere, Load, Print, Schema, Closure, Retrieve, Explain, Certify, Support, Compare, Window}
use Rattle.su_query.specs.Refs.{NamedCond}
use Rattle.su_query.specs.Mentions.{are_columns}
use Rattle.su_query.specs.Operands.{IsRef}
use Rattle.su_query.specs.ShownParts.{values_symbols, refs_symbols}
use Rattle.su_query.specs.Grammar.{IsCond}

-- [ "where" cond ]; without it the condition is all of nothing
abbrev pub IsWhere : NamedCond → List Symbol → Type 0
IsWhere c s = ((c ≡ All []) × (s ≡ [])) ⊎ ((t : List Symbol) × IsCond c t × (s ≡ Word (codes "where") ∷ t))

-- the symbols are this query
pub record IsQuery (q : AQuery) (s : List Symbol) : Type 0 where
  pub some : 0 < length q.outputs
  pub refs : AllByRecursion IsRef q.outputs
  pub condition : List Symbol
  pub wanted : IsWhere q.cond condition
  pub whole : s ≡ Word (codes "retrieve") ∷ (in_parens (refs_symbols q.outputs) ++ condition)

-- the symbols are this statement
abbrev pub IsForm : Statement → List Symbol → Type 0
IsForm (Insert relation row) s = IsName relation × (0 < length row) × (s ≡ Word (codes "insert") ∷ Word relation ∷ in_parens (values_symbols row))
IsForm (Delete relation row) s = IsName relation × (0 < length row) × (s ≡ Word (codes "delete") ∷ Word relation ∷ in_parens (values_symbols row))
IsForm (DeleteWhere relation c) s = IsName relation × (are_columns c ≡ true) × (t : List Symbol) × IsCond c t × (s ≡ Word (codes "delete") ∷ Word relation ∷ Word (codes "where") ∷ t)
IsForm (Load relation file) s = IsName relation × (s ≡ Word (codes "load") ∷ Word relation ∷ Word (codes "from") ∷ Text file ∷ [])
IsForm (Print relation) s = IsName relation × (s ≡ Word (codes "print") ∷ Word relation ∷ [])
IsForm Schema s = s ≡ Word (codes "schema") ∷ []
IsForm (Closure names) s = AreNames names × (s ≡ Word (codes "closure") ∷ in_parens (names_symbols names))
IsForm (Retrieve q) s = IsQuery q s
IsForm (Explain q) s = (t : List Symbol) × IsQuery q t × (s ≡ Word (codes "explain") ∷ t)
IsForm (Certify q) s = (t : List Symbol) × IsQuery q t × (s ≡ Word (codes "explain") ∷ Word (codes "with") ∷ t)
IsForm (Support q) s = (t : List Symbol) × IsQuery q t × (s ≡ Word (codes "explain") ∷ Word (codes "from") ∷ t)
IsForm (Compare first second) s = (t : List Symbol) × (u : List Symbol) × IsQuery first t × IsQuery second u × (s ≡ Word (codes "compare") ∷ (in_parens t ++ Word (codes "with") ∷ in_parens u))
IsForm (Window names) s = AreNames names × (s ≡ Word (codes "window") ∷ in_parens (names_symbols names))
