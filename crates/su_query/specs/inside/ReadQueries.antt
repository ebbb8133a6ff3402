-- How queries are read. "From s to r": the symbols s are that, and then r.
-- enclosed: in parentheses; pair: two enclosed queries, with `with` between them
-- No public contract cites this module.
use Rattle.std.specs.Prelude.{◌≡◌, codes, List, [], ◌∷◌}
use Rattle.su_lex.specs.declared.signs.Sign.TheVariants as sign
use Rattle.su_lex.specs.declared.meaning.Symbol.{Symbol}
use Rattle.su_lex.specs.declared.meaning.Symbol.TheVariants.{Word, Sign}
use Rattle.su_where.specs.declared.conditions.Condition.TheVariants.{All}
use Rattle.su_query.specs.declared.statements.Query.{Query as AQuery}
use Rattle.su_lex.specs.Names.{Begins}
use Rattle.su_query.specs.inside.ReadItems.{Several, ReadsRef}
use Rattle.su_query.specs.inside.ReadConditions.{ReadsCond}
use Rattle.su_query.specs.Refs.{NamedCond}

-- [ "where" cond ], from s to r
pub data ReadsWhere : NamedCond → List Symbol → List Symbol → Type 0 where
  nothing : (c : NamedCond) (s r : List Symbol) → s ≡ r → c ≡ All [] → ¬ (Begins (Word (codes "where")) s) → ReadsWhere c s r
  condition : (c : NamedCond) (s t r : List Symbol) → s ≡ Word (codes "where") ∷ t → ReadsCond c t r → ReadsWhere c s r

-- "retrieve" "(" ref { "," ref } ")" [ "where" cond ], from s to r
pub record ReadsQuery (q : AQuery) (s r : List Symbol) : Type 0 where
  pub refs : List Symbol
  pub rest : List Symbol
  pub begins : s ≡ Word (codes "retrieve") ∷ Sign sign.Open ∷ refs
  pub reads : Several ReadsRef q.outputs refs (Sign sign.Close ∷ rest)
  pub wanted : ReadsWhere q.cond rest r

-- a query alone
abbrev pub QueryForm : AQuery → List Symbol → Type 0
QueryForm q s = ReadsQuery q s []

-- "(" query ")", from s to r
pub record ReadsEnclosed (q : AQuery) (s r : List Symbol) : Type 0 where
  pub rest : List Symbol
  pub begins : s ≡ Sign sign.Open ∷ rest
  pub reads : ReadsQuery q rest (Sign sign.Close ∷ r)

-- "(" query ")" "with" "(" query ")"
pub record PairForm (first second : AQuery) (s : List Symbol) : Type 0 where
  pub rest : List Symbol
  pub before : ReadsEnclosed first s (Word (codes "with") ∷ rest)
  pub behind : ReadsEnclosed second rest []
