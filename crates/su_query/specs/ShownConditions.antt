-- The symbols of a condition, as it is shown.
-- part: what stands under `and` or `or`; inner: what stands behind `not`; listed: items with a separator between each two
use Rattle.std.specs.Prelude.{Bool, true, false, if◌then◌else◌, codes, List, [], ◌∷◌, map}
use Rattle.std.specs.List.{join_by}
use Rattle.su_lex.specs.declared.meaning.Symbol.{Symbol}
use Rattle.su_lex.specs.declared.meaning.Symbol.TheVariants.{Word}
use Rattle.su_query.specs.declared.conditions.Comparison.{Comparison}
use Rattle.su_query.specs.Refs.{NamedCond}
use Rattle.su_where.specs.declared.conditions.Condition.TheOpen.{Condition-F, Compare, Not, All, Any}
use Rattle.su_where.specs.declared.conditions.Condition.TheFolds.{fold-Condition}
use Rattle.su_query.specs.ShownParts.{comparison_symbols}
use Rattle.su_lex.specs.Wordings.{in_parens}

-- a condition's symbols, and what decides on the parentheses round them: whether it is all or any of parts, or a comparison
pub record ShownCond : Type 0 where
  pub many : Bool
  pub compare : Bool
  pub symbols : List Symbol

-- a part of an `and` or an `or`: in parentheses where it is one of them itself
abbrev pub part : ShownCond → List Symbol
part x = if x.many then in_parens x.symbols else x.symbols

-- what stands behind `not`: in parentheses unless it is a comparison
abbrev pub inner : ShownCond → List Symbol
inner x = if x.compare then x.symbols else in_parens x.symbols

-- parts with a word between each two
abbrev pub joined : Symbol → List ShownCond → List Symbol
joined w parts = join_by (λ x. x) (w ∷ []) (map part parts)

-- a condition from its parts, with its form
abbrev pub shown_step : Condition-F Comparison ShownCond → ShownCond
shown_step (Compare k) = record { many = false; compare = true; symbols = comparison_symbols k }
shown_step (Not x) = record { many = false; compare = false; symbols = Word (codes "not") ∷ inner x }
shown_step (All xs) = record { many = true; compare = false; symbols = joined (Word (codes "and")) xs }
shown_step (Any xs) = record { many = true; compare = false; symbols = joined (Word (codes "or")) xs }

-- the symbols of a condition, with its form
abbrev pub shown_cond : NamedCond → ShownCond
shown_cond = fold-Condition Comparison ShownCond shown_step

-- the symbols of a condition
abbrev pub cond_symbols : NamedCond → List Symbol
cond_symbols c = (shown_cond c).symbols
