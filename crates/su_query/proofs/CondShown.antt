-- What a condition of each variant is shown as.
use Rattle.std.proofs.Common.{◌≡◌, Bool, true, false, List, ◌∷◌, length, map, ap, sym, ◌∙◌, codes}
use Rattle.std.specs.Prelude.{◌==◌}
use Rattle.std.proofs.lemmas.List.{length-map}
use Rattle.su_lex.specs.declared.meaning.Symbol.TheVariants.{Word}
use Rattle.su_query.specs.declared.conditions.Comparison.{Comparison}
use Rattle.su_query.specs.Refs.{NamedCond}
use Rattle.su_where.specs.declared.conditions.Condition.TheOpen as open'
use Rattle.su_where.specs.declared.conditions.Condition.TheVariants.{Compare, Not, All, Any, rolls-Compare, rolls-Not, rolls-All, rolls-Any}
use Rattle.su_where.specs.declared.conditions.Condition.TheFolds.{fold-roll-Condition}
use Rattle.su_query.specs.ShownConditions.{ShownCond, shown_cond, shown_step, joined, inner}
use Rattle.su_query.specs.ShownParts.{comparison_symbols}
use Rattle.su_query.specs.Shown.{is_nothing, nothing_step}

pub shown-Compare : (k : Comparison) → shown_cond (Compare k) ≡ record { many = false; compare = true; symbols = comparison_symbols k }
shown-Compare k = ap shown_cond (sym (rolls-Compare k)) ∙ fold-roll-Condition Comparison ShownCond shown_step (open'.Compare k)

pub shown-Not : (c : NamedCond) → shown_cond (Not c) ≡ record { many = false; compare = false; symbols = Word (codes "not") ∷ inner (shown_cond c) }
shown-Not c = ap shown_cond (sym (rolls-Not c)) ∙ fold-roll-Condition Comparison ShownCond shown_step (open'.Not c)

pub shown-All : (parts : List NamedCond) → shown_cond (All parts) ≡ record { many = true; compare = false; symbols = joined (Word (codes "and")) (map shown_cond parts) }
shown-All parts = ap shown_cond (sym (rolls-All parts)) ∙ fold-roll-Condition Comparison ShownCond shown_step (open'.All parts)

pub shown-Any : (parts : List NamedCond) → shown_cond (Any parts) ≡ record { many = true; compare = false; symbols = joined (Word (codes "or")) (map shown_cond parts) }
shown-Any parts = ap shown_cond (sym (rolls-Any parts)) ∙ fold-roll-Condition Comparison ShownCond shown_step (open'.Any parts)

pub nothing-Compare : (k : Comparison) → is_nothing (Compare k) ≡ false
nothing-Compare k = ap is_nothing (sym (rolls-Compare k)) ∙ fold-roll-Condition Comparison Bool nothing_step (open'.Compare k)

pub nothing-Not : (c : NamedCond) → is_nothing (Not c) ≡ false
nothing-Not c = ap is_nothing (sym (rolls-Not c)) ∙ fold-roll-Condition Comparison Bool nothing_step (open'.Not c)

pub nothing-All : (parts : List NamedCond) → is_nothing (All parts) ≡ (length parts == 0)
nothing-All parts = ap is_nothing (sym (rolls-All parts)) ∙ fold-roll-Condition Comparison Bool nothing_step (open'.All parts) ∙ ap (λ n. n == 0) (length-map parts is_nothing)

pub nothing-Any : (parts : List NamedCond) → is_nothing (Any parts) ≡ false
nothing-Any parts = ap is_nothing (sym (rolls-Any parts)) ∙ fold-roll-Condition Comparison Bool nothing_step (open'.Any parts)

-- for `grind`
pub ruleset layers = (shown-Compare, shown-Not, shown-All, shown-Any, nothing-Compare, nothing-Not, nothing-All, nothing-Any)
