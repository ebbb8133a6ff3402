-- A condition fits the values where its parts do, and its truth is that of all or of some of its parts; so each call on a part is allowed and says its share.
use Rattle.std.proofs.Common.{List, length, rules, ap, subst, sym, ◌∙◌, All as Each}
use Rattle.std.specs.List.{list_all, list_any}
use Rattle.su_where.specs.declared.conditions.Condition.{the_lemmas}
use Rattle.su_where.specs.declared.conditions.Condition.TheVariants.{Not}
use Rattle.su_where.specs.Truth.{Cond, truth_of}
use Rattle.su_where.specs.Places.{Fits}
use Rattle.su_where.proofs.Layers.{truth_of-All, truth_of-Any, fits_compare, fits_not, fits_all, fits_any}
use Rattle.su_where.proofs.conditions.+truth.Goals as goal

pub truth-holds-requires : goal.truth-holds-requires
truth-holds-requires t c = fits_compare _ c.args.cond.now _ c.in-Compare.is c.requires.places

pub truth-truth-requires : goal.truth-truth-requires
truth-truth-requires t c = (search (rules, the_lemmas), fits_not (length c.args.values.now) c.args.cond.now c.get.result.now (c.in-Not.is ∙ sym (ap Not c.get.ensures)) c.requires.places)

pub truth-all_true-requires : goal.truth-all_true-requires
truth-all_true-requires t c =
    let n = length c.args.values.now in
    (search (rules, the_lemmas), subst (λ (cs : List Cond). Each (Fits n) cs) (sym c.as_slice.ensures) (fits_all n c.args.cond.now c.in-All.parts c.in-All.is c.requires.places))

pub truth-any_true-requires : goal.truth-any_true-requires
truth-any_true-requires t c =
    let n = length c.args.values.now in
    (search (rules, the_lemmas), subst (λ (cs : List Cond). Each (Fits n) cs) (sym c.as_slice-in-Any.ensures) (fits_any n c.args.cond.now c.in-Any.parts c.in-Any.is c.requires.places))

pub truth-returns-in-All : goal.truth-returns-in-All
truth-returns-in-All t c =
    let vs = c.args.values.now in
    c.all_true.ensures ∙ ap (λ (cs : List Cond). list_all (λ p. truth_of p vs) cs) c.as_slice.ensures ∙ sym (truth_of-All c.in-All.parts vs) ∙ sym (ap (λ p. truth_of p vs) c.in-All.is)

pub truth-returns-in-Any : goal.truth-returns-in-Any
truth-returns-in-Any t c =
    let vs = c.args.values.now in
    c.any_true.ensures ∙ ap (λ (cs : List Cond). list_any (λ p. truth_of p vs) cs) c.as_slice-in-Any.ensures ∙ sym (truth_of-Any c.in-Any.parts vs) ∙ sym (ap (λ p. truth_of p vs) c.in-Any.is)
