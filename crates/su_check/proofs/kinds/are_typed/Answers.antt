-- At the start no kind is found, so every typing agrees with it; kinds found for all cells make a typing, and a refusal leaves none.
use Rattle.std.proofs.Common.{None, Some, refl, ◌∙◌}
use Rattle.std.proofs.lemmas.Bool.{true_from_ne_false}
use Rattle.su_check.proofs.WellTyped.{cells_typed, nothing_found}
use Rattle.su_check.proofs.kinds.are_typed.Goals as goal

pub returns : goal.returns
returns c =
    let none = c.as_mut_slice.ensures.value ∙ c.in_ok-found.ensures.items_if_clones_equal (elim [ None ↦ λ is. refl | Some k ↦ λ is. absurd is ]) in (
      λ all. cells_typed c.args.kinds.now c.args.rows.now c.args.variables.now _ c.requires.widths (c.all_have_kinds.ensures.yes all),
      λ typed. true_from_ne_false c.all_have_kinds.result (λ no. c.all_have_kinds.ensures.no no typed.0 (nothing_found typed.0 c.args.variables.now _ _ none) typed.1),
    )
