-- The refs that are gone through are those of the condition.
use Rattle.std.proofs.Common.{◌∙◌, Bor, map, sym, ap}
use Rattle.std.specs.Prelude.{is_none}
use Rattle.std.specs.List.{list_all}
use Rattle.std.proofs.lemmas.List.Folds.{list_all-map}
use Rattle.su_query.specs.declared.refs.Ref.{Ref}
use Rattle.su_query.proofs.mentions.are_columns.Goals as goal

pub returns : goal.returns
returns c =
    c.have_no_variables.ensures ∙ sym (list_all-map (λ (ref : Ref). is_none ref.variable) (λ (r : Bor Ref). r.now) c.as_slice.result.now)
    ∙ ap (list_all (λ (ref : Ref). is_none ref.variable)) (ap (map (λ (r : Bor Ref). r.now)) c.as_slice.ensures ∙ c.in_ok-refs.ensures)
