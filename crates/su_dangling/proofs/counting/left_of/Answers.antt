-- What is kept is what the test keeps.
use Rattle.std.proofs.Common.{List, not, ap, ◌∙◌, rules}
use Rattle.std.proofs.lemmas.Fn.{filter_same}
use Rattle.su_base.specs.declared.values.Value.{Value}
use Rattle.su_dangling.specs.inside.Among.{is_one, without}
use Rattle.su_dangling.proofs.counting.left_of.Goals as goal

pub returns : goal.returns
returns c =
    c.from_vec.ensures ∙ filter_same _ (λ row. not (is_one c.args.others.now row)) _ (λ x b f' k. search rules) _ _ c.retain.ensures.filtered
    ∙ ap (λ (rows : List (List Value)). without rows c.args.others.now) c.into_vec-left.ensures
