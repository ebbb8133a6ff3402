-- The label and then the decimal count are one text, as appending associates.
use Rattle.std.proofs.Common.{◌++◌, ap, ◌∙◌, append_assoc, codes, decimal}
use Rattle.std.proofs.lemmas.Result.{on_ok_weaker}
use Rattle.su_show.proofs.support_lines.push_candidates.Goals as goal

pub returns : goal.returns
returns c =
    on_ok_weaker c.push_number.result
    (λ e. e ∙ ap (λ text. text ++ decimal c.args.count) c.in_ok-push.ensures ∙ append_assoc c.args.out.now.items (codes " candidates ") (decimal c.args.count))
    c.push_number.ensures
