-- Both tests are asked one after the other, so both hold where the answer is yes.
use Rattle.std.proofs.Common.{◌≡◌, ◌∙◌, true, sym, rules}
use Rattle.su_min.proofs.matrix.is_through.Goals as goal

pub returns : goal.returns
returns c = λ yes.
    let one : c.args.first ≡ true = search rules in
    (one, sym c.is_marked.ensures ∙ yes)
