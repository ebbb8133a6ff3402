-- The lines of the one kind, and behind them those of the other.
use Rattle.std.proofs.Common.{◌++◌, refl}
use Rattle.std.proofs.lemmas.Result.{on_ok_weaker}
use Rattle.su_report.proofs.Texts.{two_added}
use Rattle.su_report.proofs.pair_parts.push_pairs_of.Goals as goal

pub returns : goal.returns
returns c =
    let apart = c.in_ok-push_apart.ensures in
    on_ok_weaker c.push_together.result
    (λ together. (apart.0 ++ together.0, two_added c.args.out.now.items apart.0 together.0 c.push_apart.new.out.items c.push_together.new.out.items apart.1 together.1, (apart.0, together.0, refl, apart.2, together.2)))
    c.push_together.ensures
