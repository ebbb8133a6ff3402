-- All numbers below the size are a set.
use Rattle.std.proofs.Common.{sym, ap, subst, ◌∙◌}
use Rattle.std.specs.List.{range_with_len}
use Rattle.su_blame.specs.Sets.{AreRising}
use Rattle.su_blame.proofs.Parts.{rising_whole}
use Rattle.su_blame.proofs.blaming.whole_fails.Goals as goal

pub fails-requires : goal.fails-requires
fails-requires g c =
    let n = g.T.Trial.size c.args.trial.now in
    subst (AreRising n 0) (sym (c.as_slice.ensures ∙ c.in_ok-all.ensures ∙ ap (range_with_len 0) c.size.ensures)) (rising_whole n)
