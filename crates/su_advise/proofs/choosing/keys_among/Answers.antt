-- The keys so far are those of which the rest is among the sets so far.
use Rattle.std.proofs.Common.{◌∙◌, arith}
use Rattle.std.specs.FinSet.{empty}
use Rattle.std.proofs.lemmas.List.{get_or_default}
use Rattle.su_advise.proofs.KeyRounds.{keys_none, keys_next, keys_all}
use Rattle.su_advise.proofs.choosing.keys_among.Goals as goal

pub loop-extra-init : goal.loop-extra-init
loop-extra-init c = let e = c.requires.extras in keys_none _ _ _ e.free c.requires.needed e.free_are _ e.differ e.sets _ c.new-keys.ensures

pub loop-extra-preserved : goal.loop-extra-preserved
loop-extra-preserved c =
    let e = c.requires.extras in
    keys_next _ _ _ e.free c.requires.needed e.free_are _ e.differ e.sets _ c.loop-extra-test.true _ c.loop-extra.invariant _ _ (c.extra-item.is ∙ get_or_default c.args.extras.now c.loop-extra.extra-index c.extra-item.result empty c.loop-extra-test.true) c.union-set.ensures _ _ c.is_key.ensures c.in_ok-push_if.ensures.ok

pub returns : goal.returns
returns c = let e = c.requires.extras in keys_all _ _ _ e.free c.requires.needed e.free_are _ e.differ e.sets _ _ (omega arith) c.loop-extra.invariant
