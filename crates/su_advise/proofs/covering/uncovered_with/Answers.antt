-- Those so far that no set has together with the attribute; the next comes to the end where none has.
use Rattle.std.proofs.Common.{◌≡◌, ◌<◌, true, false, arith}
use Rattle.std.specs.List.{list_any}
use Rattle.std.specs.FinSet.{contains}
use Rattle.su_advise.specs.Covering.{has_both}
use Rattle.su_advise.proofs.Passed.{passed_none, passed_next, passed_three}
use Rattle.su_advise.proofs.covering.uncovered_with.Goals as goal

pub loop-b-init : goal.loop-b-init
loop-b-init c = passed_none _ _ c.new-found.ensures

pub loop-b-preserved : goal.loop-b-preserved
loop-b-preserved c = passed_next (λ b. (c.args.a < b) × (contains c.args.used b ≡ true) × (list_any (has_both c.args.a b) c.args.covers.now ≡ false)) _ _ _ _ (c.is_uncovered.ensures) c.loop-b.invariant c.in_ok-push_if.ensures.ok

pub returns : goal.returns
returns c = passed_three (λ b. (c.args.a < b)) (λ b. (contains c.args.used b ≡ true)) (λ b. (list_any (has_both c.args.a b) c.args.covers.now ≡ false)) c.loop-b.b 128 c.loop-b.found (omega arith) c.loop-b.invariant
