use Rattle.std.proofs.Common.{IsTrue}
use Rattle.std.specs.FinSet.{is_subset}
use Rattle.su_base.proofs.RemainingSets.{remaining}
use Rattle.su_maxobj.proofs.Spread.{ComesFrom, IsSpread}
use Rattle.su_maxobj.proofs.spreading.apart.Given as goal

abbrev pub invariant-passes : goal.invariant-passes
invariant-passes l = record {
  grown : IsTrue (is_subset l.fn.p l.reached);
  from : ComesFrom l.objects l.x l.fn.p l.reached;
}

abbrev pub decreases-passes : goal.decreases-passes
decreases-passes l = remaining (λ o. o) l.objects l.reached

abbrev pub invariant-loop-object : goal.invariant-loop-object
invariant-loop-object l = IsSpread l.objects l.x l.fn.p l.q l.reached l.object-index l.wider
