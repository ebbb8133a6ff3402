-- None of the objects so far may join, whether it was ruled out before or tried now; so one that may is the first, and at the end the set is full.
use Rattle.std.proofs.Common.{below_more, refl, sym, arith}
use Rattle.std.proofs.lemmas.Bool.{false≢true}
use Rattle.su_maxobj.specs.AdjoinableObjects.{Adjoinable}
use Rattle.su_maxobj.proofs.GrowthSteps.{not_adjoinable_push}
use Rattle.su_maxobj.proofs.growing.first_adjoinable.Goals as goal

pub loop-o-init : goal.loop-o-init
loop-o-init c = record { earlier = λ k h. absurd (omega arith); ruled_out = c.requires.ruled_out }

pub loop-o-preserved-then-contains : goal.loop-o-preserved-then-contains
loop-o-preserved-then-contains c = record {
  earlier = below_more (λ k. ¬ Adjoinable c.args.fds.now c.args.objects.now c.args.have k) _ c.loop-o.invariant.earlier (c.loop-o.invariant.ruled_out _ (sym c.if-contains.ensures));
  ruled_out = c.loop-o.invariant.ruled_out;
}

pub returns-then-joins-clause-first : goal.returns-then-joins-clause-first
returns-then-joins-clause-first c = record { in_range = c.loop-o-test.true; adjoinable = c.if-joins.ensures.0 refl; earlier = c.loop-o.invariant.earlier }

pub returns-then-joins-clause-ruled_out : goal.returns-then-joins-clause-ruled_out
returns-then-joins-clause-ruled_out c = c.loop-o.invariant.ruled_out

pub loop-o-preserved : goal.loop-o-preserved
loop-o-preserved c = record {
  earlier = below_more (λ k. ¬ Adjoinable c.args.fds.now c.args.objects.now c.args.have k) _ c.loop-o.invariant.earlier (λ adj. false≢true (c.if-joins.ensures.1 adj));
  ruled_out = not_adjoinable_push _ _ _ _ _ _ c.loop-o.invariant.ruled_out (λ adj. false≢true (c.if-joins.ensures.1 adj)) c.insert.ensures;
}

pub returns-clause-first : goal.returns-clause-first
returns-clause-first c k h = c.loop-o.invariant.earlier k (omega arith)

pub returns-clause-ruled_out : goal.returns-clause-ruled_out
returns-clause-ruled_out c = c.loop-o.invariant.ruled_out
