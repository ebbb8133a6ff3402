-- The places so far are exactly those at which a symbol of the first list so far equals one of the second; each symbol adds its own.
use Rattle.std.proofs.Common.{arith, sym}
use Rattle.su_base.proofs.Items.{get_or-is}
use Rattle.su_tableau.specs.declared.symbols.Sym.TheVariants.{Var}
use Rattle.su_refute.proofs.SharedPlaces.{shared_more}
use Rattle.su_refute.proofs.places.shared.Goals as goal

pub loop-first-preserved : goal.loop-first-preserved
loop-first-preserved c =
    let xs = c.args.xs.now in
    shared_more xs c.args.ys.now c.loop-first.places c.add_places.new.places c.loop-first.first c.index-xs-first.result (sym (get_or-is xs c.loop-first.first c.index-xs-first.result (Var 0) c.loop-first-test.true c.index-xs-first.is)) c.loop-first.invariant c.in_ok-add_places.ensures

pub returns : goal.returns
returns c = λ p. (
  λ h. let r = (c.loop-first.invariant p).0 h in let l = r.0 in (omega arith, r.1, r.2),
  λ h. let l = h.0 in (c.loop-first.invariant p).1 (omega arith, h.1, h.2),
)
