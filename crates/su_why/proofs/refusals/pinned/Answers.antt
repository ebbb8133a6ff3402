-- The next output is pinned to the value beside it, up to the end of the shorter of the two.
use Rattle.std.proofs.Common.{◌<◌, length, arith}
use Rattle.su_base.specs.declared.values.Value.{Value}
use Rattle.su_tableau.specs.declared.symbols.Sym.{Sym}
use Rattle.su_why.proofs.Clashes.{read_at}
use Rattle.su_why.proofs.Pinned.{pins_none, pins_more, pins_all}
use Rattle.su_why.proofs.refusals.pinned.Goals as goal

pub loop-i-init : goal.loop-i-init
loop-i-init c = pins_none c.args.outputs.now c.args.row.now _ c.new-list.ensures

pub loop-i-preserved : goal.loop-i-preserved
loop-i-preserved c =
    let outputs = c.args.outputs.now in let h = c.args.row.now in let i = c.loop-i.i in
    let x : Sym = c.index-outputs-i.result in
    let w : Value = c.index-row-i.result in
    let m = c.min-both.ensures in let t = c.loop-i-test.true in
    let low : i < length outputs = omega (arith, m, t) in
    let low_h : i < length h = omega (arith, m, t) in
    pins_more outputs h i c.loop-i.list _ x w c.in_ok-one.one (read_at outputs i x low c.index-outputs-i.is) (read_at h i w low_h c.index-row-i.is) c.in_ok-one.ensures c.in_ok-push.ensures.ok c.loop-i.invariant

pub returns : goal.returns
returns c =
    let m = c.min-both.ensures in let t = c.loop-i-test.false in
    pins_all c.args.outputs.now c.args.row.now c.loop-i.i c.loop-i.list (omega (arith, m, t)) c.loop-i.invariant
