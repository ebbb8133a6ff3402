-- A row whose value doesn't meet the bound meets no value of the other variable, so each cut loses only rows that the comparison excludes.
use Rattle.std.proofs.Common.{List, ℕ}
use Rattle.su_exec.specs.inside.Edges.{Edge}
use Rattle.su_exec.specs.inside.Ranges.{IsBound, meets_code}
use Rattle.su_exec.proofs.CutEdges.{cut_to, lost_on}
use Rattle.su_exec.proofs.narrowing.cut_by.Goals as goal

pub loop-i-preserved : goal.loop-i-preserved
loop-i-preserved c = lost_on (meets_code c.args.codes.now c.args.x c.args.op c.in-Some-bound_for.bound) c.args.edges.now.items c.loop-i.edges.items c.cut_edge.new.edges.items c.loop-i.invariant c.in_ok-cut_edge.ensures

pub returns : goal.returns
returns c =
    let values = c.args.codes.now in
    let es : List (Edge ℕ) = c.args.edges.now.items in
    let bounds : IsBound values es c.args.y c.in-Some.side c.in-Some-bound_for.bound = rw c.deref.ensures.value at c.in-Some-bound_for.ensures in
    cut_to values es c.loop-i.edges.items c.args.x c.args.y c.in-Some-bound_for.bound c.args.op c.in-Some.side c.in-Some.ensures bounds c.loop-i.invariant
