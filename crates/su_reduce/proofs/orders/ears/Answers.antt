-- An order of the edges that are left makes, behind the order so far, one of all edges; and where the edges are acyclic those that are left have one, so that edges without an ear show a cycle.
use Rattle.std.proofs.Common.{◌≡◌, ◌<◌, length, true≢false, subst, sym, ◌∙◌, arith}
use Rattle.std.proofs.lemmas.List.{length-map}
use Rattle.std.specs.Ordering.{nat_cmp}
use Rattle.std.specs.FinSet.{FinSet, len}
use Rattle.su_reduce.specs.declared.edges.Edge.{Edge}
use Rattle.su_reduce.specs.Ears.{cells_of}
use Rattle.su_reduce.specs.inside.Partners.{In, without, AreTable}
use Rattle.su_reduce.proofs.Rounds.{IsSoFar, Reaches, so_far_first, reaches_first, so_far_next, reaches_next, ear_by, stuck, none_left, in_without, len_without}
use Rattle.su_reduce.proofs.orders.ears.Goals as goal

pub loop-left-init : goal.loop-left-init
loop-left-init c =
    let edges = cells_of c.args.edges.now in
    let left = c.all_below-left.result in
    let long : length c.args.edges.now ≡ length edges = sym (length-map c.args.edges.now (λ (e : Edge). e.cells)) in
    record {
      so_far = subst (IsSoFar edges left) (sym c.new-order.ensures) (so_far_first edges (length c.args.edges.now) left long c.all_below-left.ensures);
      reaches = reaches_first edges (length c.args.edges.now) left long c.all_below-left.ensures;
      within = λ j m. (c.all_below-left.ensures j).0 m;
    }

pub returns-in_default : goal.returns-in_default
returns-in_default c =
    let edges = cells_of c.args.edges.now in
    let table = c.as_slice.result.now in
    let t : AreTable edges table = subst (AreTable edges) (sym c.as_slice.ensures) c.in_ok-table.ensures in
    let long : length edges ≡ length c.args.edges.now = length-map c.args.edges.now (λ (e : Edge). e.cells) in
    stuck edges table c.loop-left.left t
    (λ j m. let l = c.loop-left.invariant.within j m in omega (arith, l, long, t.same_length))
    (λ gone. true≢false (sym (c.is_empty.ensures.1 gone) ∙ c.loop-left-test.true))
    c.in_default.ensures
    c.loop-left.invariant.reaches

pub loop-left-smaller : goal.loop-left-smaller
loop-left-smaller c = subst (λ (s : FinSet nat_cmp). len s < len c.loop-left.left) (sym c.take_out-left.ensures) (len_without c.loop-left.left c.in-Some.ear.edge c.in-Some.ensures.0)

pub loop-left-preserved : goal.loop-left-preserved
loop-left-preserved c =
    let edges = cells_of c.args.edges.now in
    let table = c.as_slice.result.now in
    let left = c.loop-left.left in
    let ear = c.in-Some.ear in
    let t : AreTable edges table = subst (AreTable edges) (sym c.as_slice.ensures) c.in_ok-table.ensures in
    let long : length edges ≡ length c.args.edges.now = length-map c.args.edges.now (λ (e : Edge). e.cells) in
    let is_ear = ear_by edges table left ear t (λ j m. let l = c.loop-left.invariant.within j m in omega (arith, l, long, t.same_length)) c.in-Some.ensures.0 c.in-Some.ensures.1 in
    record {
      so_far = subst (λ (s : FinSet nat_cmp). IsSoFar edges s c.push.new.self) (sym c.take_out-left.ensures) (subst (IsSoFar edges (without left ear.edge)) (sym c.in_ok-push.ensures.ok) (so_far_next edges left c.loop-left.order ear c.loop-left.invariant.so_far is_ear));
      reaches = subst (Reaches edges) (sym c.take_out-left.ensures) (reaches_next edges left ear c.loop-left.invariant.reaches is_ear);
      within = λ j m. c.loop-left.invariant.within j ((in_without left ear.edge j).0 (subst (λ (s : FinSet nat_cmp). In s j) c.take_out-left.ensures m)).0;
    }

pub returns : goal.returns
returns c = none_left (cells_of c.args.edges.now) c.loop-left.left c.loop-left.order (c.is_empty.ensures.0 c.loop-left-test.false) c.loop-left.invariant.so_far
