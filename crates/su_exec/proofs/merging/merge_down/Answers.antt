-- Each step keeps what the body gives the needed variables, and leaves an edge less; it ends with one edge, with one that has no rows, or with two that are past the bound and have nothing to do with the rest.
use Rattle.std.proofs.Common.{◌≡◌, ◌+◌, List, ℕ, length, sym, subst, arith}
use Rattle.su_exec.specs.declared.checks.Check.{Check}
use Rattle.su_exec.specs.inside.Bodies.{AreThere}
use Rattle.su_exec.specs.inside.Checks.{all_hold}
use Rattle.su_exec.specs.inside.Edges.{Edge, FitsAll, Keeps}
use Rattle.su_exec.proofs.PartSteps.{keeps_trans}
use Rattle.su_exec.proofs.MoreAnswers.{empty_back, past_is}
use Rattle.su_exec.proofs.merging.merge_down.Goals as goal

pub loop-alloc-init : goal.loop-alloc-init
loop-alloc-init c =
    let needed = c.args.needed.now in
    let first : List Check = c.args.body.now.checks.items in
    let start : List (Edge ℕ) = c.args.body.now.edges.items in
    let es : List (Edge ℕ) = c.close_cycles.new.body.edges.items in
    let same = c.in_ok-close_cycles.ensures.checks in
    record {
      some = c.in_ok-close_cycles.ensures.some;
      there = subst (λ (cs : List Check). AreThere needed cs es) (sym same) c.in_ok-close_cycles.ensures.there;
      keeps = subst (λ (cs : List Check). Keeps needed start (all_hold c.args.codes.now first) es (all_hold c.args.codes.now cs)) (sym same) c.in_ok-close_cycles.ensures.keeps;
    }

pub loop-alloc-preserved : goal.loop-alloc-preserved
loop-alloc-preserved c =
    let values = c.args.codes.now in
    let needed = c.args.needed.now in
    let start : List (Edge ℕ) = c.args.body.now.edges.items in
    let first : List Check = c.args.body.now.checks.items in
    let es : List (Edge ℕ) = c.loop-alloc.body.edges.items in
    let olds : List Check = c.loop-alloc.body.checks.items in
    let fs : List (Edge ℕ) = c.merge_next.new.body.edges.items in
    let news : List Check = c.merge_next.new.body.checks.items in
    let gs : List (Edge ℕ) = c.close_cycles-in-loop-alloc.new.body.edges.items in
    let last : List Check = c.close_cycles-in-loop-alloc.new.body.checks.items in
    let same : last ≡ news = c.in_ok-close_cycles-2.ensures.checks in
    let step : Keeps needed es (all_hold values olds) fs (all_hold values news) = rw c.in-Joined.is at c.in_ok-step.ensures.merged in
    let closed : Keeps needed fs (all_hold values news) gs (all_hold values last) = subst (λ (cs : List Check). Keeps needed fs (all_hold values news) gs (all_hold values cs)) (sym same) c.in_ok-close_cycles-2.ensures.keeps in
    record {
      some = c.in_ok-close_cycles-2.ensures.some;
      there = subst (λ (cs : List Check). AreThere needed cs gs) (sym same) c.in_ok-close_cycles-2.ensures.there;
      keeps =
          keeps_trans needed start fs gs (all_hold values first) (all_hold values news) (all_hold values last)
          (keeps_trans needed start es fs (all_hold values first) (all_hold values olds) (all_hold values news) c.loop-alloc.invariant.keeps step) closed;
    }

pub loop-alloc-smaller : goal.loop-alloc-smaller
loop-alloc-smaller c =
    let es : List (Edge ℕ) = c.loop-alloc.body.edges.items in
    let fs : List (Edge ℕ) = c.merge_next.new.body.edges.items in
    let gs : List (Edge ℕ) = c.close_cycles-in-loop-alloc.new.body.edges.items in
    let less : length fs + 1 ≡ length es = rw c.in-Joined.is at c.in_ok-step.ensures.length in
    let fewer = c.in_ok-close_cycles-2.ensures.fewer in
    omega arith

pub returns-then-has_empty-clause-end : goal.returns-then-has_empty-clause-end
returns-then-has_empty-clause-end c =
    let es : List (Edge ℕ) = c.loop-alloc.body.edges.items in
    let none : (v : ℕ → ℕ) → FitsAll v es → ⊥ = rw c.deref-in-loop-alloc.ensures.value at c.has_empty.ensures.none c.if-has_empty.true in
    empty_back c.args.needed.now c.args.body.now.edges.items es (all_hold c.args.codes.now c.args.body.now.checks.items) (all_hold c.args.codes.now c.loop-alloc.body.checks.items) c.loop-alloc.invariant.keeps (λ v f p. none v f)

pub returns-in-Past-clause-end : goal.returns-in-Past-clause-end
returns-in-Past-clause-end c =
    let values = c.args.codes.now in
    let start : List (Edge ℕ) = c.args.body.now.edges.items in
    let es : List (Edge ℕ) = c.loop-alloc.body.edges.items in
    let rest : List (Edge ℕ) = c.merge_next.new.body.edges.items in
    past_is c.args.needed.now c.args.most start es rest (all_hold values c.args.body.now.checks.items) (all_hold values c.loop-alloc.body.checks.items) (all_hold values c.merge_next.new.body.checks.items) c.loop-alloc.invariant.keeps
    (rw c.in-Past.is at c.in_ok-step.ensures.merged)

pub returns-clause-end : goal.returns-clause-end
returns-clause-end c = c.loop-alloc.invariant.keeps
