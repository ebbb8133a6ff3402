-- Each round keeps what the body gives the needed variables and leaves fewer edges, and the checks stay what they were.
use Rattle.std.proofs.Common.{◌≡◌, List, ℕ, refl, sym, subst, ◌∙◌, arith}
use Rattle.su_exec.specs.declared.checks.Check.{Check}
use Rattle.su_exec.specs.inside.Bodies.{AreThere}
use Rattle.su_exec.specs.inside.Checks.{all_hold}
use Rattle.su_exec.specs.inside.Edges.{Edge, Keeps}
use Rattle.su_exec.proofs.PartSteps.{keeps_refl, keeps_trans}
use Rattle.su_exec.proofs.cycles.close_cycles.Goals as goal

pub loop-init : goal.loop-init
loop-init c = record {
  checks = refl;
  keeps = keeps_refl c.args.needed.now c.args.body.now.edges.items (all_hold c.args.codes.now c.args.body.now.checks.items);
  there = c.requires.there;
  some = c.requires.some;
  fewer = omega arith;
}

pub loop-preserved : goal.loop-preserved
loop-preserved c =
    let values = c.args.codes.now in
    let needed = c.args.needed.now in
    let first : List Check = c.args.body.now.checks.items in
    let start : List (Edge ℕ) = c.args.body.now.edges.items in
    let es : List (Edge ℕ) = c.loop.body.edges.items in
    let fs : List (Edge ℕ) = c.close.new.body.edges.items in
    let same : c.loop.body.checks.items ≡ first = c.loop.invariant.checks in
    let step : Keeps needed es (all_hold values first) fs (all_hold values first) = subst (λ (cs : List Check). Keeps needed es (all_hold values cs) fs (all_hold values cs)) same c.in_ok-close.ensures.keeps in
    record {
      checks = c.in_ok-close.ensures.checks ∙ same;
      keeps = keeps_trans needed start es fs (all_hold values first) (all_hold values first) (all_hold values first) c.loop.invariant.keeps step;
      there = subst (λ (cs : List Check). AreThere needed cs fs) same c.in_ok-close.ensures.there;
      some = c.in_ok-close.ensures.some;
      fewer = let a = c.loop.invariant.fewer in let b = c.in_ok-close.ensures.fewer in omega arith;
    }

pub close-requires-clause-there : goal.close-requires-clause-there
close-requires-clause-there c = subst (λ (cs : List Check). AreThere c.args.needed.now cs c.loop.body.edges.items) (sym c.loop.invariant.checks) c.loop.invariant.there
