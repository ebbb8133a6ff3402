-- Shrinking, narrowing and reducing each keep what the body gives the needed variables, and lose no variable that is needed or compared.
use Rattle.std.proofs.Common.{List, ℕ, sym, subst, arith}
use Rattle.su_exec.specs.declared.checks.Check.{Check}
use Rattle.su_exec.specs.inside.Bodies.{AreThere}
use Rattle.su_exec.specs.inside.Checks.{all_hold}
use Rattle.su_exec.specs.inside.Edges.{Edge, Keeps}
use Rattle.su_exec.specs.inside.Ranges.{AreCut}
use Rattle.su_exec.proofs.PartSteps.{keeps_trans}
use Rattle.su_exec.proofs.CutEdges.{lost_keeps}
use Rattle.su_exec.proofs.merging.cut_down.Goals as goal

pub returns-clause-some : goal.returns-clause-some
returns-clause-some c =
    let a = c.requires.some in
    let b = c.in_ok-shrink_all.ensures.length in
    let n = c.in_ok-narrow.ensures.len in
    c.in_ok-rest.ensures.some (omega arith)

pub returns-clause-there : goal.returns-clause-there
returns-clause-there c =
    let left = c.in_ok-rest.ensures in
    let es : List (Edge ℕ) = c.in_ok-rest.rest.edges.items in
    subst (λ (cs : List Check). AreThere c.args.needed.now cs es) (sym left.checks) (left.there (λ k h. c.in_ok-narrow.ensures.vars k (c.in_ok-shrink_all.ensures.there k h)))

pub returns-clause-keeps : goal.returns-clause-keeps
returns-clause-keeps c =
    let values = c.args.codes.now in
    let needed = c.args.needed.now in
    let start : List (Edge ℕ) = c.args.body.edges.items in
    let first : List Check = c.args.body.checks.items in
    let shrunk : List (Edge ℕ) = c.shrink_all.new.body.edges.items in
    let news : List Check = c.shrink_all.new.body.checks.items in
    let cut : List (Edge ℕ) = c.narrow.new.edges.items in
    let reduced : List (Edge ℕ) = c.in_ok-rest.rest.edges.items in
    let left = c.in_ok-rest.ensures in
    let lost : AreCut (all_hold values news) shrunk cut = rw c.deref.ensures.value at c.in_ok-narrow.ensures in
    let keeps : Keeps needed start (all_hold values first) reduced (all_hold values news) =
    keeps_trans needed start cut reduced (all_hold values first) (all_hold values news) (all_hold values news)
    (keeps_trans needed start shrunk cut (all_hold values first) (all_hold values news) (all_hold values news) c.in_ok-shrink_all.ensures.keeps (lost_keeps needed (all_hold values news) shrunk cut lost)) (left.keeps values) in
    subst (λ (cs : List Check). Keeps needed start (all_hold values first) reduced (all_hold values cs)) (sym left.checks) keeps
