-- What a valuation gives the variable stands in the edge's column, and the widest value there is met by all that meets it.
use Rattle.std.proofs.Common.{rules, ◌≡◌, ◌<◌, List, ℕ, length, get_or, subst}
use Rattle.std.proofs.lemmas.Option.{IfSome_then}
use Rattle.su_exec.specs.inside.Edges.{Edge}
use Rattle.su_exec.specs.inside.Ranges.{IsBound, IsWidest}
use Rattle.su_exec.proofs.CutEdges.{bound_by}
use Rattle.su_exec.proofs.narrowing.bound_for.Goals as goal

pub returns-in-Some : goal.returns-in-Some
returns-in-Some c =
    let values = c.args.codes.now in
    let es : List (Edge ℕ) = c.args.edges.now in
    let e : Edge ℕ = c.edge-item.result in
    let place = c.in-Some.place in
    let low : c.loop-edge.edge-index < length es = search (rules, c.loop-edge-test.true) in
    IfSome_then c.widest.result {P = IsWidest values e place c.args.side} {Q = IsBound values es c.args.y c.args.side} c.widest.ensures
    (λ b widest. bound_by values es e place c.args.y c.args.side c.loop-edge.edge-index low c.edge-item.is (subst (λ (ks : List ℕ). place < length ks) c.vars.ensures c.in-Some.ensures.0) (subst (λ (ks : List ℕ). get_or ks place 0 ≡ c.args.y) c.vars.ensures c.in-Some.ensures.1) b widest)
