-- The rows that stay are those whose value of the variable meets the bound, and a valuation that meets it gives such a row.
use Rattle.std.proofs.Common.{rules, ◌≡◌, ◌<◌, ◌∙◌, List, ℕ, [], length, get_or, Contains, ap, subst}
use Rattle.std.proofs.lemmas.List.{get_or_default}
use Rattle.su_exec.specs.declared.checks.Spot.TheVariants.{Code as Given, Left}
use Rattle.su_exec.specs.inside.Edges.{Edge}
use Rattle.su_exec.specs.inside.Ranges.{ArePassing}
use Rattle.su_exec.proofs.CutEdges.{cut_at, same_place}
use Rattle.su_exec.proofs.narrowing.cut_edge.Goals as goal

pub with_rows-requires-clause-some : goal.with_rows-requires-clause-some
with_rows-requires-clause-some c = λ r h.
    let es : List (Edge ℕ) = c.args.edges.now.items in
    let third : Edge ℕ = c.index-3.result.now in
    let fourth : Edge ℕ = c.index-4.result.now in
    let same : third ≡ fourth = same_place es c.args.i third fourth c.requires (search rules) (search rules) in
    let p = (c.in_ok-rows.ensures.rows r).0 h in
    subst (λ (e : Edge ℕ). Contains e.rows r) same (p.0, p.1, get_or_default third.rows p.0 r [] p.1 ∙ p.2)

pub returns : goal.returns
returns c =
    let es : List (Edge ℕ) = c.args.edges.now.items in
    let first : Edge ℕ = c.index.result.now in
    let third : Edge ℕ = c.index-3.result.now in
    let fourth : Edge ℕ = c.index-4.result.now in
    let at : first ≡ get_or es c.args.i first = search rules in
    let at_third : third ≡ get_or es c.args.i third = search rules in
    let at_fourth : fourth ≡ get_or es c.args.i fourth = search rules in
    let same : third ≡ fourth = same_place es c.args.i third fourth c.requires at_third at_fourth in
    let vars : c.vars.result.now ≡ fourth.vars = c.vars.ensures ∙ ap (λ (e : Edge ℕ). e.vars) (same_place es c.args.i first fourth c.requires at at_fourth) in
    let place = c.in-Some.place in
    let values = c.args.codes.now in
    cut_at values es c.args.i fourth c.in_ok-cut.cut place c.args.x c.args.op c.args.bound c.in_ok-rows.rows.rows c.requires at_fourth c.in_ok-cut.ensures
    (subst (λ (ks : List ℕ). place < length ks) vars c.in-Some.ensures.0)
    (subst (λ (ks : List ℕ). get_or ks place 0 ≡ c.args.x) vars c.in-Some.ensures.1)
    (subst (λ (e : Edge ℕ). ArePassing values e (record { left = Left place; op = c.args.op; right = Given c.args.bound }) (length e.rows) c.in_ok-rows.rows.rows) same c.in_ok-rows.ensures.rows)
