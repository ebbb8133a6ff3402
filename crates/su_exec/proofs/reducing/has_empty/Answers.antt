-- Each edge so far has rows; one that has none is fitted by no valuation.
use Rattle.std.proofs.Common.{◌≡◌, ◌<◌, ◌∙◌, ℕ, length, get_or, ap, subst, sym, ⊎_elim, rules, arith}
use Rattle.std.proofs.lemmas.Bool.{cases_eq}
use Rattle.std.proofs.lemmas.List.{get_or_default}
use Rattle.su_exec.specs.inside.Edges.{Edge, Fits}
use Rattle.su_exec.proofs.reducing.has_empty.Goals as goal

pub loop-edge-preserved : goal.loop-edge-preserved
loop-edge-preserved c = λ k d l.
    let es = c.args.edges.now in
    let n = c.loop-edge.edge-index in
    let e : Edge ℕ = c.edge-item.result in
    let low : n < length es = search (rules, c.loop-edge-test.true) in
    let is : get_or es n d ≡ e = get_or_default es n d e low ∙ sym c.edge-item.is in
    let count = c.len.ensures in
    let some = c.if-len-eq0.false in
    let here : 0 < length e.rows = omega arith in
    ⊎_elim
    (λ (x : k ≡ n). subst (λ (m : ℕ). 0 < m) (sym (ap (λ (j : ℕ). length (get_or es j d).rows) x ∙ ap (λ (f : Edge ℕ). length f.rows) is)) here)
    (λ (x : k ≡ n → ⊥). c.loop-edge.invariant k d (omega arith))
    (cases_eq k n)

pub returns-then-len-eq0-clause-none : goal.returns-then-len-eq0-clause-none
returns-then-len-eq0-clause-none c _ v fits =
    let e : Edge ℕ = c.edge-item.result in
    let none : length e.rows ≡ 0 = search (rules, c.len.ensures, c.if-len-eq0.true) in
    let low : c.loop-edge.edge-index < length c.args.edges.now = search (rules, c.loop-edge-test.true) in
    let fit : Fits v e = subst (Fits v) (sym c.edge-item.is) (fits c.loop-edge.edge-index e low) in
    let below = fit.1 in
    omega arith

pub returns-clause-some : goal.returns-clause-some
returns-clause-some c = λ _ k d l.
    let done = c.loop-edge-test.false in
    c.loop-edge.invariant k d (omega arith)
