-- No row so far has the variable; so where the rows end without it, a row that had it would be one of those looked at.
use Rattle.std.proofs.Common.{[], get_or, Contains, sym, ◌∙◌, subst, arith, true≢false, below_more}
use Rattle.std.proofs.lemmas.List.{get_or_default}
use Rattle.su_tableau.specs.declared.symbols.Sym.TheVariants.{Var}
use Rattle.su_tableau.proofs.rules.occurs.Goals as goal

pub loop-row-preserved : goal.loop-row-preserved
loop-row-preserved c = λ n low h.
    below_more (λ i. Contains (get_or c.args.rows.now i []) (Var c.args.k) → ⊥) c.loop-row.row-index c.loop-row.invariant
    (λ has.
    let is = c.as_slice.ensures ∙ c.row-item.is ∙ get_or_default c.args.rows.now c.loop-row.row-index c.row-item.result [] c.loop-row-test.true in
    true≢false (sym (c.contains.ensures.1 (subst (λ r. Contains r (Var c.args.k)) (sym is) has)) ∙ c.if-contains.false))
    n low h

pub returns : goal.returns
returns c = (λ no. absurd (true≢false (sym no)), λ o. absurd (c.loop-row.invariant o.0 (let l = o.1 in omega arith) o.2))
