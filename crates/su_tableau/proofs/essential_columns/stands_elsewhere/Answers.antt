-- No masked row so far has the variable at another cell than the one left out, and only the row itself has a cell to leave out.
use Rattle.std.proofs.Common.{◌≡◌, ◌≢◌, ℕ, arith, refl, sym, ◌∙◌, true≢false, below_more}
use Rattle.su_tableau.specs.Essential.{HasSymbol}
use Rattle.su_tableau.specs.declared.symbols.Sym.TheVariants.{Var}
use Rattle.su_tableau.proofs.EssentialCells.{elsewhere_found, elsewhere_none}
use Rattle.su_tableau.proofs.essential_columns.stands_elsewhere.Goals as goal
use Rattle.su_tableau.proofs.essential_columns.stands_elsewhere.Goals.{else-has-via-then-has+else-stands_in, else-has-via-else-has}

pub loop-i-preserved : goal.loop-i-preserved
loop-i-preserved c = λ n d low.
    let t = c.args.t.now in
    below_more (λ i. (d : ℕ) → HasSymbol t c.args.mask i d (Var c.args.k) → (i ≡ c.args.row → d ≢ c.args.column) → ⊥) c.loop-i.i (λ i h d. c.loop-i.invariant i d h)
    (λ d h other.
    elim c.else-has.branch [
      | else-has-via-then-has+else-stands_in w ↦ elsewhere_none t c.args.mask c.args.row c.args.column c.args.k c.loop-i.i w.row.result.now w.left_out.result w.row.ensures.is w.left_out.ensures (λ s. true≢false (sym (w.stands_in.ensures.1 s) ∙ w.if-stands_in.false)) d h other
      | else-has-via-else-has w ↦ true≢false (sym (c.has.ensures.1 h.in_set) ∙ w.if-has.false)
    ])
    n low d

pub returns : goal.returns
returns c = (λ no. absurd (true≢false (sym no)), λ e. absurd (c.loop-i.invariant e.row e.column (let l = e.holds.row_in in omega arith) e.holds e.other))

pub returns-then-stands_in : goal.returns-then-stands_in
returns-then-stands_in c = (
  λ yes. elsewhere_found c.args.t.now c.args.mask c.args.row c.args.column c.args.k c.loop-i.i c.row.result.now c.left_out.result c.row.ensures.is (omega arith) (c.has.ensures.0 c.if-has.true) c.left_out.ensures (c.stands_in.ensures.0 c.if-stands_in.true),
  λ e. refl,
)
