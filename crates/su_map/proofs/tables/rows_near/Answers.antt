-- The set has the rows noted at the variables of the cells so far, for a union loses no member of either set.
use Rattle.std.proofs.Common.{◌≡◌, ◌≢◌, ◌∙◌, ℕ, get_or, inl, inr, Contains, below_more}
use Rattle.std.specs.Int.{bit_at}
use Rattle.std.proofs.lemmas.List.{get_or_default}
use Rattle.su_tableau.specs.declared.symbols.Sym.TheVariants.{Var}
use Rattle.su_tableau.proofs.Rows.{contains_read}
use Rattle.su_map.proofs.tables.rows_near.Goals as goal

pub rows_at-requires-clause-below : goal.rows_at-requires-clause-below
rows_at-requires-clause-below c = λ k e. c.requires.below k (contains_read c.args.row.now c.loop-x.x-index c.x-item.result (Var k) c.loop-x-test.true c.x-item.is e)

pub loop-x-preserved : goal.loop-x-preserved
loop-x-preserved c =
    below_more (λ p. (k q : ℕ) → get_or c.args.row.now p (Var k) ≡ Var k → (Contains c.args.head.now (Var k) → ⊥) → c.args.i ≢ q → bit_at (get_or c.args.rows_of.now k 0) q ≡ 1 → bit_at c.either-rows.result q ≡ 1) c.loop-x.x-index
    (λ p l k q e free ne b. (c.either-rows.ensures q).1 (inl (c.loop-x.invariant p l k q e free ne b)))
    (λ k q e free ne b. (c.either-rows.ensures q).1 (inr (c.rows_at.ensures k q (c.x-item.is ∙ get_or_default c.args.row.now c.loop-x.x-index c.x-item.result (Var k) c.loop-x-test.true ∙ e) free ne b)))
