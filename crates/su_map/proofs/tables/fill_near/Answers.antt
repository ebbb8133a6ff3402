-- Each row's entry so far has the rows noted at its variables, and a row that shares a variable with it was noted there; so the entry has all rows that are near.
use Rattle.std.proofs.Common.{◌≡◌, ◌≢◌, ℕ, get_or, Contains, arith}
use Rattle.std.specs.Int.{bit_at}
use Rattle.su_base.proofs.Items.{get_or-set_each}
use Rattle.su_tableau.specs.declared.symbols.Sym.TheVariants.{Var}
use Rattle.su_map.specs.Lists.{row_of}
use Rattle.su_map.proofs.tables.fill_near.Goals as goal

pub loop-i-preserved : goal.loop-i-preserved
loop-i-preserved c = λ p low.
    let P : ℕ → ℕ → Type 0 = λ p v. bit_at c.args.mask p ≡ 1 → (k q : ℕ) → Contains (row_of c.args.from.now p) (Var k) → (Contains c.args.from.now.head (Var k) → ⊥) → p ≢ q → bit_at (get_or c.args.rows_of.now k 0) q ≡ 1 → bit_at v q ≡ 1 in
    get_or-set_each P 0 c.loop-i.near c.loop-i.i c.nearby-rows.result (omega arith) c.loop-i.invariant c.nearby-rows.ensures p low

pub returns : goal.returns
returns c = λ i q low_i low_q one_i one_q ne share.
    c.loop-i.invariant i (omega arith) one_i share.variable q share.in_one share.free ne (c.requires.noted q low_q one_q share.variable share.in_other)
