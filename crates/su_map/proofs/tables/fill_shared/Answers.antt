-- For each cell so far the column told is one of its variable in the other row, and none is told only where its variable isn't there or is the head's.
use Rattle.std.proofs.Common.{◌≡◌, ◌∙◌, ℕ, subst, Option, Some, None, Contains, arith}
use Rattle.std.specs.Option.{IfSome}
use Rattle.su_base.proofs.Items.{get_or-set_each}
use Rattle.su_tableau.specs.declared.symbols.Sym.TheVariants.{Var}
use Rattle.su_tableau.proofs.Rows.{contains_read}
use Rattle.su_tableau.specs.Parts.{Cell}
use Rattle.su_map.proofs.Cells.{cell_read, same_var}
use Rattle.su_map.proofs.tables.fill_shared.Goals as goal

pub shared_at-at-requires-clause-below : goal.shared_at-at-requires-clause-below
shared_at-at-requires-clause-below c = λ k e. c.requires.below k (contains_read c.args.row.now c.loop-c.c c.index-row-c.result (Var k) c.loop-c-test.true c.index-row-c.is e)

pub loop-c-preserved : goal.loop-c-preserved
loop-c-preserved c =
    let row = c.args.row.now in let other = c.args.other.now in let head = c.args.head.now in let n = c.loop-c.c in
    let x = c.index-row-c.result in
    let P : ℕ → Option ℕ → Type 0 = λ e o. (at : ℕ) → o ≡ Some at → (k : ℕ) × Cell row e (Var k) × Cell other at (Var k) in
    let Q : ℕ → Option ℕ → Type 0 = λ e o. o ≡ None → (k : ℕ) → Cell row e (Var k) → Contains other (Var k) → Contains head (Var k) in
    record {
      some = λ e low. get_or-set_each P None c.loop-c.columns n c.shared_at-at.result (omega arith) c.loop-c.invariant.some
          (λ at is.
          let h = subst (λ o. IfSome o (λ at. (k : ℕ) × (x ≡ Var k) × Cell other at (Var k))) is c.shared_at-at.ensures.some in
          (h.0, cell_read row n x (Var h.0) c.loop-c-test.true c.index-row-c.is h.1, h.2))
          e low;
      none = λ e low. get_or-set_each Q None c.loop-c.columns n c.shared_at-at.result (omega arith) c.loop-c.invariant.none
          (λ none k cell has. c.shared_at-at.ensures.none none k (c.index-row-c.is ∙ cell.is x) has)
          e low;
    }

pub returns : goal.returns
returns c = record {
  some = λ e at k low is cell.
      let r = c.loop-c.invariant.some e (omega arith) at is in
      subst (λ k. Cell c.args.other.now at (Var k)) (same_var c.args.row.now e r.0 k r.1 cell) r.2;
  is_var = λ e at low is. let r = c.loop-c.invariant.some e (omega arith) at is in (r.0, r.1);
  none = λ e k is cell has. c.loop-c.invariant.none e (let b = cell.below in omega arith) is k cell has;
}
