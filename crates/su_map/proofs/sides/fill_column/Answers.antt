-- The entries of the rows so far tell which rows are alike with them at the column; the next row's entry has a place of its own and leaves the others.
use Rattle.std.proofs.Common.{◌≡◌, ◌+◌, ◌*◌, ◌<◌, ◌↔◌, ◌∙◌, ℕ, length, get_or, set, sym, subst, arith, get_or-set_other, get_or-set_same, below_more}
use Rattle.std.specs.Int.{bit_at}
use Rattle.su_map.specs.inside.Targets.{HoldOne}
use Rattle.su_map.proofs.sides.fill_column.Goals as goal

pub loop-p-preserved : goal.loop-p-preserved
loop-p-preserved c =
    let to = c.args.to.now in let column = c.args.column in let start = c.args.column * 64 in let n = c.loop-p.p in let old = c.loop-p.alike in
    let v = c.alike_at-same.result in
    let Holds = λ (p w j : ℕ). (bit_at w j ≡ 1) ↔ ((j < length to.rows) × HoldOne to column p j) in
    record {
      before = λ y l. get_or-set_other old (start + n) y v 0 (omega arith) ∙ c.loop-p.invariant.before y l;
      filled = below_more (λ p. (j : ℕ) → Holds p (get_or (set old (start + n) v) (start + p) 0) j) n
          (λ p l j. subst (λ w. Holds p w j) (sym (get_or-set_other old (start + n) (start + p) v 0 (omega arith))) (c.loop-p.invariant.filled p l j))
          (λ j. subst (λ w. Holds n w j) (sym (get_or-set_same old (start + n) v 0 (omega arith))) (c.alike_at-same.ensures j));
    }
