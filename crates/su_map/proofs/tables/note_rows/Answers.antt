-- The masked rows so far are noted at their variables, and those of them that aren't repeating have no variable at two columns; noting one more takes nothing back.
use Rattle.std.proofs.Common.{◌≡◌, ◌∙◌, ℕ, get_or, ap, Contains, arith, below_more}
use Rattle.std.specs.Int.{bit_at}
use Rattle.su_tableau.specs.declared.symbols.Sym.TheVariants.{Var}
use Rattle.su_map.specs.Lists.{row_of}
use Rattle.su_map.specs.inside.Targets.{IsPlain}
use Rattle.su_map.proofs.tables.note_rows.Goals as goal
use Rattle.su_map.proofs.tables.note_rows.Goals.{then-repeats, else-repeats}

pub loop-i-preserved : goal.loop-i-preserved
loop-i-preserved c =
    let n = c.loop-i.i in
    record {
      noted = below_more (λ p. bit_at c.args.mask p ≡ 1 → (k : ℕ) → Contains (row_of c.args.from.now p) (Var k) → bit_at (get_or c.note_masked-repeats.new.rows_of k 0) p ≡ 1) n
          (λ p l one k has. c.note_masked-repeats.ensures.kept k p (c.loop-i.invariant.noted p l one k has)) c.note_masked-repeats.ensures.noted;
      plain = below_more (λ p. bit_at c.args.mask p ≡ 1 → (bit_at c.if-repeats.repeating p ≡ 1 → ⊥) → IsPlain (row_of c.args.from.now p)) n
          (λ p l one out. c.loop-i.invariant.plain p l one (λ old.
          elim c.if-repeats.branch [
            | then-repeats w ↦ out (ap (λ s. bit_at s p) w.repeating-is ∙ w.with-repeating.ensures.same p (omega arith) ∙ old)
            | else-repeats w ↦ out (ap (λ s. bit_at s p) w.repeating-is ∙ old)
          ]))
          (λ one out.
          elim c.if-repeats.branch [
            | then-repeats w ↦ absurd (out (ap (λ s. bit_at s n) w.repeating-is ∙ w.with-repeating.ensures.member))
            | else-repeats w ↦ c.note_masked-repeats.ensures.plain one w.if-repeats.false
          ]);
    }

pub returns-clause-plain : goal.returns-clause-plain
returns-clause-plain c = λ i low one out. c.loop-i.invariant.plain i (omega arith) one out
