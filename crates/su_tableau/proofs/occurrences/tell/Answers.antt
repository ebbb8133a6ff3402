-- A variable is met again where the head has it or where two cells of the masked rows hold it, and the two passes note one of these each.
use Rattle.std.proofs.Common.{◌≡◌, inl, inr, sym, subst, Contains, ⊎_elim, arith}
use Rattle.su_tableau.specs.declared.symbols.Sym.TheVariants.{Var}
use Rattle.su_tableau.specs.declared.occurrences.Times.TheVariants.{Again}
use Rattle.su_tableau.specs.inside.Occurrences.{times_of, IsTwice, CellHolds}
use Rattle.su_tableau.proofs.occurrences.tell.Goals as goal

pub mark_head-requires : goal.mark_head-requires
mark_head-requires c = λ k has. let l = c.requires.head k (subst (λ h. Contains h (Var k)) c.head.ensures has) in omega arith

pub returns : goal.returns
returns c = λ k. (
  λ again. ⊎_elim (λ (has : Contains c.head.result.now (Var k)). inl (subst (λ h. Contains h (Var k)) c.head.ensures has)) (λ (old : times_of c.note_rows.new.times k ≡ Again). inr ((c.note_rows.ensures k).0 old)) ((c.mark_head.ensures k).0 again),
  λ either. (c.mark_head.ensures k).1 (⊎_elim (λ (has : Contains c.args.t.now.head (Var k)). inl (subst (λ h. Contains h (Var k)) (sym c.head.ensures) has)) (λ (w : IsTwice (CellHolds c.args.t.now c.args.mask k)). inr ((c.note_rows.ensures k).1 w)) either),
)
