-- The columns so far are the essential ones below the next: a cell of a masked row is essential exactly where its symbol is a constant or a variable that was met again.
use Rattle.std.proofs.Common.{[], sym, ap, ◌∙◌, refl, true≢false, arith}
use Rattle.std.specs.FinSet.{contains, contains-empty}
use Rattle.std.specs.Ordering.{nat_cmp}
use Rattle.su_tableau.specs.declared.symbols.Sym.TheVariants.{Var}
use Rattle.su_tableau.specs.Essential.{IsEssential}
use Rattle.su_tableau.proofs.EssentialCells.{set_more, set_same, essential_in, cell_holds}
use Rattle.su_tableau.proofs.VariableCounts.{noted_is}
use Rattle.su_tableau.proofs.occurrences.columns_of.Goals as goal
use Rattle.su_tableau.proofs.occurrences.columns_of.Goals.{then-is_noted, else-is_noted}

pub is_noted-requires : goal.is_noted-requires
is_noted-requires c = record {
  below = λ k e.
      let w = c.keeps_its_rules.ensures.valid.widths c.args.row [] c.requires.row in
      c.requires.below.rows c.args.row [] c.requires.row k (c.loop-c.c, omega arith, c.cell.ensures (Var k) ∙ e);
}

pub loop-c-init : goal.loop-c-init
loop-c-init c = λ n. (λ yes. absurd (true≢false (sym yes ∙ ap (λ s. contains s n) c.empty-columns.ensures ∙ contains-empty nat_cmp n)), λ h. let l = h.0 in absurd (omega arith))

pub loop-c-preserved : goal.loop-c-preserved
loop-c-preserved c = λ n.
    let P = IsEssential c.args.t.now c.args.mask c.args.row in
    let here = noted_is c.args.t.now c.args.mask c.args.row c.loop-c.c c.args.times.now c.cell.result.now c.requires.told (cell_holds c.args.t.now c.args.mask c.args.row c.loop-c.c c.cell.result.now c.cell.result.now c.keeps_its_rules.ensures.valid.widths c.requires.row c.requires.in_mask (omega arith) c.cell.ensures refl) in
    elim c.if-is_noted.branch [
      | then-is_noted w ↦ let m = set_more c.loop-c.columns P c.loop-c.c (here.0 (c.is_noted.ensures.0 w.if-is_noted.true)) c.loop-c.invariant n in
          let same = ap (λ s. contains s n) (w.columns-is ∙ w.insert-columns.ensures) in (λ yes. m.0 (sym same ∙ yes), λ h. same ∙ m.1 h)
      | else-is_noted w ↦ let m = set_same c.loop-c.columns P c.loop-c.c (λ e. true≢false (sym (c.is_noted.ensures.1 (here.1 e)) ∙ w.if-is_noted.false)) c.loop-c.invariant n in
          let same = ap (λ s. contains s n) w.columns-is in (λ yes. m.0 (sym same ∙ yes), λ h. same ∙ m.1 h)
    ]

pub returns : goal.returns
returns c = λ n. (
  λ yes. ((c.loop-c.invariant n).0 yes).1,
  λ e.
      let l = essential_in c.args.t.now c.args.mask c.args.row n e in
      let w = c.keeps_its_rules.ensures.valid.widths c.args.row [] c.requires.row in
      (c.loop-c.invariant n).1 (omega arith, e),
)
