-- The columns so far are the essential ones below the next; and an essential column is below the width, since every row is as wide as the tableau.
use Rattle.std.proofs.Common.{[], sym, ap, ◌∙◌, true≢false, arith}
use Rattle.std.specs.FinSet.{contains, contains-empty}
use Rattle.std.specs.Ordering.{nat_cmp}
use Rattle.su_tableau.specs.Essential.{IsEssential}
use Rattle.su_tableau.proofs.EssentialCells.{set_more, set_same, essential_in}
use Rattle.su_tableau.proofs.essential_columns.essential.Goals as goal
use Rattle.su_tableau.proofs.essential_columns.essential.Goals.{then-is_essential, else-is_essential}

pub insert-columns-requires : goal.insert-columns-requires
insert-columns-requires c = let w = c.keeps_its_rules.ensures.small.width in omega arith

pub loop-c-init : goal.loop-c-init
loop-c-init c = λ n. (λ yes. absurd (true≢false (sym yes ∙ ap (λ s. contains s n) c.empty-columns.ensures ∙ contains-empty nat_cmp n)), λ h. let l = h.0 in absurd (omega arith))

pub loop-c-preserved : goal.loop-c-preserved
loop-c-preserved c = λ n.
    let P = IsEssential c.args.t.now c.args.mask c.args.row in
    elim c.if-is_essential.branch [
      | then-is_essential w ↦ let m = set_more c.loop-c.columns P c.loop-c.c (c.is_essential.ensures.0 w.if-is_essential.true) c.loop-c.invariant n in
          let same = ap (λ s. contains s n) (w.columns-is ∙ w.insert-columns.ensures) in (λ yes. m.0 (sym same ∙ yes), λ h. same ∙ m.1 h)
      | else-is_essential w ↦ let m = set_same c.loop-c.columns P c.loop-c.c (λ e. true≢false (sym (c.is_essential.ensures.1 e) ∙ w.if-is_essential.false)) c.loop-c.invariant n in
          let same = ap (λ s. contains s n) w.columns-is in (λ yes. m.0 (sym same ∙ yes), λ h. same ∙ m.1 h)
    ]

pub returns : goal.returns
returns c = λ n. (
  λ yes. ((c.loop-c.invariant n).0 yes).1,
  λ e.
      let l = essential_in c.args.t.now c.args.mask c.args.row n e in
      let w = c.keeps_its_rules.ensures.valid.widths c.args.row [] c.requires.row in
      (c.loop-c.invariant n).1 (omega arith, e),
)
