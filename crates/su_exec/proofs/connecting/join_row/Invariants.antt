use Rattle.std.proofs.Common.{◌≡◌, ◌<◌, ℕ, Some, slice_get}
use Rattle.su_tableau.specs.declared.symbols.Sym.TheVariants.{Var}
use Rattle.su_exec.specs.inside.Labels.{AreLabels, IsFirstRow, KeepsLabels, label_of}
use Rattle.su_exec.proofs.connecting.join_row.Given as goal

abbrev pub invariant-loop-cell : goal.invariant-loop-cell
invariant-loop-cell l = record {
  labels : AreLabels l.task l.labels;
  kept : KeepsLabels l.fn.labels l.labels;
  joined : (j k first : ℕ) → j < l.cell-index → slice_get l.cell-items j ≡ Some (Var k) → IsFirstRow l.task k first → label_of l.labels l.i ≡ label_of l.labels first;
}
