use Rattle.std.proofs.Common.{◌≡◌, ◌<◌, ℕ, get_or}
use Rattle.su_tableau.specs.declared.symbols.Sym.TheVariants.{Var}
use Rattle.su_exec.specs.declared.tasks.Compared.{Compared}
use Rattle.su_exec.specs.Tasks.{StandsIn}
use Rattle.su_exec.specs.inside.Labels.{AreLabels, IsFirstRow, label_of}
use Rattle.su_exec.proofs.connecting.labels_of.Given as goal

abbrev pub invariant-loop-i : goal.invariant-loop-i
invariant-loop-i l = record {
  labels : AreLabels l.task l.labels.items;
  shared : (i k first : ℕ) → i < l.i → StandsIn l.task k i → IsFirstRow l.task k first → label_of l.labels.items i ≡ label_of l.labels.items first;
}

abbrev pub invariant-loop-compared : goal.invariant-loop-compared
invariant-loop-compared l = record {
  labels : AreLabels l.task l.labels.items;
  shared : (i k first : ℕ) → StandsIn l.task k i → IsFirstRow l.task k first → label_of l.labels.items i ≡ label_of l.labels.items first;
  compared : (n k m i j : ℕ) (d : Compared) → n < l.compared-index → (get_or l.task.comparisons n d).left ≡ Var k → (get_or l.task.comparisons n d).right ≡ Var m → IsFirstRow l.task k i → IsFirstRow l.task m j → label_of l.labels.items i ≡ label_of l.labels.items j;
}
