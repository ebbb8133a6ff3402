-- The comparisons so far have sides that occur, both sides of each tested; after the last one this holds of all comparisons.
use Rattle.std.proofs.Common.{◌≡◌, ℕ, subst, sym, arith}
use Rattle.std.proofs.lemmas.Bool.{OnTrue_at}
use Rattle.std.proofs.lemmas.List.Elements.{All-more, All-same}
use Rattle.std.proofs.lemmas.List.{take_all}
use Rattle.su_tableau.specs.declared.symbols.Sym.TheVariants.{Var}
use Rattle.su_exec.specs.declared.tasks.Compared.{Compared}
use Rattle.su_exec.specs.Tasks.{Occurs}
use Rattle.su_exec_tests.proofs.tests.compared_occur.Goals as goal

pub loop-compared-preserved : goal.loop-compared-preserved
loop-compared-preserved c =
    let has = λ (d : Compared). ((k : ℕ) → d.left ≡ Var k → Occurs c.args.task.now k) × ((k : ℕ) → d.right ≡ Var k → Occurs c.args.task.now k) in
    All-more has c.args.comparisons.now c.loop-compared.compared-index c.compared-item.result c.loop-compared-test.true c.loop-compared.invariant
    (subst has c.compared-item.is (OnTrue_at c.if-not-sides_occur.false c.sides_occur.ensures))

pub returns : goal.returns
returns c = All-same (λ (d : Compared). ((k : ℕ) → d.left ≡ Var k → Occurs c.args.task.now k) × ((k : ℕ) → d.right ≡ Var k → Occurs c.args.task.now k)) c.args.comparisons.now _ (sym (take_all c.loop-compared.compared-index c.args.comparisons.now (omega arith))) c.loop-compared.invariant
