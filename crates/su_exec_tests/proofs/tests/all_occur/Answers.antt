-- The symbols so far occur, by a test of each; those of the last round are all of them.
use Rattle.std.proofs.Common.{◌≡◌, ℕ, subst, sym, arith}
use Rattle.std.proofs.lemmas.Bool.{OnTrue_at}
use Rattle.std.proofs.lemmas.List.Elements.{All-more, All-same}
use Rattle.std.proofs.lemmas.List.{take_all}
use Rattle.su_tableau.specs.declared.symbols.Sym.{Sym}
use Rattle.su_tableau.specs.declared.symbols.Sym.TheVariants.{Var}
use Rattle.su_exec.specs.Tasks.{Occurs}
use Rattle.su_exec_tests.proofs.tests.all_occur.Goals as goal

pub loop-symbol-preserved : goal.loop-symbol-preserved
loop-symbol-preserved c =
    let has = λ (symbol : Sym). (k : ℕ) → symbol ≡ Var k → Occurs c.args.task.now k in
    All-more has c.args.symbols.now c.loop-symbol.symbol-index c.symbol-item.result c.loop-symbol-test.true c.loop-symbol.invariant
    (subst has c.symbol-item.is (OnTrue_at c.if-not-occurs.false c.occurs.ensures))

pub returns : goal.returns
returns c = All-same (λ (symbol : Sym). (k : ℕ) → symbol ≡ Var k → Occurs c.args.task.now k) c.args.symbols.now _ (sym (take_all c.loop-symbol.symbol-index c.args.symbols.now (omega arith))) c.loop-symbol.invariant
