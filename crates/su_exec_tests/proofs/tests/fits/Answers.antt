-- What makes it a task was tested of lists: few rows, sources that fit, outputs and sides that occur; what holds of a whole list holds of each member.
use Rattle.std.proofs.Common.{◌≡◌, ◌≤◌, ℕ, All, List, length, refl, subst, arith}
use Rattle.std.proofs.lemmas.Bool.{OnTrue_at, OnTrue_from}
use Rattle.std.proofs.lemmas.List.Elements.{All-contains}
use Rattle.su_tableau.specs.declared.symbols.Sym.{Sym}
use Rattle.su_tableau.specs.declared.symbols.Sym.TheVariants.{Var}
use Rattle.su_exec.specs.declared.tasks.TaskRow.{TaskRow}
use Rattle.su_exec.specs.declared.tasks.Compared.{Compared}
use Rattle.su_exec.specs.Tasks.{HasSources, Occurs}
use Rattle.su_exec_tests.proofs.tests.fits.Goals as goal

pub returns : goal.returns
returns c =
    let tables = c.args.tables.now in
    let task = c.args.task.now in
    let given = λ (symbol : Sym). (k : ℕ) → symbol ≡ Var k → Occurs task k in
    let both = λ (d : Compared). ((k : ℕ) → d.left ≡ Var k → Occurs task k) × ((k : ℕ) → d.right ≡ Var k → Occurs task k) in
    let few : length task.rows ≤ 64 = omega (arith, c.len.ensures, c.if-len-gt64.false) in
    let sources : All (HasSources tables) task.rows = subst (λ (rows : List TaskRow). All (HasSources tables) rows) c.as_slice.ensures (OnTrue_at c.if-not-rows_fit.false c.rows_fit.ensures) in
    let outputs : All given task.outputs = subst (λ (symbols : List Sym). All given symbols) c.as_slice-2.ensures (OnTrue_at c.if-not-all_occur.false c.all_occur.ensures) in
    OnTrue_from c.compared_occur.result _ (λ yes.
    let compared : All both task.comparisons = subst (λ (ds : List Compared). All both ds) c.as_slice-3.ensures (OnTrue_at yes c.compared_occur.ensures) in
    record {
      few = few;
      sources = sources;
      occur = record {
        outputs = λ k there. All-contains given task.outputs (Var k) outputs there k refl;
        left = λ d k there is. (All-contains both task.comparisons d compared there).0 k is;
        right = λ d k there is. (All-contains both task.comparisons d compared there).1 k is;
      };
    })
