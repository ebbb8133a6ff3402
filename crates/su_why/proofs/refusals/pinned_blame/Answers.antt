-- The outputs are pinned, and what is to blame is found for the database's tables.
use Rattle.std.proofs.Common.{List, subst}
use Rattle.su_base.specs.declared.values.Value.{Value}
use Rattle.su_rel.specs.Stored.{Stored}
use Rattle.su_tableau.specs.declared.symbols.Sym.{Sym}
use Rattle.su_exec.specs.declared.tasks.Compared.{Compared}
use Rattle.su_why.specs.Blame.{IsBlameFor}
use Rattle.su_why.specs.WhyNot.{ArePins}
use Rattle.su_why.proofs.refusals.pinned_blame.Goals as goal

pub returns : goal.returns
returns c =
    let task = c.args.task.now in
    let fixed : List Compared = c.in_ok-fixed.fixed in
    record {
      no_clash = c.requires.no_clash;
      fixed = fixed;
      pins =
          subst (λ (outputs : List Sym). ArePins outputs c.args.row.now fixed) c.as_slice.ensures
          (subst (λ (h : List Value). ArePins c.as_slice.result.now h fixed) c.as_slice-2.ensures c.in_ok-fixed.ensures);
      blame = subst (λ (tables : List Stored). IsBlameFor (record { tables = tables; task = task; fixed = fixed }) c.in_ok-found.found) c.tables.ensures c.in_ok-found.ensures;
    }
