-- From nothing no change leads to a new database.
use Rattle.std.proofs.Common.{None, List, sym, subst}
use Rattle.su_changes.specs.declared.changes.Change.{Change}
use Rattle.su_keep.specs.Kept.{Leads}
use Rattle.sysu_shell.proofs.Kept.{none_to_new}
use Rattle.sysu_shell.proofs.opening.begin.Goals as goal

pub returns-in-Ok-clause-kept : goal.returns-in-Ok-clause-kept
returns-in-Ok-clause-kept g c = λ clean.
    c.in-Ok.ensures.done None (c.requires (c.in-Ok.ensures.clean clean), subst (λ (cs : List Change). Leads None cs c.in_ok-db.db) (sym c.new.ensures) (none_to_new c.in_ok-db.db c.in_ok-db.ensures.empty)) clean
