-- What is found is what the file held; a new database is kept first.
use Rattle.std.proofs.Common.{Option, Some, ap, sym, subst, ◌∙◌}
use Rattle.sqlite_wal.specs.Files.{image_at}
use Rattle.su_state.specs.DatabaseValue.{DatabaseValue}
use Rattle.su_keep.specs.Kept.{IsAt}
use Rattle.sysu_shell.proofs.Kept.{asked_of_new, first_held, first_new}
use Rattle.sysu_shell.proofs.opening.open_file.Goals as goal

pub returns-in_ok-db-in-Some-clause-kept : goal.returns-in_ok-db-in-Some-clause-kept
returns-in_ok-db-in-Some-clause-kept g c = λ clean.
    subst (λ (found : Option DatabaseValue). IsAt c.in-Ok.opened.0 found) (c.in-Some.is ∙ ap Some (sym c.in_ok-db-in-Some.ensures.same)) (c.in-Ok.ensures.at clean)

pub returns-in_ok-db-in-Some-clause-first : goal.returns-in_ok-db-in-Some-clause-first
returns-in_ok-db-in-Some-clause-first g c = λ clean.
    first_held (image_at g.S.Start) c.args.schema c.in-Ok.opened.1 (c.in-Ok.ensures.found clean) c.in-Some.db c.in_ok-db-in-Some.db c.in-Some.is c.in_ok-db-in-Some.ensures.same c.in_ok-db-in-Some.ensures.schema

pub returns-in_ok-keeper-in-None-clause-first : goal.returns-in_ok-keeper-in-None-clause-first
returns-in_ok-keeper-in-None-clause-first g c = λ clean.
    let it = c.in_ok-keeper-in-None.ensures in
    first_new (image_at g.S.Start) c.args.schema c.in-Ok.opened.1 (c.in-Ok.ensures.found (it.clean clean)) c.in_ok-keeper-in-None.db c.in-None.is it.new

pub returns-in_ok-keeper-in-None-clause-schema : goal.returns-in_ok-keeper-in-None-clause-schema
returns-in_ok-keeper-in-None-clause-schema g c = asked_of_new c.args.schema c.in_ok-keeper-in-None.db c.in_ok-keeper-in-None.ensures.new
