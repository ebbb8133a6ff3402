-- The store has the tables of the database, which keeps its rules.
use Rattle.std.proofs.Common.{◌≡◌, List, sym, subst, ◌∙◌}
use Rattle.su_rel.specs.Stored.{Stored}
use Rattle.su_state.specs.DatabaseValue.{IsWellKept}
use Rattle.library_tests.proofs.tests.asked.Goals as goal

pub ask-requires-clause-kept : goal.ask-requires-clause-kept
ask-requires-clause-kept g c κs within =
    subst (λ (tables : List Stored). IsWellKept (record { schema = c.args.db.now.schema; tables = tables })) (sym (c.new-store.ensures ∙ c.requires.rows)) c.keeps_its_rules.ensures
