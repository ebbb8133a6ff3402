-- Taking notes of rows leaves the database what it is.
use Rattle.std.proofs.Common.{Ok, sym, subst}
use Rattle.su_state.specs.DatabaseValue.{DatabaseValue}
use Rattle.su_state.specs.Definitions.{Defines}
use Rattle.su_state.proofs.databases.Database.adopt.Goals as goal

pub returns-clause-done : goal.returns-clause-done
returns-clause-done c = subst (λ (db : DatabaseValue). Defines c.args.self.now c.args.definition.now (Ok c.in_ok-take.field-0) db) (sym c.note_sides.ensures) c.in_ok-take.ensures.done
