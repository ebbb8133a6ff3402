-- It is well kept by the invariant of its type.
use Rattle.su_state.proofs.databases.Database.keeps_its_rules.Goals as goal

pub returns : goal.returns
returns c = rw (← c.self.view_is) c.self.invariant
