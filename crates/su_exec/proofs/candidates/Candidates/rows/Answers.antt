-- That the rows are real is the invariant of candidates.
use Rattle.su_exec.proofs.candidates.Candidates.rows.Goals as goal

pub returns-clause-real : goal.returns-clause-real
returns-clause-real c = rw (← c.self.view_is) c.self.invariant.1
