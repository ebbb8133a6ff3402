-- Over variables that differ each row of the right width is given by some valuation, so the rows are real.
use Rattle.su_exec.proofs.RealEdges.{real_from_widths}
use Rattle.su_exec.proofs.candidates.Candidates.apart.Goals as goal

pub new-requires-clause-real : goal.new-requires-clause-real
new-requires-clause-real c = real_from_widths c.args.vars.items c.args.rows.rows c.requires.apart (rw c.requires.width at c.keeps_its_rules.ensures)
