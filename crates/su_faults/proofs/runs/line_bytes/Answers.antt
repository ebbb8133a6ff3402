-- Where no line feed is found every byte belongs to the line.
use Rattle.std.proofs.Common.{sym, not, ◌==◌}
use Rattle.su_lex.proofs.Runs.{none_other}
use Rattle.su_faults.proofs.runs.line_bytes.Goals as goal

pub returns-in-None-clause-count : goal.returns-in-None-clause-count
returns-in-None-clause-count c = none_other (λ b. not (b == 10)) _ (sym c.in-None.ensures)
