-- What leads to an end from the start of this language is what has its form.
use Rattle.su_faults.specs.Languages.{AreStatement}
use Rattle.su_faults.specs.declared.spots.Language.TheVariants.{Statements}
use Rattle.su_faults.proofs.StatementsLead.{statement_taken, statement_leads}
use Rattle.su_faults.proofs.Loop.{Whole, told_of}
use Rattle.su_faults.proofs.finding.statement_fault.Goals as goal

pub returns : goal.returns
returns c = told_of (Whole Statements) AreStatement c.args.text.now c.first_fault.result statement_taken statement_leads c.first_fault.ensures
