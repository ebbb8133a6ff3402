-- What leads to an end from the start of definitions is what is a definition.
use Rattle.su_faults.specs.Languages.{AreDefinition}
use Rattle.su_faults.specs.declared.spots.Language.TheVariants.{Definitions}
use Rattle.su_faults.proofs.DefinitionsLead.{definition_taken, definition_leads}
use Rattle.su_faults.proofs.Loop.{Whole, told_of}
use Rattle.su_faults.proofs.finding.definition_fault.Goals as goal

pub returns : goal.returns
returns c = told_of (Whole Definitions) AreDefinition c.args.text.now c.first_fault.result definition_taken definition_leads c.first_fault.ensures
