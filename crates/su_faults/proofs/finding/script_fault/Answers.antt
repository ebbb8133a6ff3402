-- What leads to an end from the start of this language is what has its form.
use Rattle.su_faults.specs.Languages.{AreEither}
use Rattle.su_faults.specs.declared.spots.Language.TheVariants.{Either}
use Rattle.su_faults.proofs.EitherLead.{either_taken, either_leads}
use Rattle.su_faults.proofs.Loop.{Whole, told_of}
use Rattle.su_faults.proofs.finding.script_fault.Goals as goal

pub returns : goal.returns
returns c = told_of (Whole Either) AreEither c.args.text.now c.first_fault.result either_taken either_leads c.first_fault.ensures
