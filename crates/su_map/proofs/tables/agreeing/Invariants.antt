use Rattle.su_map.proofs.AgreementTable.{AreToldTo}
use Rattle.su_map.proofs.tables.agreeing.Given as goal

abbrev pub invariant-loop-e : goal.invariant-loop-e
invariant-loop-e l = AreToldTo l.to l.columns l.target l.set l.e l.left
