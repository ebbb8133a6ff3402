-- A row of a term is that of an origin, whose object has the row's essential columns.
use Rattle.su_steps.proofs.Origins.{rows_have_sources}
use Rattle.su_steps.proofs.laws.rows_have_sources.Goals as goal

pub returns : goal.returns
returns c = λ schema maximal q ts valid resolved terms t m i has low. rows_have_sources schema maximal q valid resolved ts terms t m i has low
