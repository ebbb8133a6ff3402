-- Declared sets are at most 64, and so are the seeds.
use Rattle.su_maxobj.proofs.Few.{few_maximal}
use Rattle.su_maxobj.proofs.laws.a_schema_has_few_maximal_objects.Goals as goal

pub returns : goal.returns
returns c = few_maximal
