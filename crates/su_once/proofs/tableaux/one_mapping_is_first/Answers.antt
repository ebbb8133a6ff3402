-- Of two first mappings neither comes behind the other.
use Rattle.su_once.proofs.Mapped.{one_first}
use Rattle.su_once.proofs.tableaux.one_mapping_is_first.Goals as goal

pub returns : goal.returns
returns c = one_first
