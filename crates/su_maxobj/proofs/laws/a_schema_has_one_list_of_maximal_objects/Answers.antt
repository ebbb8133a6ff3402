-- What each seed grows to is settled, and so is what is listed.
use Rattle.su_maxobj.proofs.Listed.{one_list}
use Rattle.su_maxobj.proofs.laws.a_schema_has_one_list_of_maximal_objects.Goals as goal

pub returns : goal.returns
returns c = one_list
