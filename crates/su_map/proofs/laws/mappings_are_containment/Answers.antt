-- Over the frozen rows of the contained tableau the other has the frozen head, and so a mapping.
use Rattle.su_map.proofs.Containment.{containment}
use Rattle.su_map.proofs.laws.mappings_are_containment.Goals as goal

pub returns : goal.returns
returns c = containment
