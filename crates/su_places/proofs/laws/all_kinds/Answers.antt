use Rattle.std.proofs.Common.{refl}
use Rattle.su_places.proofs.AllKinds.{each_kind}
use Rattle.su_places.proofs.laws.all_kinds.Goals as goal

pub returns : goal.returns
returns c = record { each = each_kind; once = refl }
