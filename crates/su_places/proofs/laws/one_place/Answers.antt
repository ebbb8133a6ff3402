use Rattle.su_faults.specs.Languages.{AreEither}
use Rattle.su_places.proofs.OnePlace.{one_told}
use Rattle.su_places.proofs.laws.one_place.Goals as goal

pub returns : goal.returns
returns c = one_told AreEither
