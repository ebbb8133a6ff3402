-- A term that gives a kept one's frozen head covers it, and no other kept term does that.
use Rattle.su_min.proofs.Spared.{needed}
use Rattle.su_min.proofs.laws.kept_terms_are_needed.Goals as goal

pub returns : goal.returns
returns c = λ kinds terms r k tableaux minimised typed reduced typed_list answers. needed terms minimised r reduced kinds typed k tableaux typed_list answers
