-- What is held is UTF-8, by the invariant of a held text.
use Rattle.std.proofs.lemmas.Str.{IsUtf8-had}
use Rattle.su_base.proofs.texts.Held.as_str.Goals as goal

pub from_utf8_unchecked-requires : goal.from_utf8_unchecked-requires
from_utf8_unchecked-requires g c = IsUtf8-had _ c.self.invariant.1
