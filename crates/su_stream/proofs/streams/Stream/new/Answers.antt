-- An empty text stands at its start.
use Rattle.std.proofs.Common.{refl}
use Rattle.su_stream.proofs.Fields.{new_has}
use Rattle.su_stream.proofs.streams.Stream.new.Goals as goal

pub returns : goal.returns
returns c = new_has _ c.new.ensures.items refl refl refl c.new-2.ensures refl
