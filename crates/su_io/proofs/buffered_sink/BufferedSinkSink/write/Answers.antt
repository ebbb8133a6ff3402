-- What is held was handed on to the sink below, and then the bytes.
use Rattle.su_io.proofs.WrittenPieces.{Extends-trans}
use Rattle.su_io.proofs.buffered_sink.BufferedSinkSink.write.Goals as goal

pub returns-clause-over : goal.returns-clause-over
returns-clause-over g c = Extends-trans _ _ _ (rw c.if-hold.ensures.rest.0 at c.in_ok-hand_on.ensures.over) c.write.ensures.over
