-- What is held was handed on, and the sink below handed all over.
use Rattle.su_io.proofs.WrittenPieces.{Extends-trans}
use Rattle.su_io.proofs.buffered_sink.BufferedSinkSink.flush.Goals as goal

pub returns-clause-over : goal.returns-clause-over
returns-clause-over g c = Extends-trans _ _ _ c.in_ok-hand_on.ensures.over c.flush.ensures.over
