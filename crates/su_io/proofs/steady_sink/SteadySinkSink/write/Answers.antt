-- The bytes that were kept stand behind those before.
use Rattle.su_io.proofs.HeldPieces.{kept_over}
use Rattle.su_io.proofs.steady_sink.SteadySinkSink.write.Goals as goal

pub returns-clause-over : goal.returns-clause-over
returns-clause-over c = kept_over _ c.keep-all.result _ _ _ _ c.keep-all.ensures.stored c.keep-all.ensures.all
