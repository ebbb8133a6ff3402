-- The pieces behind those that were over are over too.
use Rattle.std.proofs.Common.{arith}
use Rattle.su_io.proofs.HeldPieces.{all_over}
use Rattle.su_io.proofs.holding_sink.HoldingSinkSink.flush.Goals as goal

pub returns-clause-over : goal.returns-clause-over
returns-clause-over c = all_over c.args.self.now.told c.args.self.now.over c.len-self.result c.args.self.now.pieces.items (omega (arith, c.len-self.ensures))
