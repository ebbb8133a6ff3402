-- Those that are over stand before the piece that was taken.
use Rattle.su_io.proofs.HeldPieces.{one_held}
use Rattle.su_io.proofs.holding_sink.HoldingSinkSink.write.Goals as goal

pub returns-clause-over : goal.returns-clause-over
returns-clause-over c =
    rw (c.keep-kept.ensures.kept, c.keep-kept.ensures.rest.0, c.keep-kept.ensures.rest.1)
    (one_held c.args.self.now.told c.keep-kept.result c.args.self.now.over c.args.self.now.pieces.items c.args.bytes.now c.args.self.now.within)
