-- The text ends before the `;`, and an empty one begins behind it.
use Rattle.std.proofs.Common.{◌<◌, length, refl, arith}
use Rattle.su_stream.proofs.Fields.{cut_gives}
use Rattle.su_stream.proofs.streams.Stream.cut_off.Goals as goal

pub returns-clause-gives : goal.returns-clause-gives
returns-clause-gives c =
    let old = c.args.self.now in
    let within : old.seen < length old.held.items = omega (arith, c.requires.within, old.held.ok.0) in
    cut_gives old _ c.piece-piece.result c.requires.begun old.ordered within c.requires.ended c.piece-piece.ensures.is refl refl refl refl c.new-self.ensures c.requires.begun
