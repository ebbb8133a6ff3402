-- The text is all that is open, and nothing comes behind it.
use Rattle.su_stream.proofs.Fields.{last_closes, last_len}
use Rattle.su_stream.proofs.streams.Stream.last.Goals as goal

pub returns-clause-closes : goal.returns-clause-closes
returns-clause-closes c = last_closes c.args.self.now c.piece.result c.args.self.now.ordered c.requires c.piece.ensures.is

pub returns-clause-len : goal.returns-clause-len
returns-clause-len c = last_len c.args.self.now c.piece.result c.args.self.now.ordered c.requires c.piece.ensures.is
