-- At any time what is over is a front of what was written.
use Rattle.su_io.proofs.outside.Outside.hand_over.Goals as goal

pub returns-clause-front : goal.returns-clause-front
returns-clause-front g c = rw (← c.self.view_is) (g.met.K.Sink.front c.self.inside.sink)
