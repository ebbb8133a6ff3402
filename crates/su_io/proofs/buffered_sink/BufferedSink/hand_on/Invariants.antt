use Rattle.std.proofs.Common.{◌≡◌, ◌-◌, length}
use Rattle.su_io.specs.Ends.{Stays, Extends, held_behind}
use Rattle.su_io.proofs.buffered_sink.BufferedSink.hand_on.Given as goal

abbrev pub invariant-loop-self : goal.invariant-loop-self
invariant-loop-self g l = record {
  faults : g.K.Sink.faults l.self.sink ≡ g.K.Sink.faults l.fn.self.sink;
  kept : Stays (held_behind (g.K.Sink.written l.fn.self.sink) l.fn.self.taken l.fn.self.bytes.items) (held_behind (g.K.Sink.written l.self.sink) l.self.taken l.self.bytes.items);
  over : Extends (g.K.Sink.over l.fn.self.sink) (g.K.Sink.over l.self.sink);
}

abbrev pub decreases-loop-self : goal.decreases-loop-self
decreases-loop-self g l = length l.self.bytes.items - l.self.taken
