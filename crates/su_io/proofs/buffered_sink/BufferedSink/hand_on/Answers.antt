-- What is held is less by what the sink below took, which was written more; a failed call took nothing.
use Rattle.std.proofs.Common.{◌∙◌}
use Rattle.std.proofs.lemmas.List.{take_rest}
use Rattle.su_io.proofs.WrittenPieces.{Grew-stays, Extends-trans, held_less}
use Rattle.su_io.proofs.buffered_sink.BufferedSink.hand_on.Goals as goal

pub returns-in_err-self-clause-over : goal.returns-in_err-self-clause-over
returns-in_err-self-clause-over g c = Extends-trans _ _ _ c.loop-self.invariant.over c.in_err-self.ensures.over

pub loop-self-preserved : goal.loop-self-preserved
loop-self-preserved g c =
    let inv = c.loop-self.invariant in
    let bytes = c.loop-self.self.bytes.items in
    let taken = c.loop-self.self.taken in
    let whole = take_rest bytes taken in
    record {
      faults = c.in_ok-self.ensures.cause.accepted ∙ inv.faults;
      kept = Grew-stays _ _ _ _ inv.kept (held_less _ _ taken c.in_ok-self.field-0 bytes (rw (c.as_slice.ensures.value, whole) at c.in_ok-self.ensures.grew));
      over = Extends-trans _ _ _ inv.over c.in_ok-self.ensures.over;
    }
