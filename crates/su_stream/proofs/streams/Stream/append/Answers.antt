-- Bytes behind those that are held come behind the open text.
use Rattle.std.proofs.Common.{◌≤◌, length, refl, arith}
use Rattle.su_stream.proofs.Fields.{appended_takes}
use Rattle.su_stream.proofs.streams.Stream.append.Goals as goal

pub returns-clause-took : goal.returns-clause-took
returns-clause-took c =
    let old = c.args.self.now in
    let within : old.seen ≤ length old.held.items = omega (arith, old.within, old.held.ok.0) in
    appended_takes old _ c.args.bytes.now (record { ordered = old.ordered; within = within; state = refl; begun = refl }) c.in_ok-extend_from_slice.ensures.items refl refl refl
