-- The bytes that are held begin where the open text does.
use Rattle.std.proofs.Common.{◌≡◌, ◌≤◌, length, drop, refl, ap, ◌∙◌, arith}
use Rattle.std.proofs.lemmas.List.{take_rest}
use Rattle.su_stream.proofs.Fields.{let_go_same}
use Rattle.su_stream.proofs.streams.Stream.let_go.Goals as goal

pub returns-clause-same : goal.returns-clause-same
returns-clause-same c =
    let old = c.args.self.now in
    let held : c.extend_from_slice.new.self.items ≡ drop old.from old.held.items = rw (c.in_ok-extend_from_slice.ensures.items, c.new-kept.ensures.items, c.deref.ensures.value, take_rest) refl in
    let within : old.seen ≤ length old.held.items = omega (arith, old.within, old.held.ok.0) in
    let_go_same old _ (record { ordered = old.ordered; within = within; state = refl; begun = refl }) held refl refl refl

pub returns-clause-held : goal.returns-clause-held
returns-clause-held c =
    let old = c.args.self.now in
    let held : c.extend_from_slice.new.self.items ≡ drop old.from old.held.items = rw (c.in_ok-extend_from_slice.ensures.items, c.new-kept.ensures.items, c.deref.ensures.value, take_rest) refl in
    c.extend_from_slice.new.self.ok.0 ∙ ap length held
