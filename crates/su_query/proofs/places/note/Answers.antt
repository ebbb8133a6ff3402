-- A place that was seen keeps its number, and a new one gets the next.
use Rattle.std.proofs.Common.{◌≡◌, ◌∙◌, Some, None, sym, ap}
use Rattle.std.specs.Prelude.{position}
use Rattle.su_query.specs.Places.{same_place}
use Rattle.su_query.proofs.Noted.{seen_there, seen_new, number_new}
use Rattle.su_query.proofs.places.note.Goals as goal

pub returns-in-Some-clause-seen : goal.returns-in-Some-clause-seen
returns-in-Some-clause-seen c = seen_there c.args.place c.args.seen.now c.in-Some.number (sym (c.in-Some.ensures ∙ ap (position (same_place c.args.place)) c.as_slice.ensures))

pub returns-in_ok-push-in-None-clause-seen : goal.returns-in_ok-push-in-None-clause-seen
returns-in_ok-push-in-None-clause-seen c =
    let none : position (same_place c.args.place) c.args.seen.now ≡ None = sym (c.in-None.ensures ∙ ap (position (same_place c.args.place)) c.as_slice.ensures) in
    c.in_ok-push-in-None.ensures.ok ∙ seen_new c.args.place c.args.seen.now none

pub returns-in_ok-push-in-None-clause-number : goal.returns-in_ok-push-in-None-clause-number
returns-in_ok-push-in-None-clause-number c =
    let none : position (same_place c.args.place) c.args.seen.now ≡ None = sym (c.in-None.ensures ∙ ap (position (same_place c.args.place)) c.as_slice.ensures) in
    ap (position (same_place c.args.place)) c.in_ok-push-in-None.ensures.ok ∙ number_new c.args.place c.args.seen.now none ∙ ap Some (sym c.len-number.ensures)
