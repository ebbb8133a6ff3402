-- The copied entries show the first objects so far, each with the set of its links; as the names are distinct, the next one is no key yet and comes at the end.
use Rattle.std.proofs.Common.{◌≡◌, ◌+◌, Some, map, take, slice_get, refl, sym, ◌∙◌}
use Rattle.std.proofs.lemmas.Option.{slice_get-map}
use Rattle.su_schema.specs.Shown.{shown_object}
use Rattle.su_schema.specs.inside.Kept.{HasItsSet}
use Rattle.std.proofs.lemmas.List.Elements.{All-push}
use Rattle.su_schema.proofs.Entries.{All-at}
use Rattle.su_schema.proofs.Copied.{copied_more, copied_last}
use Rattle.su_schema.proofs.copying.copy_objects.Goals as goal

pub loop-o-preserved : goal.loop-o-preserved
loop-o-preserved c =
    let at : slice_get (map shown_object c.args.objects.now.entries) c.loop-o.o ≡ Some (shown_object (c.in-Some.name.now, c.in-Some.object.now)) = slice_get-map shown_object c.args.objects.now.entries c.loop-o.o ∙ rw (← c.in-Some.ensures.entry) refl in
    let more : map shown_object c.insert.new.self.entries ≡ take (c.loop-o.o + 1) (map shown_object c.args.objects.now.entries) =
    copied_more shown_object (λ e. e.name) (λ e. refl) c.loop-o.copied.entries c.insert.new.self.entries c.in_ok-name.name _ (map shown_object c.args.objects.now.entries) c.loop-o.o _ c.requires.names.apart c.loop-o.invariant.copied at (rw (c.in_ok-name.ensures.ok, c.as_str.ensures.value, c.in_ok-object.ensures) refl) c.in_ok-insert.ensures.entries in
    let own : HasItsSet (c.in_ok-name.name, c.in_ok-object.object) = rw c.in_ok-object.ensures (All-at HasItsSet c.args.objects.now.entries c.loop-o.o _ c.requires.sets (sym c.in-Some.ensures.entry)) in
    record { copied = more; sets = rw (copied_last shown_object (λ e. e.name) (λ e. refl) c.loop-o.copied.entries c.insert.new.self.entries c.in_ok-name.name c.in_ok-object.object (map shown_object c.args.objects.now.entries) c.loop-o.o _ c.requires.names.apart c.loop-o.invariant.copied at (rw (c.in_ok-name.ensures.ok, c.as_str.ensures.value, c.in_ok-object.ensures) refl) c.in_ok-insert.ensures.entries) (All-push HasItsSet c.loop-o.copied.entries (c.in_ok-name.name, c.in_ok-object.object) c.loop-o.invariant.sets own) }
