-- The copied entries show the first attributes so far; as the names are distinct, the next one is no key yet and comes at the end.
use Rattle.std.proofs.Common.{◌≡◌, ◌+◌, Some, map, take, slice_get, refl, ◌∙◌}
use Rattle.std.proofs.lemmas.Option.{slice_get-map}
use Rattle.su_schema.specs.Shown.{shown_attribute}
use Rattle.su_schema.proofs.Copied.{copied_more}
use Rattle.su_schema.proofs.copying.copy_attributes.Goals as goal

pub loop-a-preserved : goal.loop-a-preserved
loop-a-preserved c =
    let at : slice_get (map shown_attribute c.args.attributes.now.entries) c.loop-a.a ≡ Some (shown_attribute (c.in-Some.name.now, c.in-Some.kind.now)) = slice_get-map shown_attribute c.args.attributes.now.entries c.loop-a.a ∙ rw (← c.in-Some.ensures.entry) refl in
    let more : map shown_attribute c.insert.new.self.entries ≡ take (c.loop-a.a + 1) (map shown_attribute c.args.attributes.now.entries) =
    copied_more shown_attribute (λ e. e.name) (λ e. refl) c.loop-a.copied.entries c.insert.new.self.entries c.in_ok-name.name _ (map shown_attribute c.args.attributes.now.entries) c.loop-a.a _ c.requires.apart c.loop-a.invariant at (rw (c.in_ok-name.ensures.ok, c.as_str.ensures.value) refl) c.in_ok-insert.ensures.entries in
    more
