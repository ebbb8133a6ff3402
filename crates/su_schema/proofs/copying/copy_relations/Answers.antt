-- The copied entries show the first relations so far; as the names are distinct, the next one is no key yet and comes at the end.
use Rattle.std.proofs.Common.{◌≡◌, ◌+◌, Some, map, take, slice_get, refl, ◌∙◌}
use Rattle.std.proofs.lemmas.Option.{slice_get-map}
use Rattle.su_schema.specs.Shown.{shown_relation}
use Rattle.su_schema.proofs.Copied.{copied_more}
use Rattle.su_schema.proofs.copying.copy_relations.Goals as goal

pub loop-r-preserved : goal.loop-r-preserved
loop-r-preserved c =
    let at : slice_get (map shown_relation c.args.relations.now.entries) c.loop-r.r ≡ Some (shown_relation (c.in-Some.name.now, c.in-Some.columns.now)) = slice_get-map shown_relation c.args.relations.now.entries c.loop-r.r ∙ rw (← c.in-Some.ensures.entry) refl in
    let more : map shown_relation c.insert.new.self.entries ≡ take (c.loop-r.r + 1) (map shown_relation c.args.relations.now.entries) =
    copied_more shown_relation (λ e. e.name) (λ e. refl) c.loop-r.copied.entries c.insert.new.self.entries c.in_ok-name.name _ (map shown_relation c.args.relations.now.entries) c.loop-r.r _ c.requires.apart c.loop-r.invariant at (rw (c.in_ok-name.ensures.ok, c.as_str.ensures.value, c.in_ok-columns.ensures, c.as_slice.ensures) refl) c.in_ok-insert.ensures.entries in
    more
