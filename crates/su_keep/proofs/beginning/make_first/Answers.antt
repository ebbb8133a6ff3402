-- The table that is made is the only one, and has no row.
use Rattle.std.proofs.Common.{◌≢◌, refl, sym, ap, subst, inl, inr, ◌∙◌, arith, List}
use Rattle.std.specs.List.{AllByRecursion}
use Rattle.sqlite_value.specs.Order.{Row as Entry, column}
use Rattle.sqlite_value.specs.declared.value.Value.TheVariants.{Text}
use Rattle.sqlite_trees.specs.View.{IsClean}
use Rattle.sqlite_trees.specs.Objects.{shape_code, is_frozen, version_rows}
use Rattle.su_entries.proofs.QuietCalls.{clean_before}
use Rattle.su_keep.specs.inside.Stores.{AreEmpty}
use Rattle.su_keep.proofs.Begun.{empty_unlisted, empty_made, empty_committed, stands_committed}
use Rattle.su_keep.proofs.beginning.make_first.Goals as goal

pub create-requires : goal.create-requires
create-requires g c = λ clean. record {
  numbered = (c.requires.stands clean).numbered;
  low = omega arith;
  unused = c.if-not-is_absent.ensures refl;
  shaped = λ e. let f = ap shape_code (sym c.text_object-object.ensures ∙ e) in absurd (omega (arith, f));
  thawed = ap is_frozen c.text_object-object.ensures;
  unnamed = subst (λ (rows : List Entry). AllByRecursion (λ row. column row 2 ≢ Text c.text_object-object.result.name.now) rows) (sym (c.requires.none clean)) tt;
}

pub returns-in-Ok-clause-stands : goal.returns-in-Ok-clause-stands
returns-in-Ok-clause-stands g c = λ now.
    let view = g.S.Store.view in
    let mid : IsClean (view c.create.new.self) = omega (arith, c.commit.ensures.clean, now) in
    stands_committed (view c.args.store.now) (view c.create.new.self) (view c.commit.new.store) c.text_object-object.result (c.requires.stands (clean_before c.create.ensures.quiet mid)) (c.in_default.ensures.ok mid) (c.in-Ok.ensures.ok now)

pub returns-in-Ok-clause-made : goal.returns-in-Ok-clause-made
returns-in-Ok-clause-made g c = λ now.
    let view = g.S.Store.view in
    let store = c.args.store.now in
    let mid : IsClean (view c.create.new.self) = omega (arith, c.commit.ensures.clean, now) in
    let old = clean_before c.create.ensures.quiet mid in
    let stands = c.requires.stands old in
    let none = c.requires.none old in
    let empty = empty_unlisted (view store) (g.met.S.Alter.listed store stands.sound) (g.met.S.Store.ordered store stands.sound) none in (
      (none, c.version-version.ensures old stands.is_open ∙ ap version_rows c.if-version-ne0.false),
      empty_committed (view c.create.new.self) (view c.commit.new.store) (c.in-Ok.ensures.ok now) (empty_made (view store) (view c.create.new.self) c.text_object-object.result (c.in_default.ensures.ok mid) empty),
    )

pub returns-in-Ok-clause-crash : goal.returns-in-Ok-clause-crash
returns-in-Ok-clause-crash g c = λ trees now may.
    let view = g.S.Store.view in
    let store = c.args.store.now in
    let mid : IsClean (view c.create.new.self) = omega (arith, c.commit.ensures.clean, now) in
    let old = clean_before c.create.ensures.quiet mid in
    let stands = c.requires.stands old in
    let none = c.requires.none old in
    let empty = empty_unlisted (view store) (g.met.S.Alter.listed store stands.sound) (g.met.S.Store.ordered store stands.sound) none in
    elim (c.commit.ensures.crash trees may) [
      | inl w ↦ inr ((none, c.version-version.ensures old stands.is_open ∙ ap version_rows c.if-version-ne0.false), subst AreEmpty (sym w.1) (empty_made (view store) (view c.create.new.self) c.text_object-object.result (c.in_default.ensures.ok mid) empty))
      | inr was ↦ inl (c.create.ensures.quiet.outcomes trees was)
    ]

pub returns-in-Err-commit-clause-crash : goal.returns-in-Err-commit-clause-crash
returns-in-Err-commit-clause-crash g c = λ trees now may.
    let view = g.S.Store.view in
    let store = c.args.store.now in
    let mid : IsClean (view c.create.new.self) = omega (arith, c.commit.ensures.clean, now) in
    let old = clean_before c.create.ensures.quiet mid in
    let stands = c.requires.stands old in
    let none = c.requires.none old in
    let empty = empty_unlisted (view store) (g.met.S.Alter.listed store stands.sound) (g.met.S.Store.ordered store stands.sound) none in
    elim (c.commit.ensures.crash trees may) [
      | inl w ↦ inr ((none, c.version-version.ensures old stands.is_open ∙ ap version_rows c.if-version-ne0.false), subst AreEmpty (sym w.1) (empty_made (view store) (view c.create.new.self) c.text_object-object.result (c.in_default.ensures.ok mid) empty))
      | inr was ↦ inl (c.create.ensures.quiet.outcomes trees was)
    ]
