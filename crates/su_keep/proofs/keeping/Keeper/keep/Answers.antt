-- What is written shows the database, and the commit makes it stay.
use Rattle.std.proofs.Common.{◌≡◌, inl, inr, ℕ, List, [], Some, length, refl, sym, ap, subst, ◌∙◌, arith}
use Rattle.sqlite_trees.specs.Tree.{Trees}
use Rattle.sqlite_trees.specs.View.{IsClean}
use Rattle.su_schema.specs.SchemaValue.{SchemaValue}
use Rattle.su_ddl.specs.Shown.{schema_text}
use Rattle.su_changes.specs.declared.changes.Change.{Change}
use Rattle.su_keep.specs.Shown.{Shows}
use Rattle.su_keep.specs.Kept.{Leads}
use Rattle.su_keep.proofs.Stood.{stands_still, stands_after, written_shows, reads_again, opened, on_err}
use Rattle.su_keep.proofs.keeping.Keeper.keep.Goals as goal

pub returns-then-is_idle-clause-done : goal.returns-then-is_idle-clause-done
returns-then-is_idle-clause-done g c = λ kept may clean.
    let after = c.args.database.now in
    let none : c.args.changes ≡ [] = sym c.as_slice-2.ensures ∙ c.if-is_idle.ensures.none refl in
    let is : c.in_ok-text.text ≡ schema_text after.schema = c.in_ok-text.ensures.text ∙ ap schema_text c.schema-schema.ensures in
    let held : c.args.self.now.text ≡ Some (schema_text after.schema) = c.if-is_idle.ensures.held refl ∙ ap (λ (t : List ℕ). Some t) (c.as_slice.ensures ∙ is) in
    stands_still kept after c.args.self.now.relations c.args.self.now.text c.args.self.now.has_failed (g.S.Store.view c.args.self.now.store) may.0
    (subst (λ (cs : List Change). Leads kept cs after) none may.1) held
    (reads_again after c.schema-schema.result.now c.in_ok-text.text c.schema-schema.ensures is c.in_ok-text.ensures.again c.keeps_its_rules.ensures.tables)

pub returns-in_err-commit-clause-crash : goal.returns-in_err-commit-clause-crash
returns-in_err-commit-clause-crash g c = λ kept may clean trees found.
    let view = g.S.Store.view in
    let after = c.args.database.now in
    let before : IsClean (view c.write_group.new.store) = omega (arith, c.commit.ensures.clean, clean) in
    let many : length c.schema-schema.result.now.relations ≡ length after.tables = ap (λ (s : SchemaValue). length s.relations) c.schema-schema.ensures ∙ sym c.keeps_its_rules.ensures.tables in
    let is : c.as_slice-3.result.now ≡ schema_text after.schema = c.as_slice-3.ensures ∙ c.in_ok-text.ensures.text ∙ ap schema_text c.schema-schema.ensures in
    let shows : Shows (view c.write_group.new.store).trees after = written_shows kept c.args.changes after c.schema-schema.result.now c.args.self.now.relations (length c.schema-schema.result.now.relations) c.args.self.now.text c.args.self.now.has_failed c.as_slice-3.result.now
    (view c.args.self.now.store) (view c.write_group.new.store) may.0 may.1 (c.in_default.ensures.done before) c.schema-schema.ensures many is c.keeps_its_rules.ensures.tables (omega (arith, many, c.keeps_its_rules-2.ensures.few_relations)) in
    elim (c.commit.ensures.crash trees found) [
      | inl w ↦ inr (subst (λ (t : Trees). Shows t after) (sym w.1) shows)
      | inr was ↦ inl (c.write_group.ensures.quiet.outcomes trees was)
    ]

pub returns-clause-crash : goal.returns-clause-crash
returns-clause-crash g c = λ kept may clean trees found.
    let view = g.S.Store.view in
    let after = c.args.database.now in
    let before : IsClean (view c.write_group.new.store) = omega (arith, c.commit.ensures.clean, clean) in
    let many : length c.schema-schema.result.now.relations ≡ length after.tables = ap (λ (s : SchemaValue). length s.relations) c.schema-schema.ensures ∙ sym c.keeps_its_rules.ensures.tables in
    let is : c.as_slice-3.result.now ≡ schema_text after.schema = c.as_slice-3.ensures ∙ c.in_ok-text.ensures.text ∙ ap schema_text c.schema-schema.ensures in
    let shows : Shows (view c.write_group.new.store).trees after = written_shows kept c.args.changes after c.schema-schema.result.now c.args.self.now.relations (length c.schema-schema.result.now.relations) c.args.self.now.text c.args.self.now.has_failed c.as_slice-3.result.now
    (view c.args.self.now.store) (view c.write_group.new.store) may.0 may.1 (c.in_default.ensures.done before) c.schema-schema.ensures many is c.keeps_its_rules.ensures.tables (omega (arith, many, c.keeps_its_rules-2.ensures.few_relations)) in
    elim (c.commit.ensures.crash trees found) [
      | inl w ↦ inr (subst (λ (t : Trees). Shows t after) (sym w.1) shows)
      | inr was ↦ inl (c.write_group.ensures.quiet.outcomes trees was)
    ]

pub returns-clause-done : goal.returns-clause-done
returns-clause-done g c = λ kept may clean.
    let view = g.S.Store.view in
    let mid = view c.write_group.new.store in
    let after = c.args.database.now in
    let before : IsClean mid = omega (arith, c.commit.ensures.clean, clean) in
    let many : length c.schema-schema.result.now.relations ≡ length after.tables = ap (λ (s : SchemaValue). length s.relations) c.schema-schema.ensures ∙ sym c.keeps_its_rules.ensures.tables in
    let its : c.in_ok-text.text ≡ schema_text after.schema = c.in_ok-text.ensures.text ∙ ap schema_text c.schema-schema.ensures in
    let shows : Shows mid.trees after = written_shows kept c.args.changes after c.schema-schema.result.now c.args.self.now.relations (length c.schema-schema.result.now.relations) c.args.self.now.text c.args.self.now.has_failed c.as_slice-3.result.now
    (view c.args.self.now.store) mid may.0 may.1 (c.in_default.ensures.done before) c.schema-schema.ensures many (c.as_slice-3.ensures ∙ its) c.keeps_its_rules.ensures.tables (omega (arith, many, c.keeps_its_rules-2.ensures.few_relations)) in
    let done = c.in_ok-commit.ensures.ok clean in
    stands_after after c.relations.result c.in_ok-text.text mid (view c.commit.new.store) shows done (opened mid.is_open mid.is_broken done.sound (g.met.S.Store.broken_if_shut c.write_group.new.store)) (c.relations.ensures ∙ many) its
    (reads_again after c.schema-schema.result.now c.in_ok-text.text c.schema-schema.ensures its c.in_ok-text.ensures.again c.keeps_its_rules.ensures.tables)

pub returns-in-Err-clause-stays : goal.returns-in-Err-clause-stays
returns-in-Err-clause-stays g c = λ kept stood clean opens.
    let last = (g.S.Store.view c.rollback.new.self).committed in
    g.met.S.Store.settled c.args.self.now.store last stood.is_open (c.write_group.ensures.quiet.outcomes last (c.rollback.ensures.quiet.outcomes last (g.met.S.Store.stays c.rollback.new.self opens)))

pub returns-in_err-commit-clause-stays : goal.returns-in_err-commit-clause-stays
returns-in_err-commit-clause-stays g c = λ kept stood. on_err c.from_residual-in_err-commit.result (λ clean opens.
    let last = (g.S.Store.view c.write_group.new.store).committed in
    let back = c.in_err-commit.ensures.err.kept clean in
    back.committed opens ∙ g.met.S.Store.settled c.args.self.now.store last stood.is_open (c.write_group.ensures.quiet.outcomes last (g.met.S.Store.stays c.write_group.new.store (back.was_open opens))))
