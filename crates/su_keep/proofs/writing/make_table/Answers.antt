-- The number and the name are free; the table goes behind those of the relations before it.
use Rattle.std.proofs.Common.{ℕ, ◌+◌, refl, sym, ap, subst, ◌∙◌, arith}
use Rattle.std.specs.Prelude.{string_bytes}
use Rattle.sqlite_trees.specs.Objects.{shape_code, is_frozen, Creates}
use Rattle.su_keep.proofs.Written.{creates, row_of_object}
use Rattle.su_keep.proofs.writing.make_table.Goals as goal

pub create-requires : goal.create-requires
create-requires g c = λ clean. record {
  numbered = c.requires.numbered clean;
  low = omega (arith, c.from-tree.ensures, c.ranges.r.fits);
  unused = c.if-not-is_absent.ensures refl;
  shaped = λ e. let f = ap shape_code (sym c.object-object.ensures.shape ∙ e) in absurd (omega (arith, f));
  thawed = ap is_frozen c.object-object.ensures.shape;
  unnamed = c.in_ok-is_taken.ensures clean c.if-branch.false;
}

pub returns-clause-done : goal.returns-clause-done
returns-clause-done g c = λ now.
    let old = g.S.Store.view c.args.store.now in
    let new = g.S.Store.view c.create.new.self in
    let o = c.object-object.result in
    let table = c.in_ok-made.made in
    creates c.args.schema.now old new c.args.r o (subst (λ (n : ℕ). Creates old new n o) (ap (λ (n : ℕ). n + 1) c.from-tree.ensures) (c.in_ok-create.ensures.ok now)) (omega (arith, c.ranges.r.fits))
    (row_of_object c.args.schema.now c.args.r o (string_bytes table.name) (string_bytes table.statement) c.object-object.ensures.described c.in_ok-made.ensures.name c.in_ok-made.ensures.statement)
