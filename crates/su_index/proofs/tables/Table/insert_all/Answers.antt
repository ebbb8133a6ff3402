-- The old rows are a front of the new ones, so cutting back to their number restores the relation, and the indexes of old are runs of that front to which the rest is added.
use Rattle.std.proofs.Common.{◌≡◌, ◌∙◌, length, arith, ap, sym}
use Rattle.su_rel.specs.Stored.{Stored}
use Rattle.su_index.proofs.Whole.{restored, run_first, run_length, run_within}
use Rattle.su_index.proofs.tables.Table.insert_all.Goals as goal

pub invariant_of-self-then-len-gt-MOST : goal.invariant_of-self-then-len-gt-MOST
invariant_of-self-then-len-gt-MOST c =
    let same : ◌≡◌ {A = Stored} c.truncate.new.self c.self.inside.rows = restored c.self.inside.rows c.insert_all.new.self c.truncate.new.self c.args.rows c.len-before.result c.in_ok-new.ensures.rows c.len-before.ensures c.insert_all.ensures.width c.truncate.ensures.width c.truncate.ensures.rows in
    rw same c.self.invariant

pub returns-then-len-gt-MOST-clause-unchanged : goal.returns-then-len-gt-MOST-clause-unchanged
returns-then-len-gt-MOST-clause-unchanged c =
    restored c.self.inside.rows c.insert_all.new.self c.truncate.new.self c.args.rows c.len-before.result c.in_ok-new.ensures.rows c.len-before.ensures c.insert_all.ensures.width c.truncate.ensures.width c.truncate.ensures.rows ∙ c.self.view_is

pub grown-requires-clause-runs : goal.grown-requires-clause-runs
grown-requires-clause-runs c = rw (c.as_slice.ensures.rows, c.as_slice-2.ensures.value) (run_first c.self.inside.rows c.insert_all.new.self c.args.rows c.self.inside.indexes.items c.in_ok-new.ensures.rows c.self.invariant.0)

pub grown-requires-clause-before : goal.grown-requires-clause-before
grown-requires-clause-before c = rw (c.as_slice-2.ensures.value, c.len-before.ensures) (run_length c.self.inside.rows c.self.inside.indexes.items c.self.invariant.0)

pub grown-requires-clause-within : goal.grown-requires-clause-within
grown-requires-clause-within c = rw (c.as_slice.ensures.rows, c.len-before.ensures) (run_within c.self.inside.rows c.insert_all.new.self c.args.rows c.in_ok-new.ensures.rows)

pub invariant_of-self-in_default : goal.invariant_of-self-in_default
invariant_of-self-in_default c =
    let same : ◌≡◌ {A = Stored} c.truncate-in_default.new.self c.self.inside.rows = restored c.self.inside.rows c.insert_all.new.self c.truncate-in_default.new.self c.args.rows c.len-before.result c.in_ok-new.ensures.rows c.len-before.ensures c.insert_all.ensures.width c.truncate-in_default.ensures.width c.truncate-in_default.ensures.rows in
    rw same c.self.invariant

pub returns-in_default-clause-unchanged : goal.returns-in_default-clause-unchanged
returns-in_default-clause-unchanged c =
    restored c.self.inside.rows c.insert_all.new.self c.truncate-in_default.new.self c.args.rows c.len-before.result c.in_ok-new.ensures.rows c.len-before.ensures c.insert_all.ensures.width c.truncate-in_default.ensures.width c.truncate-in_default.ensures.rows ∙ c.self.view_is

pub invariant_of-self-2 : goal.invariant_of-self-2
invariant_of-self-2 c = (
  record {
    count = c.in-Ok.ensures.len ∙ ap length c.as_slice-2.ensures.value ∙ c.self.invariant.0.count ∙ sym c.in_ok-new.ensures.width;
    small = omega (arith, c.len.ensures, c.if-len-gt-MOST.false);
    indexes = rw c.as_slice.ensures.rows at c.in-Ok.ensures.indexes;
  },
  c.forget.ensures c.insert_all.new.self.rows,
)
