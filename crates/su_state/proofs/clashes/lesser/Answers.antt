-- A row that doesn't clash leaves the least as it is, and one that does takes its place where it comes before it in the order of rows.
use Rattle.std.proofs.Common.{◌≡◌, inl, inr, refl, sym}
use Rattle.std.proofs.lemmas.Bool.{false≢true}
use Rattle.su_base.specs.Value.{compare_lists}
use Rattle.su_base.proofs.Numbers.{is_lt-Less}
use Rattle.su_state.specs.inside.Sides.{row_at}
use Rattle.su_state.proofs.Least.{not_less, row_there}
use Rattle.su_state.proofs.clashes.lesser.Goals as goal

pub returns-then-not-clash : goal.returns-then-not-clash
returns-then-not-clash c =
    let is : row_at c.args.table.now.rows c.args.position ≡ c.row-other.result.now = row_there c.args.table.now.rows c.args.position c.row-other.result.now c.row-other.ensures in
    inl (rw is (λ clash. false≢true (c.if-not-clash.ensures.1 clash)), refl)

pub returns-then-is_before : goal.returns-then-is_before
returns-then-is_before c =
    let is : row_at c.args.table.now.rows c.args.position ≡ c.row-other.result.now = row_there c.args.table.now.rows c.args.position c.row-other.result.now c.row-other.ensures in
    let other : row_at c.args.table.now.rows c.in-Some.q ≡ c.row.result.now = row_there c.args.table.now.rows c.in-Some.q c.row.result.now c.row.ensures in
    rw (c.in-Some.is, is) (inr (c.if-not-clash.ensures.0 refl, inl (rw other (is_lt-Less (compare_lists c.row-other.result.now c.row.result.now) (sym c.if-is_before.ensures)), refl)))

pub returns-else-is_before : goal.returns-else-is_before
returns-else-is_before c =
    let is : row_at c.args.table.now.rows c.args.position ≡ c.row-other.result.now = row_there c.args.table.now.rows c.args.position c.row-other.result.now c.row-other.ensures in
    let other : row_at c.args.table.now.rows c.in-Some.q ≡ c.row.result.now = row_there c.args.table.now.rows c.in-Some.q c.row.result.now c.row.ensures in
    rw (c.in-Some.is, is) (inr (c.if-not-clash.ensures.0 refl, inr (rw other (not_less (compare_lists c.row-other.result.now c.row.result.now) (sym c.if-is_before.ensures)), refl)))

pub returns-in-None : goal.returns-in-None
returns-in-None c =
    let is : row_at c.args.table.now.rows c.args.position ≡ c.row-other.result.now = row_there c.args.table.now.rows c.args.position c.row-other.result.now c.row-other.ensures in
    rw (c.in-None.is, is) (inr (c.if-not-clash.ensures.0 refl, refl))
