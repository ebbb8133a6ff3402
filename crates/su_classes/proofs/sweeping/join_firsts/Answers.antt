-- Each row and its first one agree on the left side in every closed labelling, so a merge of their right sides is forced.
use Rattle.std.proofs.Common.{◌≡◌, ℕ, [], length, refl, sym, ◌∙◌, subst, arith}
use Rattle.std.specs.Prelude.{All}
use Rattle.std.specs.FinSet.{empty}
use Rattle.std.proofs.lemmas.Bool.{true≢false}
use Rattle.std.proofs.lemmas.List.{get_or_read}
use Rattle.su_classes.specs.declared.items.Placed.{Placed}
use Rattle.su_fd.specs.MetDependencies.{LiesIn}
use Rattle.su_classes.specs.Items.{item_of, IsPlacedBelow}
use Rattle.su_classes.specs.inside.Tables.{IsJoining}
use Rattle.su_classes.specs.inside.Firsts.{row_at, first_at}
use Rattle.su_classes.proofs.Listed.{right_cells}
use Rattle.su_classes.proofs.JoinedRows.{bound_more, bound_pass, bound_keeps}
use Rattle.su_classes.proofs.sweeping.join_firsts.Goals as goal
use Rattle.su_classes.proofs.sweeping.join_firsts.Goals.{then-lies_in, else-lies_in}

pub join_at-changed-requires-clause-left : goal.join_at-changed-requires-clause-left
join_at-changed-requires-clause-left c =
    let rows = c.args.rows.now in
    let n = c.loop-position.position in
    let d : Placed = record { has = empty; cells = [] } in
    let row : Placed = c.index-rows-position.result in
    let is : row ≡ row_at rows n = get_or_read rows n row c.loop-position-test.true c.index-rows-position.is d in
    let placed : IsPlacedBelow (length c.loop-position.table) row =
    subst (λ (k : ℕ). IsPlacedBelow k row) (sym c.loop-position.invariant.merging.same_length) (subst (λ (r : Placed). IsPlacedBelow (length c.args.table.now) r) (sym is) (c.requires.cells n d c.loop-position-test.true)) in
    right_cells (length c.loop-position.table) c.args.fd.now row placed (c.if-lies_in.ensures.0 refl) c.args.right.now c.requires.right

pub join_at-changed-requires-clause-right : goal.join_at-changed-requires-clause-right
join_at-changed-requires-clause-right c =
    let rows = c.args.rows.now in
    let n = c.loop-position.position in
    let first = first_at c.args.firsts.now n in
    let d : Placed = record { has = empty; cells = [] } in
    let row : Placed = c.index-rows-position.result in
    let is : row ≡ row_at rows n = get_or_read rows n row c.loop-position-test.true c.index-rows-position.is d in
    let first_in = c.requires.firsts.within n c.loop-position-test.true in
    let lies : LiesIn c.args.fd.now (row_at rows first).has = c.requires.firsts.lies n c.loop-position-test.true (subst (λ (r : Placed). LiesIn c.args.fd.now r.has) is (c.if-lies_in.ensures.0 refl)) in
    let other : Placed = c.index-rows-firsts.result in
    let other_is : other ≡ row_at rows first = get_or_read rows first other first_in c.index-rows-firsts.is d in
    let placed : IsPlacedBelow (length c.loop-position.table) other =
    subst (λ (k : ℕ). IsPlacedBelow k other) (sym c.loop-position.invariant.merging.same_length) (subst (λ (r : Placed). IsPlacedBelow (length c.args.table.now) r) (sym other_is) (c.requires.cells first d first_in)) in
    right_cells (length c.loop-position.table) c.args.fd.now other placed (subst (λ (r : Placed). LiesIn c.args.fd.now r.has) (sym other_is) lies) c.args.right.now c.requires.right

pub loop-position-preserved : goal.loop-position-preserved
loop-position-preserved c =
    let fd = c.args.fd.now in
    let rows = c.args.rows.now in
    let firsts = c.args.firsts.now in
    let right = c.args.right.now in
    let old = c.args.table.now in
    let t = c.loop-position.table in
    let n = c.loop-position.position in
    let first = first_at firsts n in
    let d : Placed = record { has = empty; cells = [] } in
    let row : Placed = c.index-rows-position.result in
    let is : row ≡ row_at rows n = get_or_read rows n row c.loop-position-test.true c.index-rows-position.is d in
    elim c.if-lies_in.branch [
      | then-lies_in w ↦
          let new = w.join_at-changed.new.table in
          let other : Placed = w.index-rows-firsts.result in
          let other_is : other ≡ row_at rows first = get_or_read rows first other (c.requires.firsts.within n c.loop-position-test.true) w.index-rows-firsts.is d in
          let lies : LiesIn fd (row_at rows n).has = subst (λ (r : Placed). LiesIn fd r.has) is (w.if-lies_in.ensures.0 refl) in
          let joining : IsJoining (λ label. All (λ a. label (item_of (row_at rows n) a) ≡ label (item_of (row_at rows first) a)) right) t new =
          subst (λ (r : Placed). IsJoining (λ label. All (λ a. label (item_of r a) ≡ label (item_of (row_at rows first) a)) right) t new) is
          (subst (λ (q : Placed). IsJoining (λ label. All (λ a. label (item_of row a) ≡ label (item_of q a)) right) t new) other_is w.join_at-changed.ensures.joining) in
          rw (w.table-is, w.changed-is) (
          bound_more fd rows firsts old c.requires.flat c.requires.cells c.requires.firsts t new n c.loop-position.changed w.join_at-changed.result right c.loop-position-test.true lies c.requires.right c.loop-position.invariant joining w.join_at-changed.ensures.progress)
      | else-lies_in w ↦
          rw (w.table-is, w.changed-is) (
          bound_pass fd rows firsts old c.requires.flat c.requires.cells c.requires.firsts t n c.loop-position.changed
          (λ lies. true≢false (sym (c.lies_in.ensures.1 (subst (λ (r : Placed). LiesIn fd r.has) (sym is) lies)) ∙ w.if-lies_in.false)) c.loop-position.invariant)
    ]

pub returns-clause-settled : goal.returns-clause-settled
returns-clause-settled c =
    bound_keeps c.args.fd.now c.args.rows.now c.args.firsts.now c.args.table.now c.requires.flat c.requires.cells c.requires.firsts c.loop-position.table c.loop-position.position c.loop-position.changed (omega arith) c.loop-position.invariant
