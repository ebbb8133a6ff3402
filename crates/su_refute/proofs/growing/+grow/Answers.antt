-- The row with the fewest targets left gets a branch for each of them, and the tree below a branch is the one for what agrees with it; the nodes are those of the branches and one.
use Rattle.std.proofs.Common.{Err, ◌≡◌, ◌↔◌, List, Contains, ℕ, ◌<◌, ◌+◌, length, get_or, sym, ap, subst, ◌∙◌, true≢false, arith}
use Rattle.std.specs.Int.{bit_at}
use Rattle.std.specs.List.{sum_by}
use Rattle.std.proofs.lemmas.Result.{err_from_is_err_and}
use Rattle.su_map.proofs.SearchStates.{without_less}
use Rattle.su_refute.specs.declared.faults.RefuteFault.TheVariants.{Nodes}
use Rattle.su_refute.specs.Trees.{lines_in}
use Rattle.su_refute.specs.inside.Positions.{Stands}
use Rattle.su_refute.proofs.TreeSoFar.{some_todo, todo_within}
use Rattle.su_refute.proofs.Grown.{tree_grown, row_in, target_in, sets_in, stands_next, targets_more, targets_same, counted_more, trees_more, over_grown, tree_below}
use Rattle.su_refute.proofs.OneTree.{branch_count, count_made}
use Rattle.su_refute.proofs.growing.+grow.Goals as goal
use Rattle.su_refute.proofs.growing.+grow.Goals.{then-has+in_ok-less+in_ok-grown+in_ok-push, else-has}

pub fewest-row-requires-clause-some : goal.fewest-row-requires-clause-some
fewest-row-requires-clause-some t c = some_todo c.args.net.now c.args.todo c.args.left.now c.requires.stands

pub fewest-row-requires-clause-within : goal.fewest-row-requires-clause-within
fewest-row-requires-clause-within t c = todo_within c.args.net.now c.args.todo c.args.left.now c.requires.stands

pub agree-requires-clause-row : goal.agree-requires-clause-row
agree-requires-clause-row t c = row_in c.args.net.now c.args.todo c.args.left.now c.requires.stands c.fewest-row.result c.fewest-row.ensures.member

pub agree-requires-clause-target : goal.agree-requires-clause-target
agree-requires-clause-target t c = let e = target_in c.args.net.now c.args.todo c.args.left.now c.requires.stands c.fewest-row.result c.fewest-row.ensures.member in omega arith

pub narrowed-requires : goal.narrowed-requires
narrowed-requires t c =
    let e = ap length c.agree.ensures in
    let s = sets_in c.args.net.now c.args.todo c.args.left.now c.requires.stands c.fewest-row.result c.loop-target.target c.fewest-row.ensures.member (omega arith) in
    omega arith

pub grow-requires : goal.grow-requires
grow-requires t c =
    let net = c.args.net.now in let todo = c.args.todo in let left = c.args.left.now in let row = c.fewest-row.result in let j = c.loop-target.target in let rest = c.without-rest.result in
    let both = λ (q i : ℕ) (h : q < length left). subst (λ (sets : List ℕ). (bit_at (get_or c.in_ok-less.less q 0) i ≡ 1) ↔ ((bit_at (get_or left q 0) i ≡ 1) × (bit_at (get_or sets q 0) i ≡ 1))) c.agree.ensures (c.in_ok-less.ensures.both q i h) in
    let next = stands_next net todo rest left c.in_ok-less.less row j c.requires.stands c.fewest-row.ensures.member (c.has.ensures.0 c.if-has.true) c.without-rest.ensures.same c.without-rest.ensures.out c.in_ok-less.ensures.one_each both in (
      (let l = without_less todo rest row c.fewest-row.ensures.member c.without-rest.ensures.out c.without-rest.ensures.same in omega (arith, c.decreases)),
      subst (Stands net rest) (sym c.as_slice.ensures) next,
    )

pub returns-in_err-grown-clause-over : goal.returns-in_err-grown-clause-over
returns-in_err-grown-clause-over t c =
    let net = c.args.net.now in let todo = c.args.todo in let left = c.args.left.now in let row = c.fewest-row.result in let j = c.loop-target.target in let rest = c.without-rest.result in
    let both = λ (q i : ℕ) (h : q < length left). subst (λ (sets : List ℕ). (bit_at (get_or c.in_ok-less.less q 0) i ≡ 1) ↔ ((bit_at (get_or left q 0) i ≡ 1) × (bit_at (get_or sets q 0) i ≡ 1))) c.agree.ensures (c.in_ok-less.ensures.both q i h) in
    let p = err_from_is_err_and c.from_residual-in_err-grown.result c.from_residual-in_err-grown.ensures.1 in
    rw (p.1, p.2) (λ nodes s n tree.
    let h : c.in_err-grown.field-0.0 ≡ Nodes = cc in
    over_grown net todo rest left c.in_ok-less.less c.as_slice.result.now row j c.loop-target.next c.loop-target.unused c.args.budget s n c.as_slice.ensures c.fewest-row.ensures (c.has.ensures.0 c.if-has.true) c.without-rest.ensures.same c.without-rest.ensures.out c.in_ok-less.ensures.one_each both
    c.loop-target.invariant.targets (c.loop-target.invariant.trees s) c.loop-target.invariant.counted (c.in_err-grown.ensures.over (ap Err h)) tree)

pub loop-target-preserved : goal.loop-target-preserved
loop-target-preserved t c =
    let net = c.args.net.now in let todo = c.args.todo in let left = c.args.left.now in let row = c.fewest-row.result in let j = c.loop-target.target in let rest = c.without-rest.result in
    elim c.if-has.branch [
      | then-has+in_ok-less+in_ok-grown+in_ok-push w ↦
          let both = λ (q i : ℕ) (h : q < length left). subst (λ (sets : List ℕ). (bit_at (get_or w.in_ok-less.less q 0) i ≡ 1) ↔ ((bit_at (get_or left q 0) i ≡ 1) × (bit_at (get_or sets q 0) i ≡ 1))) w.agree.ensures (w.in_ok-less.ensures.both q i h) in
          let is = w.next-is ∙ w.in_ok-push.ensures.ok in
          let one = c.has.ensures.0 w.if-has.true in
          record {
            targets = targets_more (get_or left row 0) j c.loop-target.next c.if-has.next w.in_ok-grown.grown.node is one c.loop-target.invariant.targets;
            counted = subst (λ u. u + (1 + sum_by branch_count c.if-has.next) ≡ c.args.budget) (sym w.unused-is) (counted_more j c.loop-target.next c.if-has.next w.in_ok-grown.grown.node c.loop-target.unused w.in_ok-grown.grown.unused c.args.budget is c.loop-target.invariant.counted w.in_ok-grown.ensures.counted);
            trees = λ s b has. trees_more (lines_in s.tableau s.mask) s.left_out s.sent row j c.loop-target.next c.if-has.next w.in_ok-grown.grown.node is (c.loop-target.invariant.trees s)
                (tree_below net todo rest left w.in_ok-less.less w.as_slice.result.now row j s w.in_ok-grown.grown.node w.as_slice.ensures c.fewest-row.ensures one c.without-rest.ensures.same c.without-rest.ensures.out w.in_ok-less.ensures.one_each both w.in_ok-grown.ensures.tree) b has;
          }
      | else-has w ↦ record {
        targets = targets_same (get_or left row 0) j c.loop-target.next c.if-has.next w.next-is (λ one. true≢false (sym (c.has.ensures.1 one) ∙ w.if-has.false)) c.loop-target.invariant.targets;
        counted = let e = w.unused-is in let b = ap (sum_by branch_count) w.next-is in let i = c.loop-target.invariant.counted in omega arith;
        trees = λ s b has. c.loop-target.invariant.trees s b (subst (λ bs. Contains bs b) w.next-is has);
      }
    ]

pub returns-clause-tree : goal.returns-clause-tree
returns-clause-tree t c = λ s. tree_grown c.args.net.now c.args.todo c.args.left.now s c.fewest-row.result c.loop-target.next c.loop-target.target c.fewest-row.ensures (omega arith) c.loop-target.invariant.targets (c.loop-target.invariant.trees s)

pub returns-clause-counted : goal.returns-clause-counted
returns-clause-counted t c = let e = count_made c.fewest-row.result c.loop-target.next in let i = c.loop-target.invariant.counted in omega arith
