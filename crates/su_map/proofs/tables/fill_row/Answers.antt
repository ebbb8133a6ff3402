-- The tables of the rows before stay, and those of row i with each row so far tell which targets of the two agree in what the rows share.
use Rattle.std.proofs.Common.{◌≡◌, ◌≢◌, ◌+◌, ◌*◌, ◌∙◌, ℕ, [], get_or, Contains, sym, ap, subst, true≢false, arith, below_more}
use Rattle.std.specs.Int.{bit_at}
use Rattle.su_tableau.specs.declared.symbols.Sym.TheVariants.{Var}
use Rattle.su_map.specs.Lists.{row_of}
use Rattle.su_map.specs.inside.Targets.{IsTold}
use Rattle.su_map.proofs.AgreementTable.{told_kept, shared_is}
use Rattle.su_map.proofs.tables.fill_row.Goals as goal
use Rattle.su_map.proofs.tables.fill_row.Goals.{then-q-i+then-has+then-has-2, else-q-i, else-q-i-via-then-q-i+then-has+else-has-2, else-q-i-via-then-q-i+else-has, else-q-i-via-else-q-i}

pub fill_shared-requires-clause-below : goal.fill_shared-requires-clause-below
fill_shared-requires-clause-below c = λ k has. c.requires.sides.symbols.rows c.loop-q.q [] (omega arith) k (subst (λ r. Contains r (Var k)) c.row-then-has-2.ensures.is has)

pub fill_shared-requires-clause-noted : goal.fill_shared-requires-clause-noted
fill_shared-requires-clause-noted c = λ k has. c.requires.sides.noted c.args.i c.requires.row c.requires.in_mask k (subst (λ r. Contains r (Var k)) c.row.ensures.is has)

pub fill_pair-requires-clause-columns : goal.fill_pair-requires-clause-columns
fill_pair-requires-clause-columns c = λ e a low is.
    let wide = c.row-then-has-2.ensures.width in
    let same = c.requires.sides.width in
    let v = c.fill_shared.ensures.is_var e a (omega arith) is in
    let cell = c.fill_shared.ensures.some e a v.0 (omega arith) is v.1 in
    let b = cell.below in
    let w = c.row.ensures.width in
    omega arith

pub fill_pair-requires-clause-within : goal.fill_pair-requires-clause-within
fill_pair-requires-clause-within c = λ j h. c.requires.within c.loop-q.q j (omega arith) (c.has.ensures.0 c.if-has.true) h

pub loop-q-preserved : goal.loop-q-preserved
loop-q-preserved c =
    let from = c.args.sides.now.from.now in let to = c.args.sides.now.to.now in let base = c.args.base.now in let i = c.args.i in let n = c.loop-q.q in
    let P = λ (q : ℕ). i ≢ q → bit_at c.args.sides.now.mask q ≡ 1 → bit_at c.args.near q ≡ 1 → IsTold from to base i q c.if-q-i.agree in
    elim c.if-q-i.branch [
      | then-q-i+then-has+then-has-2 w ↦ record {
        before = λ x l. ap (λ a. get_or a x 0) w.agree-is ∙ w.fill_pair.ensures.before x (omega arith) ∙ c.loop-q.invariant.before x l;
        filled = below_more P n
            (λ p l ne one near. subst (IsTold from to base i p) (sym w.agree-is) (told_kept from to base i p c.loop-q.agree w.fill_pair.new.agree (i * 4096 + n * 64) w.fill_pair.ensures.before (omega arith) c.requires.sides.small (c.loop-q.invariant.filled p l ne one near)))
            (λ ne one near. subst (IsTold from to base i n) (sym w.agree-is) (record {
              columns = w.fill_shared.new.columns;
              shared = shared_is w.head.result.now from.head w.row.result.now (row_of from i) w.row-then-has-2.result.now (row_of from n) w.fill_shared.new.columns w.head.ensures w.row.ensures.is w.row-then-has-2.ensures.is w.fill_shared.ensures;
              told = w.fill_pair.ensures.filled;
            }));
      }
      | else-q-i w ↦ record {
        before = λ x l. ap (λ a. get_or a x 0) w.agree-is ∙ c.loop-q.invariant.before x l;
        filled = below_more P n
            (λ p l ne one near. subst (IsTold from to base i p) (sym w.agree-is) (c.loop-q.invariant.filled p l ne one near))
            (λ ne one near. absurd (
            elim w.else-q-i.branch [
              | else-q-i-via-then-q-i+then-has+else-has-2 w' ↦ true≢false (sym (w'.has-then-has.ensures.1 near) ∙ w'.if-has-2.false)
              | else-q-i-via-then-q-i+else-has w' ↦ true≢false (sym (w'.has.ensures.1 one) ∙ w'.if-has.false)
              | else-q-i-via-else-q-i w' ↦ ne (sym w'.if-q-i.false)
            ]));
      }
    ]
