-- The links so far are those of the pairs so far, which passed their checks; the next pair fails at the first of its checks, or gives one link more.
use Rattle.std.proofs.Common.{◌≡◌, inl, inr, sym, ap, true, false, ◌==◌}
use Rattle.std.specs.List.{list_any}
use Rattle.std.proofs.lemmas.Result.{err_from_is_err_and}
use Rattle.su_schema.specs.Known.{columns_at}
use Rattle.su_schema.specs.Definitions.{link_of}
use Rattle.su_schema.proofs.PairsSoFar.{pair_unknown, attribute_twice, column_twice, kinds_differ, pair_next}
use Rattle.su_schema.proofs.schemas.Schema.links.Goals as goal

pub returns-in_err-link-clause-refused : goal.returns-in_err-link-clause-refused
returns-in_err-link-clause-refused c =
    let p = err_from_is_err_and c.from_residual.result c.from_residual.ensures.1 in
    rw (p.1, p.2)
    (elim c.in_err-link.ensures.refused [
      | inl none ↦ inl none
      | inr fails ↦ inr (pair_unknown c.args.self.now (columns_at c.args.self.now c.args.relation) c.args.pairs.now c.loop-pair.pair-index c.loop-pair.links c.loop-pair.invariant c.pair-item.result c.loop-pair-test.true c.pair-item.is _ fails)
    ])

pub returns-then-has_attribute-clause-refused : goal.returns-then-has_attribute-clause-refused
returns-then-has_attribute-clause-refused c =
    let there : list_any (λ l. l.attribute == (link_of c.args.self.now (columns_at c.args.self.now c.args.relation) c.pair-item.result).attribute) c.loop-pair.links ≡ true =
    rw (← ap (λ l. l.attribute) c.in_ok-link.ensures.numbers, ← c.as_slice.ensures) (sym c.if-has_attribute.ensures) in
    inr (rw c.in_ok-copy.ensures (attribute_twice c.args.self.now (columns_at c.args.self.now c.args.relation) c.args.pairs.now c.loop-pair.pair-index c.loop-pair.links c.loop-pair.invariant c.pair-item.result c.loop-pair-test.true c.pair-item.is c.in_ok-link.ensures.passed there))

pub returns-then-has_column-clause-refused : goal.returns-then-has_column-clause-refused
returns-then-has_column-clause-refused c =
    let new : list_any (λ l. l.attribute == (link_of c.args.self.now (columns_at c.args.self.now c.args.relation) c.pair-item.result).attribute) c.loop-pair.links ≡ false =
    rw (← ap (λ l. l.attribute) c.in_ok-link.ensures.numbers, ← c.as_slice.ensures) (sym c.if-has_attribute.ensures) in
    let there : list_any (λ l. l.column == (link_of c.args.self.now (columns_at c.args.self.now c.args.relation) c.pair-item.result).column) c.loop-pair.links ≡ true =
    rw (← ap (λ l. l.column) c.in_ok-link.ensures.numbers, ← c.as_slice-in-loop-pair.ensures) (sym c.if-has_column.ensures) in
    inr (rw c.in_ok-copy-2.ensures (column_twice c.args.self.now (columns_at c.args.self.now c.args.relation) c.args.pairs.now c.loop-pair.pair-index c.loop-pair.links c.loop-pair.invariant c.pair-item.result c.loop-pair-test.true c.pair-item.is c.in_ok-link.ensures.passed new there))

pub returns-in_err-check_kinds-clause-refused : goal.returns-in_err-check_kinds-clause-refused
returns-in_err-check_kinds-clause-refused c =
    let p = err_from_is_err_and c.from_residual-in_err-check_kinds.result c.from_residual-in_err-check_kinds.ensures.1 in
    let new : list_any (λ l. l.attribute == (link_of c.args.self.now (columns_at c.args.self.now c.args.relation) c.pair-item.result).attribute) c.loop-pair.links ≡ false =
    rw (← ap (λ l. l.attribute) c.in_ok-link.ensures.numbers, ← c.as_slice.ensures) (sym c.if-has_attribute.ensures) in
    let own : list_any (λ l. l.column == (link_of c.args.self.now (columns_at c.args.self.now c.args.relation) c.pair-item.result).column) c.loop-pair.links ≡ false =
    rw (← ap (λ l. l.column) c.in_ok-link.ensures.numbers, ← c.as_slice-in-loop-pair.ensures) (sym c.if-has_column.ensures) in
    rw (p.1, p.2)
    (elim c.in_err-check_kinds.ensures.refused [
      | inl none ↦ inl none
      | inr fails ↦ inr (kinds_differ c.args.self.now (columns_at c.args.self.now c.args.relation) c.args.pairs.now c.loop-pair.pair-index c.loop-pair.links c.loop-pair.invariant c.pair-item.result c.loop-pair-test.true c.pair-item.is c.in_ok-link.ensures.passed new own _ fails)
    ])

pub loop-pair-preserved : goal.loop-pair-preserved
loop-pair-preserved c =
    let new : list_any (λ l. l.attribute == (link_of c.args.self.now (columns_at c.args.self.now c.args.relation) c.pair-item.result).attribute) c.loop-pair.links ≡ false =
    rw (← ap (λ l. l.attribute) c.in_ok-link.ensures.numbers, ← c.as_slice.ensures) (sym c.if-has_attribute.ensures) in
    let own : list_any (λ l. l.column == (link_of c.args.self.now (columns_at c.args.self.now c.args.relation) c.pair-item.result).column) c.loop-pair.links ≡ false =
    rw (← ap (λ l. l.column) c.in_ok-link.ensures.numbers, ← c.as_slice-in-loop-pair.ensures) (sym c.if-has_column.ensures) in
    rw (c.in_ok-push.ensures.ok, c.in_ok-link.ensures.numbers)
    (pair_next c.args.self.now (columns_at c.args.self.now c.args.relation) c.args.pairs.now c.loop-pair.pair-index c.loop-pair.links c.loop-pair.invariant c.pair-item.result c.loop-pair-test.true c.pair-item.is c.in_ok-link.ensures.passed new own c.in_ok-check_kinds.ensures.passed)
