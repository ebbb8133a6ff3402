-- No kept term so far covers the term, and since covering is a preorder some kept term does; so the search ends at one, and that is the first.
use Rattle.std.proofs.Common.{◌≡◌, ◌∙◌, length, get_or, true, false, below_more, true≢false, rules, sym, arith}
use Rattle.su_min.specs.inside.Matrix.{entry, IsDroppedIn}
use Rattle.su_min.proofs.KeptCovers.{has_cover}
use Rattle.su_min.proofs.reducing.first_cover.Goals as goal
use Rattle.su_min.proofs.reducing.first_cover.Goals.{else-has_entry-via-then-has_entry+else-not-dropped-k, else-has_entry-via-else-has_entry}

pub loop-k-preserved : goal.loop-k-preserved
loop-k-preserved c =
    let n = length c.args.matrix.now in
    let covers = entry c.args.matrix.now in
    below_more (λ j. covers j c.args.i ≡ true → (IsDroppedIn covers n j → ⊥) → ⊥) c.loop-k.k c.loop-k.invariant
    (λ one stays.
    elim c.else-has_entry.branch [
      | else-has_entry-via-then-has_entry+else-not-dropped-k w ↦
          let marked : get_or c.args.dropped.now c.loop-k.k false ≡ true = search rules in
          stays ((c.requires.dropped.tells c.loop-k.k c.loop-k-test.true).0 marked)
      | else-has_entry-via-else-has_entry w ↦ true≢false (sym one ∙ sym c.has_entry.ensures ∙ w.if-has_entry.false)
    ])

pub unreachable-requires : goal.unreachable-requires
unreachable-requires c =
    let n = length c.args.matrix.now in
    let r = has_cover (entry c.args.matrix.now) n c.requires.preorder c.args.i c.requires.term in
    c.loop-k.invariant r.0 (let l = r.1 in omega arith) r.2 r.3
