-- There is a number for each edge, since both go by the kept rows; so the acyclicity, the counts and what is left of the candidates are those of these edges.
use Rattle.std.proofs.Common.{◌≤◌, ◌∙◌, ℕ, List, map, length, sym, ap, subst}
use Rattle.std.specs.List.{range_with_len}
use Rattle.su_reduce.specs.declared.edges.Edge.{Edge}
use Rattle.su_answer.specs.inside.Supported.{AreEdgesOf, counted_at}
use Rattle.su_answer.proofs.Supported.{numbers_long, support_is}
use Rattle.su_answer.proofs.supporting.support_of.Goals as goal

pub left_of-requires : goal.left_of-requires
left_of-requires c = subst (λ (es : List Edge). length es ≤ 64) (sym c.as_slice-each.ensures) c.in_ok-edges.ensures.few

pub counted-requires-clause-numbers : goal.counted-requires-clause-numbers
counted-requires-clause-numbers c =
    let db = c.args.db.now in
    let m = c.args.minimal.now in
    ap (λ (ns : List ℕ). length ns) (c.as_slice-numbers.ensures ∙ c.in_ok-kept.ensures) ∙ numbers_long db m c.in_ok-edges.edges c.in_ok-edges.ensures ∙ ap (λ (es : List Edge). length es) (sym c.as_slice-each.ensures)

pub returns-clause-support : goal.returns-clause-support
returns-clause-support c =
    let db = c.args.db.now in
    let m = c.args.minimal.now in
    let each : List Edge = c.as_slice-each.result.now in
    let left = c.in_ok-left.left in
    support_is db m each (subst (AreEdgesOf db m) (sym c.as_slice-each.ensures) c.in_ok-edges.ensures) left c.in_ok-left.ensures.acyclic c.in_ok-left.ensures.left _ c.is_some-acyclic.ensures
    (c.in_ok-rows.ensures ∙ ap (λ (ns : List ℕ). map (counted_at ns each left) (range_with_len 0 (length each))) (c.as_slice-numbers.ensures ∙ c.in_ok-kept.ensures))
