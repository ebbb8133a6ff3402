-- Each word and list of the term is what any spelling must have there, as a run of items ends where the next word stands; so a refusal refutes every term.
use Rattle.std.proofs.Common.{codes, Err, ap, ◌∙◌, arith}
use Rattle.std.proofs.lemmas.Result.{err_from_is_err_and}
use Rattle.su_check.proofs.Runs.{gives_on}
use Rattle.su_check.proofs.TermSymbols.{stops_rows, stops_word, stops_trees, no_tree, behind_word, both_trees, both_rows, same_term}
use Rattle.su_check.proofs.lines.term.Goals as goal

pub returns-in_err-number-clause-only : goal.returns-in_err-number-clause-only
returns-in_err-number-clause-only c = λ x r are ends e.
    let p = err_from_is_err_and c.from_residual.result c.from_residual.ensures.1 in
    let range = are.number in
    gives_on _ _ c.in_err-number.field-0.0 c.from_residual.result (p.1 ∙ ap Err p.2) (c.in_err-number.ensures.only x.number _ (omega arith) e)

pub returns-in_err-trees-clause-only : goal.returns-in_err-trees-clause-only
returns-in_err-trees-clause-only c = λ x r are ends e.
    let p = err_from_is_err_and c.from_residual-in_err-trees.result c.from_residual-in_err-trees.ensures.1 in
    let range = are.number in
    let number = c.in_ok-number.ensures.only x.number _ (omega arith) e in
    let head = c.in_ok-head.ensures.only x.head _ are.head (stops_rows _) (behind_word (codes "head") _ _ _ c.in_ok-expect_word.ensures.found number.1) in
    let rows = c.in_ok-rows.ensures.only x.rows _ (both_rows c.args.width x.rows are.widths are.rows) (λ begins. absurd (cc begins.1)) (behind_word (codes "rows") _ _ _ c.in_ok-expect_word-2.ensures.found head.1) in
    let kept = c.in_ok-kept.ensures.only x.kept _ are.kept (stops_word _ _) (behind_word (codes "kept") _ _ _ c.in_ok-expect_word-3.ensures.found rows.1) in
    let fold = c.in_ok-fold.ensures.only x.fold _ are.fold (stops_trees x.trees r ends) (behind_word (codes "fold") _ _ _ c.in_ok-expect_word-4.ensures.found kept.1) in
    gives_on _ _ c.in_err-trees.field-0.0 c.from_residual-in_err-trees.result (p.1 ∙ ap Err p.2) (c.in_err-trees.ensures.only x.trees r (both_trees x.trees are.tree_rows are.trees) (no_tree r ends) fold.1)

pub returns-clause-only : goal.returns-clause-only
returns-clause-only c = λ x r are ends e.
    let range = are.number in
    let number = c.in_ok-number.ensures.only x.number _ (omega arith) e in
    let head = c.in_ok-head.ensures.only x.head _ are.head (stops_rows _) (behind_word (codes "head") _ _ _ c.in_ok-expect_word.ensures.found number.1) in
    let rows = c.in_ok-rows.ensures.only x.rows _ (both_rows c.args.width x.rows are.widths are.rows) (λ begins. absurd (cc begins.1)) (behind_word (codes "rows") _ _ _ c.in_ok-expect_word-2.ensures.found head.1) in
    let kept = c.in_ok-kept.ensures.only x.kept _ are.kept (stops_word _ _) (behind_word (codes "kept") _ _ _ c.in_ok-expect_word-3.ensures.found rows.1) in
    let fold = c.in_ok-fold.ensures.only x.fold _ are.fold (stops_trees x.trees r ends) (behind_word (codes "fold") _ _ _ c.in_ok-expect_word-4.ensures.found kept.1) in
    let trees = c.in_ok-trees.ensures.only x.trees r (both_trees x.trees are.tree_rows are.trees) (no_tree r ends) fold.1 in
    (same_term x _ _ _ _ _ _ number.0 head.0 rows.0 kept.0 fold.0 trees.0, trees.1)
