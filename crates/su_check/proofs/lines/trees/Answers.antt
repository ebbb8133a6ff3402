-- What was read are the trees so far, and any list that the symbols spell has these as a front; the word for a tree shows that it has one more, and else it ends.
use Rattle.std.proofs.Common.{◌≡◌, ◌∷◌, ◌++◌, List, codes, All, refl, sym, ap, subst, ◌∙◌, Err}
use Rattle.std.proofs.lemmas.List.Elements.{All-push}
use Rattle.std.proofs.lemmas.Result.{err_from_is_err_and}
use Rattle.su_lex.specs.declared.meaning.Symbol.{Symbol}
use Rattle.su_lex.specs.declared.meaning.Symbol.TheVariants.{Word}
use Rattle.su_check.specs.declared.certificates.RowTree.{RowTree}
use Rattle.su_check.specs.Grammar.{tree_line}
use Rattle.su_check.specs.inside.LineReaders.{IsByteTree, tree_before}
use Rattle.su_check.proofs.Runs.{flat_push, lead_next, lead_none, left_on, gives_on}
use Rattle.su_check.proofs.lines.trees.Goals as goal

tree_at : (x : RowTree) (t : List Symbol) → tree_line x ++ t ≡ Word (codes "tree") ∷ tree_before x t
tree_at x t = refl

pub returns-in_err-tree-clause-only : goal.returns-in_err-tree-clause-only
returns-in_err-tree-clause-only c = λ all r are none e.
    let p = err_from_is_err_and c.from_residual.result c.from_residual.ensures.1 in
    let m = lead_next tree_line IsByteTree (Word (codes "tree")) tree_before tree_at all c.loop-trees.trees c.loop-trees.reader _ r (c.loop-trees.invariant.left all r are none e) (c.loop-trees-test.ensures.yes refl) none in
    gives_on _ _ c.in_err-tree.field-0.0 c.from_residual.result (p.1 ∙ ap Err p.2) (c.in_err-tree.ensures.only m.0 m.2 m.1 m.3)

pub loop-trees-preserved : goal.loop-trees-preserved
loop-trees-preserved c =
    let tree = c.in_ok-tree.field-0 in
    let here = c.loop-trees-test.ensures.yes refl in
    record {
      whole = rw c.in_ok-push.ensures.ok
          (flat_push tree_line c.loop-trees.trees tree c.args.reader.now c.loop-trees.reader c.tree.new.reader c.loop-trees.invariant.whole (here ∙ ap (λ s. Word (codes "tree") ∷ s) c.in_ok-tree.ensures.found.0 ∙ sym (tree_at tree _)));
      are = subst (All IsByteTree) (sym c.in_ok-push.ensures.ok) (All-push IsByteTree c.loop-trees.trees tree c.loop-trees.invariant.are c.in_ok-tree.ensures.found.1);
      left = λ all r are none e.
          let m = lead_next tree_line IsByteTree (Word (codes "tree")) tree_before tree_at all c.loop-trees.trees c.loop-trees.reader _ r (c.loop-trees.invariant.left all r are none e) here none in
          left_on tree_line IsByteTree all c.loop-trees.trees c.push.new.self m.0 tree m.2 _ r m.4 c.in_ok-push.ensures.ok (c.in_ok-tree.ensures.only m.0 m.2 m.1 m.3);
    }

pub returns-clause-only : goal.returns-clause-only
returns-clause-only c = λ all r are none e.
    let end = c.loop-trees-test.ensures.no refl in
    let m = lead_none tree_line IsByteTree (Word (codes "tree")) tree_before tree_at all c.loop-trees.trees c.loop-trees.reader r (c.loop-trees.invariant.left all r are none e) end.1 in
    (m.0, end.0 ∙ m.1)
