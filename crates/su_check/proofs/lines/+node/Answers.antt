-- A node is read in the one way that its symbols allow: the branches read so far and what is left are together what stood there, so each refusal and each end agrees with any node that the symbols spell.
use Rattle.std.proofs.Common.{◌≡◌, ◌∷◌, Err, refl, sym, ap, ◌∙◌, arith}
use Rattle.std.proofs.lemmas.List.Elements.{All-nil, All-push}
use Rattle.std.proofs.lemmas.Result.{err_from_is_err_and}
use Rattle.su_lex.specs.declared.meaning.Symbol.TheVariants.{Sign}
use Rattle.su_lex.specs.declared.signs.Sign.TheVariants as sign
use Rattle.su_check.specs.declared.nodes.Node.{Node}
use Rattle.su_check.specs.declared.nodes.Branch.{Branch}
use Rattle.su_check.specs.declared.nodes.Branch.TheOpen.{Branch-F, Node-F}
use Rattle.su_check.specs.Refutations.{row_named, branches_of, node_of}
use Rattle.su_check.specs.NodeSymbols.{number}
use Rattle.su_check.proofs.Runs.{none_read, flat_push, left_on, gives_on}
use Rattle.su_check.proofs.NodeSymbols.{branch_symbols, IsByteBranch, byte_row, byte_branches, node_first, node_found, node_bytes, same_node, branch_found, branch_bytes, same_branch, branch_next, branch_none}
use Rattle.su_check.proofs.lines.+node.Goals as goal

pub returns-in_err-row-clause-only : goal.returns-in_err-row-clause-only
returns-in_err-row-clause-only t c = λ n r are e.
    let p = err_from_is_err_and c.from_residual-in_err-row.result c.from_residual-in_err-row.ensures.1 in
    let byte = byte_row n are in
    gives_on _ _ c.in_err-row.field-0.0 c.from_residual-in_err-row.result (p.1 ∙ ap Err p.2)
    (c.in_err-row.ensures.only (row_named n) _ (omega arith) (node_first n _ c.expect_sign.new.self r e c.in_ok-expect_sign.ensures.found))

pub loop-target-init : goal.loop-target-init
loop-target-init t c = record {
  whole = rw c.new-next.ensures (c.in_ok-expect_sign.ensures.found ∙ ap (λ s. Sign sign.Open ∷ s) c.in_ok-row.ensures.found.0);
  are = rw c.new-next.ensures (All-nil IsByteBranch);
  left = λ n r are e.
      let byte = byte_row n are in
      let only = c.in_ok-row.ensures.only (row_named n) _ (omega arith) (node_first n _ c.expect_sign.new.self r e c.in_ok-expect_sign.ensures.found) in
      (sym only.0, rw c.new-next.ensures (none_read branch_symbols IsByteBranch (branches_of n) _ _ (byte_branches n are) only.1));
}

pub returns-in_err-node-clause-only : goal.returns-in_err-node-clause-only
returns-in_err-node-clause-only t c = λ n r are e.
    let p = err_from_is_err_and c.from_residual-in_err-node.result c.from_residual-in_err-node.ensures.1 in
    let left = c.loop-target.invariant.left n r are e in
    let b = branch_next (branches_of n) c.loop-target.next c.loop-target.reader c.takes_number.new.reader r c.in-Some.target left.1 c.in-Some.ensures.found.0 in
    gives_on _ _ c.in_err-node.field-0.0 c.from_residual-in_err-node.result (p.1 ∙ ap Err p.2) (c.in_err-node.ensures.only (node_of b.0) b.2 b.1.1 b.3)

pub loop-target-preserved : goal.loop-target-preserved
loop-target-preserved t c =
    let x : Branch-F Branch Node = record { target = c.in-Some.target; node = c.in_ok-node.node } in
    let here = c.in-Some.ensures.found.0 in
    let low = c.in-Some.ensures.found.1 in
    record {
      whole = rw c.in_ok-push.ensures.ok
          (c.loop-target.invariant.whole
          ∙ ap (λ s. Sign sign.Open ∷ number c.in_ok-row.field-0 ∷ s) (flat_push branch_symbols c.loop-target.next _ _ c.loop-target.reader c.node.new.reader refl (here ∙ branch_found x _ _ c.in_ok-node.ensures.found.0)));
      are = rw c.in_ok-push.ensures.ok (All-push IsByteBranch c.loop-target.next _ c.loop-target.invariant.are (branch_bytes x (omega arith) c.in_ok-node.ensures.found.1));
      left = λ n r are e.
          let left = c.loop-target.invariant.left n r are e in
          let b = branch_next (branches_of n) c.loop-target.next c.loop-target.reader c.takes_number.new.reader r c.in-Some.target left.1 here in
          let only = c.in_ok-node.ensures.only (node_of b.0) b.2 b.1.1 b.3 in
          (left.0, left_on branch_symbols IsByteBranch (branches_of n) c.loop-target.next c.push.new.self b.0 _ b.2 c.node.new.reader (Sign sign.Close ∷ r) b.5 c.in_ok-push.ensures.ok (same_branch x b.0 b.4 only.0, only.1));
    }

pub returns-in_err-expect_sign-2-clause-only : goal.returns-in_err-expect_sign-2-clause-only
returns-in_err-expect_sign-2-clause-only t c = λ n r are e.
    let left = c.loop-target.invariant.left n r are e in
    let end = branch_none (branches_of n) c.loop-target.next c.loop-target.reader r left.1 (c.in_default.ensures.none refl) in
    let refused = c.in_err-expect_sign-2.ensures.refused in
    absurd (c.in_err-expect_sign-2.ensures.syntax (ap Err refused) (r, c.in_default.ensures.found ∙ end.1))

pub returns-clause-found : goal.returns-clause-found
returns-clause-found t c =
    let x : Node-F Branch Node = record { row = c.in_ok-row.field-0; next = c.loop-target.next } in
    let low = c.in_ok-row.ensures.found.1 in
    (node_found x _ c.loop-target.reader _ c.loop-target.invariant.whole (sym c.in_default.ensures.found ∙ c.in_ok-expect_sign-2.ensures.found), node_bytes x (omega arith) c.loop-target.invariant.are)

pub returns-clause-only : goal.returns-clause-only
returns-clause-only t c = λ n r are e.
    let x : Node-F Branch Node = record { row = c.in_ok-row.field-0; next = c.loop-target.next } in
    let left = c.loop-target.invariant.left n r are e in
    let end = branch_none (branches_of n) c.loop-target.next c.loop-target.reader r left.1 (c.in_default.ensures.none refl) in
    let both : Sign sign.Close ∷ c.expect_sign-2.new.self ≡ Sign sign.Close ∷ r = sym c.in_ok-expect_sign-2.ensures.found ∙ c.in_default.ensures.found ∙ end.1 in
    (same_node x n left.0 end.0, cc)
