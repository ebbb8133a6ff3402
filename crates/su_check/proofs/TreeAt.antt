-- Whether the tree at a place is good.
use Rattle.std.proofs.Common.{◌≡◌, ◌↔◌, ℕ, Bool, true, List, [], get_or, slice_get, Some, sym, ap, subst, ◌∙◌}
use Rattle.su_check.specs.declared.certificates.StatedTerm.{StatedTerm}
use Rattle.su_check.specs.declared.certificates.RowTree.{RowTree}
use Rattle.su_check.specs.declared.sending.Sent.{Sent}
use Rattle.su_check.specs.Refutations.{Refutes}
use Rattle.su_check.specs.Certificate.{lines_of, IsGoodTree}

pub tree_tells : (x : StatedTerm) (k : ℕ) (tree : RowTree) (p : List Sent) (ks : List ℕ) (b : Bool) → slice_get x.trees k ≡ Some tree → tree.row ≡ get_or ks k 0 → ks ≡ x.kept → p ≡ [] → ((b ≡ true) ↔ Refutes (lines_of x) tree.row tree.node p) → ((b ≡ true) ↔ IsGoodTree x k)
tree_tells x k tree p ks b there row ek ep tells =
    let tells' : (b ≡ true) ↔ Refutes (lines_of x) tree.row tree.node [] = subst (λ p. (b ≡ true) ↔ Refutes (lines_of x) tree.row tree.node p) ep tells in (
      λ yes. record { tree = tree; there = there; row = row ∙ ap (λ ks. get_or ks k 0) ek; refutes = tells'.0 yes },
      λ g.
          let e = sym g.there ∙ there in
          let same : g.tree ≡ tree = cc in
          tells'.1 (subst (λ t. Refutes (lines_of x) t.row t.node []) same g.refutes),
    )
