use Rattle.std.proofs.Common.{◌≡◌, ◌∷◌, ◌++◌, flat_map, take}
use Rattle.su_check.specs.Refutations.{target_of, node_of}
use Rattle.su_check.specs.NodeSymbols.{number, node_symbols}
use Rattle.su_refute.proofs.symbols.+nodes.Given as goal

abbrev pub decreases-push_branches : goal.decreases-push_branches
decreases-push_branches l = goal.size-push_branches l

abbrev pub decreases-push_node : goal.decreases-push_node
decreases-push_node l = goal.size-push_node l

abbrev pub invariant-push_branches-loop-branch : goal.invariant-push_branches-loop-branch
invariant-push_branches-loop-branch l = l.out ≡ l.fn.out ++ flat_map (λ b. number (target_of b) ∷ node_symbols (node_of b)) (take l.branch-index l.branches)
