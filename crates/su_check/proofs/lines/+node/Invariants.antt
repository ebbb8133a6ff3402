use Rattle.std.proofs.Common.{◌≡◌, ◌∷◌, ◌++◌, List, length, flat_map, All}
use Rattle.su_lex.specs.declared.meaning.Symbol.{Symbol}
use Rattle.su_lex.specs.declared.meaning.Symbol.TheVariants.{Sign}
use Rattle.su_lex.specs.declared.signs.Sign.TheVariants as sign
use Rattle.su_check.specs.declared.nodes.Node.{Node}
use Rattle.su_check.specs.Refutations.{row_named, branches_of}
use Rattle.su_check.specs.NodeSymbols.{number, node_symbols}
use Rattle.su_check.specs.Ranges.{IsByteNode}
use Rattle.su_check.proofs.NodeSymbols.{branch_symbols, IsByteBranch}
use Rattle.su_check.proofs.Runs.{Left}
use Rattle.su_check.proofs.lines.+node.Given as goal

abbrev pub decreases-node : goal.decreases-node
decreases-node l = length l.reader.now

abbrev pub invariant-loop-target : goal.invariant-loop-target
invariant-loop-target l = record {
  whole : l.fn.reader ≡ Sign sign.Open ∷ number l.row ∷ (flat_map branch_symbols l.next ++ l.reader);
  are : All IsByteBranch l.next;
  left : (n : Node) (r : List Symbol) → IsByteNode n → l.fn.reader ≡ node_symbols n ++ r → (row_named n ≡ l.row) × Left branch_symbols IsByteBranch (branches_of n) l.next l.reader (Sign sign.Close ∷ r);
}

abbrev pub decreases-loop-target : goal.decreases-loop-target
decreases-loop-target l = length l.reader
