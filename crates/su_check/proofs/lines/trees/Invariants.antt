use Rattle.std.proofs.Common.{◌≡◌, ◌++◌, List, length, flat_map, codes, All}
use Rattle.su_lex.specs.Names.{Begins}
use Rattle.su_lex.specs.declared.meaning.Symbol.{Symbol}
use Rattle.su_lex.specs.declared.meaning.Symbol.TheVariants.{Word}
use Rattle.su_check.specs.declared.certificates.RowTree.{RowTree}
use Rattle.su_check.specs.Grammar.{tree_line}
use Rattle.su_check.specs.inside.LineReaders.{IsByteTree}
use Rattle.su_check.proofs.Runs.{Left}
use Rattle.su_check.proofs.lines.trees.Given as goal

abbrev pub invariant-loop-trees : goal.invariant-loop-trees
invariant-loop-trees l = record {
  whole : l.fn.reader ≡ flat_map tree_line l.trees ++ l.reader;
  are : All IsByteTree l.trees;
  left : (all : List RowTree) (r : List Symbol) → All IsByteTree all → ¬ (Begins (Word (codes "tree")) r) → l.fn.reader ≡ flat_map tree_line all ++ r → Left tree_line IsByteTree all l.trees l.reader r;
}

abbrev pub decreases-loop-trees : goal.decreases-loop-trees
decreases-loop-trees l = length l.reader
