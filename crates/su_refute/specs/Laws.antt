-- Laws of trees and of certificates.
-- tree: why a kept row can't be left out; certificate: the terms with their kept rows, folds and trees
use Rattle.std.specs.Prelude.{◌≡◌, ◌<◌, ◌≤◌, ◌^◌, ℕ, List, length, All}
use Rattle.std.specs.Int.{bit_at, w64}
use Rattle.std.specs.Int.RustNames.{FitsSigned}
use Rattle.std.specs.Str.{IsUtf8}
use Rattle.su_base.specs.declared.values.Value.TheVariants as value
use Rattle.su_tableau.specs.declared.symbols.Sym.{Sym}
use Rattle.su_tableau.specs.declared.symbols.Sym.TheVariants.{Const, Var}
use Rattle.su_tableau.specs.Kinds.{Kinds, IsTyped}
use Rattle.su_check.specs.declared.verdicts.Checked.TheVariants.{Yes}
use Rattle.su_check.specs.Verdict.{IsVerdict}
use Rattle.su_check.specs.declared.nodes.Node.{Node}
use Rattle.su_min.specs.Kept.{Minimised}
use Rattle.su_refute.specs.Trees.{IsTree}
use Rattle.su_refute.specs.AllTrees.{IsSound, lines_of, AreTrees, all_nodes, HasMoreNodes}
use Rattle.su_refute.specs.Written.{certificate_of, certificate_text}

-- there is a tree of each kept row, and no other one
pub record HasOneTree (m : Minimised) (r : ℕ) : Type 0 where
  pub tree : Node
  pub is_tree : IsTree (lines_of m) r tree
  pub only : (other : Node) → IsTree (lines_of m) r other → tree ≡ other

-- each kept row has exactly one tree
abbrev pub KeptRowsHaveOneTree : Type 0
KeptRowsHaveOneTree = (m : Minimised) (r : ℕ) → IsSound m → bit_at m.mask r ≡ 1 → HasOneTree m r

-- there are trees of all tableaux, and together they have more than n nodes
pub record HaveMoreNodes (minimals : List Minimised) (n : ℕ) : Type 0 where
  pub trees : List (List Node)
  pub are_trees : AreTrees minimals trees
  pub more : n < all_nodes trees

-- where the first tableaux have more than n nodes, all of them do
abbrev pub MoreNodesAreMoreInAll : Type 0
MoreNodesAreMoreInAll = (minimals : List Minimised) (n : ℕ) → All IsSound minimals → HasMoreNodes minimals n → HaveMoreNodes minimals n

-- what its type tells of a symbol
abbrev pub IsSpelled : Sym → Type 0
IsSpelled (Var k) = k < 2 ^ 32
IsSpelled (Const (value.Int n)) = FitsSigned w64 n
IsSpelled (Const (value.Text content)) = IsUtf8 content × (length content ≤ 4096)

-- a minimised tableau that is well typed for the kinds
pub record IsWritable (kinds : Kinds) (m : Minimised) : Type 0 where
  pub sound : IsSound m
  pub typed : IsTyped kinds m.tableau
  pub head : All IsSpelled m.tableau.head
  pub rows : All (All IsSpelled) m.tableau.rows

-- the verdict on what is written is yes, if it is shorter than 2 ^ 32 bytes
abbrev pub WrittenCertificatesAreGood : Type 0
WrittenCertificatesAreGood =
    (kinds : Kinds) (minimals : List Minimised) (trees : List (List Node)) → 1 ≤ length kinds → length kinds ≤ 128 → All (IsWritable kinds) minimals → AreTrees minimals trees
    → length (certificate_text (certificate_of kinds minimals trees)) < 2 ^ 32 → IsVerdict (certificate_text (certificate_of kinds minimals trees)) (Yes (length minimals))
