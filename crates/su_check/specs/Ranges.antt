-- The sizes of the numbers of a certificate: rows are bytes, variables have 32 bits.
-- byte: a number below 256
use Rattle.std.specs.Prelude.{◌≡◌, ◌<◌, ◌≤◌, ◌^◌, ℕ, length, All, Contains}
use Rattle.su_tableau.specs.declared.symbols.Sym.{Sym}
use Rattle.su_tableau.specs.declared.symbols.Sym.TheVariants.{Const, Var}
use Rattle.su_check.specs.declared.certificates.Certificate.{Certificate}
use Rattle.su_check.specs.declared.certificates.StatedTerm.{StatedTerm}
use Rattle.su_check.specs.declared.nodes.Node.{Node}
use Rattle.su_check.specs.declared.nodes.Branch.{Branch}
use Rattle.su_check.specs.Refutations.{row_named, branches_of, target_of, node_of}

-- a row's number is at most 255
abbrev pub IsByte : ℕ → Type 0
IsByte n = n < 256

-- the numbers in the node are bytes
pub data IsByteNode : Node → Type 0 where
  of_bytes : (n : Node) → IsByte (row_named n)
      → ((b : Branch) → Contains (branches_of n) b → IsByte (target_of b))
      → ((b : Branch) → Contains (branches_of n) b → IsByteNode (node_of b))
      → IsByteNode n

-- a variable's number has 32 bits
abbrev pub IsNamed : Sym → Type 0
IsNamed (Var k) = k < 2 ^ 32
IsNamed (Const v) = Unit {0}

-- the numbers of a term can be written, and its rows have one width
pub record IsTermInRange (width : ℕ) (x : StatedTerm) : Type 0 where
  pub number : x.number < 2 ^ 32
  pub head : All IsNamed x.head
  pub widths : All (λ row. length row ≡ width) x.rows
  pub rows : All (All IsNamed) x.rows
  pub kept : All IsByte x.kept
  pub fold : All IsByte x.fold
  pub tree_rows : All (λ t. IsByte t.row) x.trees
  pub trees : All (λ t. IsByteNode t.node) x.trees

-- the width is from 1 to 128, and each row has it
pub record IsInRange (c : Certificate) : Type 0 where
  pub some : 1 ≤ length c.kinds
  pub most : length c.kinds ≤ 128
  pub terms : All (IsTermInRange (length c.kinds)) c.terms
