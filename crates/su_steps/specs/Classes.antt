-- Classes of pairs and constants.
-- partition: a label for each symbol; symbols with one label are together
-- closed: the sides of each equality are together, and rows that agree on a dependency's left side agree on its right side
-- Classes and names are those of su_classes, for partitions that are closed in this sense.
use Rattle.std.specs.Prelude.{◌≡◌, ℕ, IsTrue, List, Contains}
use Rattle.std.specs.Ordering.{nat_cmp}
use Rattle.std.specs.FinSet.{FinSet, contains}
use Rattle.su_fd.specs.declared.dependencies.Fd.{Fd}
use Rattle.su_where.specs.declared.operators.Op.TheVariants.{Equal}
use Rattle.su_tableau.specs.declared.symbols.Sym.{Sym}
use Rattle.su_tableau.specs.declared.symbols.Sym.TheVariants.{Var}
use Rattle.su_schema.specs.SchemaValue.{SchemaValue}
use Rattle.su_steps.specs.declared.results.Origin.{Origin}
use Rattle.su_fd.specs.MetDependencies.{LiesIn}
use Rattle.su_steps.specs.Objects.{width, attributes_at}
use Rattle.su_steps.specs.PairSymbols.{SymbolComparison, pair}

-- the pairs of the two variables have the same labels at the attributes of the set
abbrev pub SamePairLabels : ℕ → (Sym → Sym) → FinSet nat_cmp → ℕ → ℕ → Type 0
SamePairLabels n label s v w = (a : ℕ) → IsTrue (contains s a) → label (Var (pair n v a)) ≡ label (Var (pair n w a))

-- where the dependency lies in the objects of both, the labels keep it on the two rows
abbrev pub KeepsBetween : SchemaValue → (Sym → Sym) → Fd → Origin → Origin → Type 0
KeepsBetween schema label f o p =
    LiesIn f (attributes_at schema o.object) → LiesIn f (attributes_at schema p.object) → SamePairLabels (width schema) label f.left o.variable p.variable → SamePairLabels (width schema) label f.right o.variable p.variable

-- labels that give both sides of each equality one label, and keep each dependency on the rows of objects in which it lies
pub record IsClosedForCase (schema : SchemaValue) (os : List Origin) (d : List SymbolComparison) (label : Sym → Sym) : Type 0 where
  pub equalities : (c : SymbolComparison) → Contains d c → c.op ≡ Equal → label c.left ≡ label c.right
  pub dependencies : (f : Fd) (o p : Origin) → Contains schema.fds f → Contains os o → Contains os p → KeepsBetween schema label f o p
