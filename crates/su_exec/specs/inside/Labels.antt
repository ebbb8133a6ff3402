-- Labels of rows, from which components are read off.
-- label: of each row the first row that it is connected to, as far as joins were taken
-- No public contract cites this module.
use Rattle.std.specs.Prelude.{◌≡◌, ◌<◌, ◌≤◌, ℕ, min, max, nat_eq, cond, List, map, filter, length, slice_index_or}
use Rattle.std.specs.List.{range_with_len}
use Rattle.su_tableau.specs.declared.symbols.Sym.{Sym}
use Rattle.su_tableau.specs.declared.symbols.Sym.TheVariants.{Var}
use Rattle.su_exec.specs.declared.tasks.Compared.{Compared}
use Rattle.su_exec.specs.declared.tasks.Task.{Task}
use Rattle.su_exec.specs.Tasks.{StandsIn}
use Rattle.su_exec.specs.Components.{AreConnected}

-- the label of row i
abbrev pub label_of : List ℕ → ℕ → ℕ
label_of labels i = slice_index_or labels i 0

-- the labels, where rows i and j have come to have one
abbrev pub relabelled : List ℕ → ℕ → ℕ → List ℕ
relabelled labels i j = map (λ x. cond (nat_eq x (max (label_of labels i) (label_of labels j))) (min (label_of labels i) (label_of labels j)) x) labels

-- rows with one label are connected, and the label is the first of these rows
pub record AreLabels (task : Task) (labels : List ℕ) : Type 0 where
  pub count : length labels ≡ length task.rows
  pub least : (i : ℕ) → i < length labels → label_of labels i ≤ i
  pub own : (i : ℕ) → i < length labels → label_of labels (label_of labels i) ≡ label_of labels i
  pub connected : (i j : ℕ) → i < length labels → j < length labels → label_of labels i ≡ label_of labels j → AreConnected task i j

-- row i is the first with variable k
pub record IsFirstRow (task : Task) (k i : ℕ) : Type 0 where
  pub stands : StandsIn task k i
  pub least : (j : ℕ) → StandsIn task k j → i ≤ j

-- the symbol is a variable, and row i the first with it
pub record IsFirstOf (task : Task) (symbol : Sym) (i : ℕ) : Type 0 where
  pub variable : ℕ
  pub is : symbol ≡ Var variable
  pub first : IsFirstRow task variable i

-- the rows with the label
abbrev pub rows_of : List ℕ → ℕ → List ℕ
rows_of labels x = filter (λ i. nat_eq (label_of labels i) x) (range_with_len 0 (length labels))

-- rows with one label still have one
abbrev pub KeepsLabels : List ℕ → List ℕ → Type 0
KeepsLabels old new = (i j : ℕ) → i < length old → j < length old → label_of old i ≡ label_of old j → label_of new i ≡ label_of new j

-- the first rows with the two variables of the comparison have one label
abbrev pub JoinsCompared : Task → Compared → List ℕ → Type 0
JoinsCompared task compared labels = (k l i j : ℕ) → compared.left ≡ Var k → compared.right ≡ Var l → IsFirstRow task k i → IsFirstRow task l j → label_of labels i ≡ label_of labels j
