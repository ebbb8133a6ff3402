-- What the readers of lines give.
-- stops: no item of a list stands there, so that the list ends
-- No public contract cites this module.
use Rattle.std.specs.Prelude.{◌≡◌, ℕ, List, ◌∷◌, ◌++◌, Result, Ok, Err, length, map, flat_map, codes, All, IfOk}
use Rattle.su_lex.specs.Names.{Begins}
use Rattle.su_lex.specs.declared.meaning.Symbol.{Symbol}
use Rattle.su_lex.specs.declared.meaning.Symbol.TheVariants.{Word, Sign}
use Rattle.su_lex.specs.declared.signs.Sign.TheVariants as sign
use Rattle.su_lex.specs.declared.ends.LexEnd.{LexEnd}
use Rattle.su_lex.specs.declared.ends.LexEnd.TheVariants.{Syntax, NoMemory}
use Rattle.su_lex.specs.Wordings.{kind_symbol}
use Rattle.su_tableau.specs.declared.symbols.Sym.{Sym}
use Rattle.su_check.specs.declared.certificates.StatedTerm.{StatedTerm}
use Rattle.su_check.specs.declared.certificates.RowTree.{RowTree}
use Rattle.su_check.specs.NodeSymbols.{number, sym_symbol, node_symbols}
use Rattle.su_check.specs.Grammar.{row_line, tree_line, term_lines}
use Rattle.su_check.specs.Ranges.{IsByte, IsNamed, IsByteNode}
use Rattle.su_base.specs.declared.values.Kind.{Kind}

-- the value that came out; it isn't refused, and want of memory tells nothing
abbrev pub Gives : {X : Type 0} → Result X LexEnd → (X → Type 0) → Type 0
Gives (Ok x) P = P x
Gives (Err Syntax) P = ⊥
Gives (Err NoMemory) P = Unit {0}

-- the value that came out is x, and what is left is r; it isn't refused
abbrev pub GivesBefore : {X : Type 0} → Result X LexEnd → List Symbol → X → List Symbol → Type 0
GivesBefore result left x r = Gives result (λ y. (y ≡ x) × (left ≡ r))

-- what is left begins with no member of the kind that was read
abbrev pub Stops : {X : Type 0} → (X → Symbol) → (X → Type 0) → List Symbol → Type 0
Stops {X = X} spell In r = (x : X) → In x → ¬ (Begins (spell x) r)

-- where members of the kind are in front, and behind them none, these come out
abbrev pub AreOnly : {X E : Type 0} → (X → Symbol) → (X → Type 0) → List Symbol → Result (List X) E → List Symbol → Type 0
AreOnly {X = X} spell In old result new = (xs : List X) (r : List Symbol) → All In xs → Stops spell In r → old ≡ map spell xs ++ r → IfOk result (λ ys. (ys ≡ xs) × (new ≡ r))

-- where kinds are in front, and behind them none, these come out
abbrev pub AreOnlyKinds : {E : Type 0} → List Symbol → Result (List Kind) E → List Symbol → Type 0
AreOnlyKinds old result new = (ks : List Kind) (r : List Symbol) → Stops kind_symbol (λ k. Unit {0}) r → old ≡ map kind_symbol ks ++ r → IfOk result (λ ms. (ms ≡ ks) × (new ≡ r))

-- ---- lines without their first symbol, before what follows them

-- a row without its opening parenthesis, before what follows
abbrev pub row_before : List Sym → List Symbol → List Symbol
row_before row r = map sym_symbol row ++ Sign sign.Close ∷ r

-- a tree without its word, before what follows
abbrev pub tree_before : RowTree → List Symbol → List Symbol
tree_before t r = number t.row ∷ (node_symbols t.node ++ r)

-- a term without its word, before what follows
abbrev pub term_before : StatedTerm → List Symbol → List Symbol
term_before x r =
    number x.number ∷ Word (codes "head") ∷ (map sym_symbol x.head ++ Word (codes "rows") ∷ (flat_map row_line x.rows
    ++ Word (codes "kept") ∷ (map number x.kept ++ Word (codes "fold") ∷ (map number x.fold ++ (flat_map tree_line x.trees ++ r)))))

-- the symbols of a term
abbrev pub term_symbols : StatedTerm → List Symbol
term_symbols x = flat_map (λ line. line) (term_lines x)

-- another term follows, or nothing
abbrev pub EndsTerm : List Symbol → Type 0
EndsTerm r = (s : Symbol) → Begins s r → s ≡ Word (codes "term")

-- ---- what the readers' types and tests tell of their values

-- a row of this width whose variables have numbers that can be written
abbrev pub IsRow : ℕ → List Sym → Type 0
IsRow width row = (length row ≡ width) × All IsNamed row

-- a tree whose row numbers are at most 255
abbrev pub IsByteTree : RowTree → Type 0
IsByteTree t = IsByte t.row × IsByteNode t.node

-- where rows of the width are in front, and behind them no row, these come out
abbrev pub AreOnlyRows : ℕ → List Symbol → Result (List (List Sym)) LexEnd → List Symbol → Type 0
AreOnlyRows width old result new = (rows : List (List Sym)) (r : List Symbol) → All (IsRow width) rows → ¬ (Begins (Sign sign.Open) r) → old ≡ flat_map row_line rows ++ r → GivesBefore result new rows r

-- where trees are in front, and behind them none, these come out
abbrev pub AreOnlyTrees : List Symbol → Result (List RowTree) LexEnd → List Symbol → Type 0
AreOnlyTrees old result new = (ts : List RowTree) (r : List Symbol) → All IsByteTree ts → ¬ (Begins (Word (codes "tree")) r) → old ≡ flat_map tree_line ts ++ r → GivesBefore result new ts r
