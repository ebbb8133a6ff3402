-- Rows are well typed exactly where each is typed among them; and when a term is good in form.
use Rattle.std.proofs.Common.{◌≡◌, ℕ, zero, suc, replicate, ◌<◌, ◌≤◌, ◌⊎◌, List, [], Option, Some, None, map, length, get_or, All, Contains, inl, inr, refl, sym, ap, subst, ◌∙◌, arith}
use Rattle.std.specs.Option.{MatchOption}
use Rattle.std.proofs.lemmas.List.{length-map, get_or-map, get_or_default, same_lists}
use Rattle.su_base.specs.Lists.{IsAscending}
use Rattle.su_base.specs.declared.values.Kind.{Kind}
use Rattle.su_base.specs.declared.values.Kind.TheVariants.{Int as IntKind}
use Rattle.su_base.specs.Value.{kind_of}
use Rattle.su_tableau.specs.declared.symbols.Sym.{Sym}
use Rattle.su_tableau.specs.declared.symbols.Sym.TheVariants.{Const, Var}
use Rattle.su_tableau.specs.Tableaux.{Occurs}
use Rattle.su_tableau.specs.Kinds.{Kinds, sym_kind}
use Rattle.su_tableau.proofs.ChangedValuations.{Stands, stands}
use Rattle.su_check.specs.declared.certificates.StatedTerm.{StatedTerm}
use Rattle.su_check.specs.inside.Cells.{cell_at, kind_at, HasFound, AreFound, AreTyped}
use Rattle.su_check.specs.declared.boards.Board.{Board}
use Rattle.su_check.specs.declared.sending.StepColumn.{StepColumn}
use Rattle.su_check.specs.inside.Boards.{IsBoard, IsReady}
use Rattle.su_check.specs.Certificate.{lines_of, IsGoodForm}
use Rattle.su_check.proofs.FoldTargets.{none_sent}
use Rattle.su_check.proofs.Boarded.{first_one}

-- a constant has the kind
abbrev HasKind : Sym → Kind → Type 0
HasKind (Const v) kind = kind_of v ≡ kind
HasKind (Var k) kind = Unit {0}

-- the constants of the row have the kinds of their columns
abbrev HaveKinds : List Kind → List Sym → Type 0
HaveKinds kinds xs = (c : ℕ) → c < length xs → HasKind (cell_at xs c) (kind_at kinds c)

-- where the row has the symbol x, its column has this kind
abbrev Meets : List Kind → Sym → Kind → List Sym → Type 0
Meets kinds x kind ys = (e : ℕ) → e < length ys → x ≡ cell_at ys e → kind ≡ kind_at kinds e

-- where two rows have one symbol, the columns have one kind
abbrev Meet : List Kind → List Sym → List Sym → Type 0
Meet kinds xs ys = (c : ℕ) → c < length xs → Meets kinds (cell_at xs c) (kind_at kinds c) ys

-- the row has the right constants, and its symbols stand in columns of their kinds alone
pub record IsTypedRow (kinds : List Kind) (rows : List (List Sym)) (xs : List Sym) : Type 0 where
  pub constants : HaveKinds kinds xs
  pub symbols : (i : ℕ) → i < length rows → Meet kinds xs (get_or rows i [])

abbrev line : List (List Sym) → ℕ → List Sym
line rows i = get_or rows i []

abbrev each_row : ℕ → ℕ
each_row i = 1

-- the kind of a column where the variable stands
abbrev kind_found : (kinds : Kinds) (rows : List (List Sym)) (k : ℕ) → Stands (line rows) each_row (length rows) k ⊎ (Stands (line rows) each_row (length rows) k → ⊥) → Kind
kind_found kinds rows k (inl o) = kind_at kinds o.column
kind_found kinds rows k (inr none) = IntKind

abbrev var_kind : Kinds → List (List Sym) → ℕ → Kind
var_kind kinds rows k = kind_found kinds rows k (stands (line rows) each_row (length rows) k)

kind_cell : (kinds : Kinds) (rows : List (List Sym)) (i c : ℕ) (x : Sym) → x ≡ cell_at (line rows i) c → i < length rows → c < length (line rows i) → ((j : ℕ) → j < length rows → IsTypedRow kinds rows (line rows j)) → sym_kind (var_kind kinds rows) x ≡ kind_at kinds c
kind_cell kinds rows i c (Const v) e hi hc typed = subst (λ x. HasKind x (kind_at kinds c)) (sym e) ((typed i hi).constants c hc)
kind_cell kinds rows i c (Var k) e hi hc typed = go (stands (line rows) each_row (length rows) k)
  where
    go : (r : Stands (line rows) each_row (length rows) k ⊎ (Stands (line rows) each_row (length rows) k → ⊥)) → kind_found kinds rows k r ≡ kind_at kinds c
    go (inl o) = (typed o.line o.line_in).symbols i hi o.column o.below c hc (o.is (Var 0) ∙ e)
    go (inr none) = absurd (none (record { line = i; line_in = hi; is_looked = refl; column = c; below = hc; is = λ d. get_or_default (line rows i) c d (Var 0) hc ∙ sym e }))

row_kinds : (kinds : Kinds) (rows : List (List Sym)) → All (λ r. length r ≡ length kinds) rows → ((j : ℕ) → j < length rows → IsTypedRow kinds rows (line rows j)) → (i : ℕ) → i < length rows → map (sym_kind (var_kind kinds rows)) (line rows i) ≡ kinds
row_kinds kinds rows wide typed i hi =
    let row = line rows i in
    let w : length row ≡ length kinds = wide i [] hi in
    let l = length-map row (sym_kind (var_kind kinds rows)) in
    same_lists (map (sym_kind (var_kind kinds rows)) row) kinds (l ∙ w) (λ c d h.
    let low : c < length row = omega arith in
    get_or-map (sym_kind (var_kind kinds rows)) row c (Var 0) d low ∙ kind_cell kinds rows i c (cell_at row c) refl hi low typed ∙ get_or_default kinds c IntKind d (omega arith))

typed_from : (kinds : Kinds) (rows : List (List Sym)) → All (λ r. length r ≡ length kinds) rows → ((j : ℕ) → j < length rows → IsTypedRow kinds rows (line rows j)) → All (λ row. map (sym_kind (var_kind kinds rows)) row ≡ kinds) rows
typed_from kinds rows wide typed i d h = subst (λ row. map (sym_kind (var_kind kinds rows)) row ≡ kinds) (get_or_default rows i [] d h) (row_kinds kinds rows wide typed i h)

pub kind_of_cell : (kinds : Kinds) (f : ℕ → Kind) (row : List Sym) (c : ℕ) → map (sym_kind f) row ≡ kinds → c < length row → sym_kind f (cell_at row c) ≡ kind_at kinds c
kind_of_cell kinds f row c e h = sym (get_or-map (sym_kind f) row c (Var 0) IntKind h) ∙ ap (λ ks. kind_at ks c) e

-- ---- kinds that were found

pub cells_typed : (kinds : Kinds) (rows : List (List Sym)) (variables : List ℕ) (found : List (Option Kind)) → All (λ r. length r ≡ length kinds) rows
    → ((i c : ℕ) → i < length rows → c < length (line rows i) → HasFound variables found (cell_at (line rows i) c) (kind_at kinds c)) → AreTyped kinds rows
cells_typed kinds rows variables found wide has = (
  var_kind kinds rows,
  typed_from kinds rows wide (λ j hj. record {
    constants = λ c hc. constant (cell_at (line rows j) c) (kind_at kinds c) (has j c hj hc);
    symbols = λ i hi c hc e he same. one (cell_at (line rows j) c) (cell_at (line rows i) e) (kind_at kinds c) (kind_at kinds e) same (has j c hj hc) (has i e hi he);
  }),
)
  where
    constant : (x : Sym) (kind : Kind) → HasFound variables found x kind → HasKind x kind
    constant (Const v) kind h = h
    constant (Var k) kind h = tt

    two : (x : Sym) (kind kind' : Kind) → HasFound variables found x kind → HasFound variables found x kind' → kind ≡ kind'
    two (Const v) kind kind' a b = sym a ∙ b
    two (Var k) kind kind' a b =
        let n : a.0 ≡ b.0 = first_one variables k a.0 b.0 a.1 b.1 in
        let s : Some kind ≡ Some kind' = sym a.2 ∙ ap (λ n. get_or found n None) n ∙ b.2 in
        cc

    one : (x y : Sym) (kind kind' : Kind) → x ≡ y → HasFound variables found x kind → HasFound variables found y kind' → kind ≡ kind'
    one x y kind kind' e a b = two y kind kind' (subst (λ x. HasFound variables found x kind) e a) b

pub found_kept : (variables : List ℕ) (old new : List (Option Kind)) (x : Sym) (kind : Kind) → ((n : ℕ) (k : Kind) → get_or old n None ≡ Some k → get_or new n None ≡ Some k) → HasFound variables old x kind → HasFound variables new x kind
found_kept variables old new (Const v) kind keeps h = h
found_kept variables old new (Var k) kind keeps h = (h.0, h.1, keeps h.0 kind h.2)

-- ---- a term that is good in form

pub form_from : (kinds : Kinds) (i : ℕ) (x : StatedTerm) → All (λ r. length r ≡ length kinds) x.rows → x.number ≡ i → length x.rows ≤ 64 → ((k : ℕ) → Contains x.head (Var k) → Occurs x.rows k) → AreTyped kinds x.rows → IsAscending x.kept → All (λ k. k < length x.rows) x.kept → IsGoodForm kinds i x
form_from kinds i x wide place few occur typed ascending within = record {
  place = place;
  few = few;
  valid = record { widths = wide; head_length = omega arith; head_occurs = occur };
  typed = record { width = refl; var_kind = typed.0; fits = typed.1 };
  ascending = ascending;
  within = within;
}

-- ---- as the test reads them

pub wide_as : (rows rows' : List (List Sym)) (m n : ℕ) → rows ≡ rows' → m ≡ n → All (λ r. length r ≡ m) rows → All (λ r. length r ≡ n) rows'
wide_as rows rows' m n e f all = rw (sym e, sym f) all

abbrev HeadOccurs : StatedTerm → Type 0
HeadOccurs x = (k : ℕ) → Contains x.head (Var k) → Occurs x.rows k

pub form_option : (kinds : Kinds) (i : ℕ) (x : StatedTerm) (o : Option Board) → (HeadOccurs x → IsGoodForm kinds i x) → MatchOption o (¬ (HeadOccurs x)) (λ b. IsBoard (lines_of x) b × HeadOccurs x) → MatchOption o (¬ (IsGoodForm kinds i x)) (λ b. IsGoodForm kinds i x × IsBoard (lines_of x) b)
form_option kinds i x None good m = λ form. m form.valid.head_occurs
form_option kinds i x (Some b) good m = (good m.1, m.0)

-- where the tests of a good term begin
pub ready_start : (kinds : Kinds) (i : ℕ) (x : StatedTerm) (b : Board) (places : List StepColumn) → IsGoodForm kinds i x → IsBoard (lines_of x) b → length places ≡ length b.variables → IsReady (lines_of x) b [] places
ready_start kinds i x b places form board len = record {
  wide = λ i j hi hj. form.valid.widths i [] hi ∙ sym (form.valid.widths j [] hj);
  ascending = form.ascending;
  kept = form.within;
  within = λ k d h. absurd (omega arith);
  sent = none_sent (lines_of x);
  board = board;
  one_each = len;
  covers = λ k d h. absurd (omega arith);
}

none_at : (m n : ℕ) (d : Kind) → get_or (replicate m None) n None ≡ Some d → ⊥
none_at zero n d e = absurd (cc)
none_at (suc m) zero d e = absurd (cc)
none_at (suc m) (suc n) d e = none_at m n d e

pub nothing_found : (f : ℕ → Kind) (variables : List ℕ) (found : List (Option Kind)) (m : ℕ) → found ≡ replicate m None → AreFound f variables found
nothing_found f variables found m e n d at = absurd (none_at m n d (ap (λ fs. get_or fs n None) (sym e) ∙ at))
