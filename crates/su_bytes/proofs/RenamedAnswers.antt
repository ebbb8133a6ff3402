-- A map of values that keeps a tableau's constants carries its answers over.
use Rattle.std.proofs.Common.{◌≡◌, ℕ, zero, suc, ◌≤◌, List, [], ◌∷◌, map, get_or, All, Contains, refl, sym, ap, ◌∙◌, subst, arith}
use Rattle.std.proofs.lemmas.List.Elements.{All-head, All-tail}
use Rattle.su_base.specs.declared.values.Value.{Value}
use Rattle.su_base.proofs.Items.{Contains-map}
use Rattle.su_tableau.specs.declared.symbols.Sym.{Sym}
use Rattle.su_tableau.specs.declared.symbols.Sym.TheVariants.{Const, Var}
use Rattle.su_tableau.specs.Tableaux.{Tab}
use Rattle.su_tableau.specs.Valuations.{values_of, value_of, Ext}
use Rattle.su_tableau.specs.FrozenTableaux.{top, row_top, rows_top, tab_top}
use Rattle.su_tableau.specs.Bytes.{IsByteSymbol}
use Rattle.su_bytes.specs.Constants.{HasByteSymbols}
use Rattle.su_bytes.proofs.Codes.{coded, decoded, coded-same, decoded-same, spans, row_spans, there_and_back, rows_there_and_back}

-- the map sends a constant to itself
abbrev pub Keeps : (Value → Value) → Sym → Type 0
Keeps g (Const c) = g c ≡ c
Keeps g (Var k) = Unit {0}

-- it keeps the constants of the head and of the rows
abbrev pub KeepsConstants : (Value → Value) → Tab → Type 0
KeepsConstants g t = All (Keeps g) t.head × All (All (Keeps g)) t.rows

-- ---- answers

-- the map behind a valuation
renamed_value : (g : Value → Value) (v : ℕ → Value) (x : Sym) → Keeps g x → value_of (λ k. g (v k)) x ≡ g (value_of v x)
renamed_value g v (Const c) kept = sym kept
renamed_value g v (Var k) kept = refl

pub renamed_values : (g : Value → Value) (v : ℕ → Value) (xs : List Sym) → All (Keeps g) xs → values_of (λ k. g (v k)) xs ≡ map g (values_of v xs)
renamed_values g v [] kept = refl
renamed_values g v (x ∷ xs) kept =
    let i = renamed_values g v xs (All-tail (Keeps g) x xs kept) in
    let j = renamed_value g v x (All-head (Keeps g) x xs kept) in
    cc

pub renamed_answer : (g : Value → Value) (t : Tab) (universe : List (List Value)) (h : List Value) → All (Keeps g) t.head → All (All (Keeps g)) t.rows → Ext t universe h → Ext t (map (map g) universe) (map g h)
renamed_answer g t universe h head rows answer =
    let v = answer.valuation in
    record {
      valuation = λ k. g (v k);
      holds = λ k d l.
          let row = get_or t.rows k d in
          let there = Contains-map (map g) universe (values_of v row) (answer.holds k d l) in
          subst (Contains (map (map g) universe)) (sym (renamed_values g v row (rows k d l))) there;
      gives = renamed_values g v t.head head ∙ ap (map g) answer.gives;
    }

-- ---- the constants that coding and decoding keep

-- above the spans of the tableau's constants
abbrev pub tab_spans : Tab → ℕ
tab_spans t = tab_top t

coded_symbol : (n : ℕ) (x : Sym) → IsByteSymbol x → Keeps (coded n) x
coded_symbol n (Const c) bytes = coded-same n c bytes
coded_symbol n (Var k) bytes = tt

pub coded_keeps : (n : ℕ) (t : Tab) → HasByteSymbols t → KeepsConstants (coded n) t
coded_keeps n t bytes =
    (λ k d h. coded_symbol n (get_or t.head k d) (bytes.head k d h), λ k d h j e l. coded_symbol n (get_or (get_or t.rows k d) j e) (bytes.rows k d h j e l))

decoded_symbol : (n : ℕ) (x : Sym) → top x ≤ n → Keeps (decoded n) x
decoded_symbol n (Const c) low = decoded-same n c (omega arith)
decoded_symbol n (Var k) low = tt

decoded_row : (n : ℕ) (xs : List Sym) → row_top xs ≤ n → All (Keeps (decoded n)) xs
decoded_row n [] low k d h = absurd (omega arith)
decoded_row n (x ∷ xs) low zero d h = decoded_symbol n x (omega arith)
decoded_row n (x ∷ xs) low (suc k) d h = decoded_row n xs (omega arith) k d (omega arith)

decoded_rows : (n : ℕ) (rows : List (List Sym)) → rows_top rows ≤ n → All (All (Keeps (decoded n))) rows
decoded_rows n [] low k d h = absurd (omega arith)
decoded_rows n (row ∷ rows) low zero d h = decoded_row n row (omega arith)
decoded_rows n (row ∷ rows) low (suc k) d h = decoded_rows n rows (omega arith) k d (omega arith)

pub decoded_keeps : (n : ℕ) (t : Tab) → tab_spans t ≤ n → KeepsConstants (decoded n) t
decoded_keeps n t low = (decoded_row n t.head (omega arith), decoded_rows n t.rows (omega arith))

-- ---- a universal relation and its copy

pub coded_answer : (n : ℕ) (t : Tab) (universe : List (List Value)) (h : List Value) → HasByteSymbols t → Ext t universe h → Ext t (map (map (coded n)) universe) (map (coded n) h)
coded_answer n t universe h bytes answer =
    let kept = coded_keeps n t bytes in
    renamed_answer (coded n) t universe h kept.0 kept.1 answer

-- an answer over the copy is read back
pub decoded_answer : (n : ℕ) (t : Tab) (universe : List (List Value)) (h : List Value) → tab_spans t ≤ n → row_spans universe ≤ n → spans h ≤ n → Ext t (map (map (coded n)) universe) (map (coded n) h) → Ext t universe h
decoded_answer n t universe h low_t low_universe low_h answer =
    let kept = decoded_keeps n t low_t in
    let back = renamed_answer (decoded n) t (map (map (coded n)) universe) (map (coded n) h) kept.0 kept.1 answer in
    subst (λ heads. Ext t universe heads) (there_and_back n h low_h)
    (subst (λ rows. Ext t rows (map (decoded n) (map (coded n) h))) (rows_there_and_back n universe low_universe) back)
