-- Rows that are all among others.
use Rattle.std.proofs.Common.{◌≡◌, ◌<◌, ◌≤◌, ◌+◌, ◌∙◌, ℕ, List, [], length, get_or, Contains, sym, subst, arith, below_more}
use Rattle.std.specs.declared.cmp.Ordering.TheVariants.{Equal}
use Rattle.std.proofs.lemmas.List.{get_or_default}
use Rattle.su_base.specs.declared.values.Value.{Value}
use Rattle.su_base.specs.Value.{compare_lists}
use Rattle.su_base.proofs.Rows.{equal_rows}

-- the first n rows are among the others
abbrev pub AreAmong : List (List Value) → List (List Value) → ℕ → Type 0
AreAmong rows others n = (k : ℕ) → k < n → Contains others (get_or rows k [])

-- the row at the place is equal to this one
pub at_place : (rows : List (List Value)) (row x : List Value) (place : ℕ) → place < length rows → x ≡ get_or rows place x → compare_lists x row ≡ Equal → Contains rows row
at_place rows row x place low is same = (place, low, get_or_default rows place row x low ∙ sym is ∙ equal_rows x row same)

pub among_more : (rows others : List (List Value)) (n : ℕ) (row : List Value) → n < length rows → row ≡ get_or rows n row → Contains others row → AreAmong rows others n → AreAmong rows others (n + 1)
among_more rows others n row low is has before =
    below_more (λ k. Contains others (get_or rows k [])) n before (subst (Contains others) (is ∙ get_or_default rows n row [] low) has)

pub all_among : (rows others : List (List Value)) (n : ℕ) → length rows ≤ n → AreAmong rows others n → (h : List Value) → Contains rows h → Contains others h
all_among rows others n all among h c =
    let low = c.1 in
    subst (Contains others) (get_or_default rows c.0 [] h low ∙ c.2) (among c.0 (omega arith))
