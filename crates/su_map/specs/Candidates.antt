-- Candidates of a row, and how many are tried at most.
-- candidate: a row of the target that has the row's constants, and the target head's symbols for the row's head variables
use Rattle.std.specs.Prelude.{◌≡◌, ℕ, suc, ◌+◌, ◌*◌, ◌<◌, ◌≤◌, ◌↔◌, Bool, IsTrue, List, [], ◌∷◌, map, length, get_or}
use Rattle.std.specs.Int.{bit_at}
use Rattle.su_base.specs.Numbers.{count_below}
use Rattle.su_base.specs.declared.values.Value.{Value}
use Rattle.su_tableau.specs.declared.symbols.Sym.{Sym}
use Rattle.su_tableau.specs.declared.symbols.Sym.TheVariants.{Const, Var}
use Rattle.su_tableau.specs.Tableaux.{Tab}
use Rattle.su_tableau.specs.Parts.{Cell}
use Rattle.su_map.specs.Lists.{row_numbers, row_of}

-- where xs has a constant, us has it too
abbrev pub KeepsConstants : List Sym → List Sym → Type 0
KeepsConstants xs us = (c : ℕ) (v : Value) (d : Sym) → Cell xs c (Const v) → get_or us c d ≡ Const v

-- where xs and ys have one variable, us and vs have one symbol
abbrev pub MapAlike : List Sym → List Sym → List Sym → List Sym → Type 0
MapAlike xs us ys vs = (c e k : ℕ) (d : Sym) → Cell xs c (Var k) → Cell ys e (Var k) → get_or us c d ≡ get_or vs e d

-- row j of t, in the set, is a candidate for row i of s
pub record IsCandidate (s t : Tab) (k i j : ℕ) : Type 0 where
  pub row_in : j < length t.rows
  pub in_set : bit_at k j ≡ 1
  pub constants : KeepsConstants (row_of s i) (row_of t j)
  pub head_symbols : MapAlike s.head t.head (row_of s i) (row_of t j)

-- the sum of c1, c1 c2, c1 c2 c3, and so on
abbrev pub sum_of_products : List ℕ → ℕ
sum_of_products [] = 0
sum_of_products (c ∷ cs) = c * suc (sum_of_products cs)

-- the number of candidates of each row in m, by a test that tells them
abbrev pub candidate_counts : Tab → ℕ → Tab → (ℕ → ℕ → Bool) → List ℕ
candidate_counts s m t passes = map (λ i. count_below (passes i) (length t.rows)) (row_numbers s m)

-- at most the sum of the products of the numbers of candidates was added, whichever test tells the candidates
abbrev pub IsWithinProducts : Tab → ℕ → Tab → ℕ → ℕ → ℕ → Type 0
IsWithinProducts s m t k old new =
    (passes : ℕ → ℕ → Bool) → ((i j : ℕ) → i < length s.rows → IsTrue (passes i j) ↔ IsCandidate s t k i j) → new ≤ old + sum_of_products (candidate_counts s m t passes)
