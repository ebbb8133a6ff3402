-- The matrix of coverings: entry j, i tells whether term j covers term i.
-- term: a tableau with its kept rows and fold; i, j, k: terms by number, from 0; n: how many there are; covers: the entries, as a function
-- marks: of each number whether something is known of it; past their end nothing is; dropped: not kept in the union of the terms
-- No public contract cites this module.
use Rattle.std.specs.Prelude.{◌≡◌, ◌<◌, ◌↔◌, ◌⊎◌, ℕ, Bool, true, false, List, [], length, get_or}
use Rattle.su_min.specs.Kept.{Minimised, IsMinimised}
use Rattle.su_min.specs.Cover.{Covers}
use Rattle.su_min.specs.Reduction.{term_at}

-- whether term j covers term i
abbrev pub entry : List (List Bool) → ℕ → ℕ → Bool
entry matrix j i = get_or (get_or matrix j []) i false

-- as many columns as rows
pub record IsSquare (matrix : List (List Bool)) : Type 0 where
  pub columns : (j : ℕ) → j < length matrix → length (get_or matrix j []) ≡ length matrix

-- the row of a term
pub record IsRowOf (term : Minimised) (terms : List Minimised) (row : List Bool) : Type 0 where
  pub minimised : IsMinimised term
  pub columns : length row ≡ length terms
  pub tells : (i : ℕ) → i < length terms → (get_or row i false ≡ true) ↔ Covers term (term_at terms i)

-- each term that is marked is covered by the first one
abbrev pub AreKnown : List Minimised → List Bool → Type 0
AreKnown terms marks = (i : ℕ) → i < length terms → get_or marks i false ≡ true → Covers (term_at terms 0) (term_at terms i)

-- a row for each term
pub record IsMatrix (terms : List Minimised) (matrix : List (List Bool)) : Type 0 where
  pub rows : length matrix ≡ length terms
  pub row : (j : ℕ) → j < length terms → IsRowOf (term_at terms j) terms (get_or matrix j [])

-- some term covers term i that term i does not cover, or some earlier one covers it
pub record IsDroppedIn (covers : ℕ → ℕ → Bool) (n i : ℕ) : Type 0 where
  pub other : ℕ
  pub below : other < n
  pub covers_it : covers other i ≡ true
  pub why : (covers i other ≡ false) ⊎ (other < i)

-- one mark for each number below n, which tells whether the number has the property
pub record AreMarks (P : ℕ → Type 0) (n : ℕ) (marks : List Bool) : Type 0 where
  pub all : length marks ≡ n
  pub tells : (i : ℕ) → i < n → (get_or marks i false ≡ true) ↔ P i

-- each term covers itself, and what covers a term covers what that covers
pub record IsPreorder (covers : ℕ → ℕ → Bool) (n : ℕ) : Type 0 where
  pub itself : (i : ℕ) → i < n → covers i i ≡ true
  pub through : (i j k : ℕ) → i < n → j < n → k < n → covers i j ≡ true → covers j k ≡ true → covers i k ≡ true

-- the first that is not dropped and covers term i
pub record IsFirstCover (covers : ℕ → ℕ → Bool) (n i k : ℕ) : Type 0 where
  pub below : k < n
  pub covers_it : covers k i ≡ true
  pub stays : IsDroppedIn covers n k → ⊥
  pub least : (j : ℕ) → j < k → covers j i ≡ true → (IsDroppedIn covers n j → ⊥) → ⊥
