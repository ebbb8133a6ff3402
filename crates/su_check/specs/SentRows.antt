-- Rows that go to rows under one list of symbols.
-- sent: a row and the row to which it goes; target: the row to which a row goes
-- partial list: rows with their targets, in the order in which they got them
use Rattle.std.specs.Prelude.{◌≡◌, ℕ, List, [], ◌∷◌, ◌++◌, get_or, All}
use Rattle.su_tableau.specs.declared.symbols.Sym.{Sym}
use Rattle.su_tableau.specs.Mapping.{images_of}
use Rattle.su_check.specs.declared.sending.Sent.{Sent}

-- the lines of a tableau, and the numbers of its kept rows
pub record Lines : Type 0 where
  pub head : List Sym
  pub rows : List (List Sym)
  pub kept : List ℕ

-- the row with this number
abbrev pub numbered_row : Lines → ℕ → List Sym
numbered_row t i = get_or t.rows i []

-- one list of symbols sends the head to itself, and each row of the list to its target
pub record AreSent (t : Lines) (p : List Sent) : Type 0 where
  pub symbols : ℕ → Sym
  pub head : images_of symbols t.head ≡ t.head
  pub rows : All (λ x. images_of symbols (numbered_row t x.row) ≡ numbered_row t x.target) p

-- the partial list, and behind it that row s goes to row j
abbrev pub sent_too : List Sent → ℕ → ℕ → List Sent
sent_too p s j = p ++ record { row = s; target = j } ∷ []
