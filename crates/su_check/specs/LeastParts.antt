-- What a good certificate shows: the kept rows are the least part of a term's tableau.
-- part: the rows of a list of numbers, with the same head
use Rattle.std.specs.Prelude.{ℕ, List, map}
use Rattle.su_tableau.specs.Tableaux.{Tab}
use Rattle.su_tableau.specs.Parts.{row_of}
use Rattle.su_tableau.specs.Kinds.{Kinds}
use Rattle.su_tableau.specs.Equivalent.{IsLeastForm}

-- the tableau with the rows of these numbers alone
abbrev pub part_of : Tab → List ℕ → Tab
part_of t kept = record t { rows = map (row_of t) kept }

-- the kept rows are a least form of the whole
abbrev pub IsLeastListed : Kinds → Tab → List ℕ → Type 0
IsLeastListed kinds t kept = IsLeastForm kinds t (part_of t kept)
