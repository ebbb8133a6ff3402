-- The lines of what takes part in an answer: a line for each kept term and, below it, one for each of its kept rows.
-- support: how many candidates each kept row has, and how many are left; terms and rows are numbered from 0. Each line ends with a line feed; where no term is kept there is none.
use Rattle.std.specs.Prelude.{ℕ, Bool, true, false, List, [], ◌++◌, flat_map, Option, Some, None, codes, decimal}
use Rattle.su_reduce.specs.declared.support.Counted.{Counted}
use Rattle.su_reduce.specs.declared.support.Support.{Support}

-- whether the rows of a term are acyclic
abbrev pub shape_text : Bool → List ℕ
shape_text true = codes " acyclic"
shape_text false = codes " cyclic"

-- how many candidates are left, where that is told
abbrev pub left_text : Option ℕ → List ℕ
left_text (Some n) = codes " left " ++ decimal n
left_text None = []

-- the number of a kept row
abbrev pub row_number_text : ℕ → List ℕ
row_number_text r = codes "  row " ++ decimal r

-- how many candidates it has
abbrev pub candidates_text : ℕ → List ℕ
candidates_text n = codes " candidates " ++ decimal n

-- a row and its counts
abbrev pub counted_line : Counted → List ℕ
counted_line c = row_number_text c.row ++ candidates_text c.candidates ++ left_text c.left ++ codes "\n"

-- a term and its rows
abbrev pub support_lines : Support → List ℕ
support_lines s = codes "term " ++ decimal s.term ++ shape_text s.acyclic ++ codes "\n" ++ flat_map counted_line s.rows

-- all of them
abbrev pub supports_text : List Support → List ℕ
supports_text = flat_map support_lines
