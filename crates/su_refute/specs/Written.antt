-- How certificates are written: a term for each tableau, and a line feed behind each line.
-- tree: of a kept row; line: symbols, spaced
use Rattle.std.specs.Prelude.{ℕ, suc, List, [], ◌∷◌, ◌++◌, flat_map}
use Rattle.su_base.specs.declared.values.Kind.{Kind}
use Rattle.su_lex.specs.declared.meaning.Symbol.{Symbol}
use Rattle.su_lex.specs.Spelling.{spaced}
use Rattle.su_map.specs.Lists.{row_numbers}
use Rattle.su_min.specs.Kept.{Minimised}
use Rattle.su_check.specs.declared.nodes.Node.{Node}
use Rattle.su_check.specs.declared.certificates.RowTree.{RowTree}
use Rattle.su_check.specs.declared.certificates.StatedTerm.{StatedTerm}
use Rattle.su_check.specs.declared.certificates.Certificate.{Certificate}
use Rattle.su_check.specs.Grammar.{certificate_lines}

-- each row with its tree, up to the end of the shorter list
abbrev pub row_trees : List ℕ → List Node → List RowTree
row_trees [] trees = []
row_trees (r ∷ rows) [] = []
row_trees (r ∷ rows) (n ∷ trees) = record { row = r; node = n } ∷ row_trees rows trees

-- what is written of a term: its rows, what is kept, the fold, and a tree for each kept row
abbrev pub term_of : ℕ → Minimised → List Node → StatedTerm
term_of i m trees = record {
  number = i;
  head = m.tableau.head;
  rows = m.tableau.rows;
  kept = row_numbers m.tableau m.mask;
  fold = m.fold;
  trees = row_trees (row_numbers m.tableau m.mask) trees;
}

-- the terms from number i on; a tableau without a list has no trees
abbrev pub terms_from : ℕ → List Minimised → List (List Node) → List StatedTerm
terms_from i [] lists = []
terms_from i (m ∷ minimals) [] = term_of i m [] ∷ terms_from (suc i) minimals []
terms_from i (m ∷ minimals) (trees ∷ lists) = term_of i m trees ∷ terms_from (suc i) minimals lists

-- the certificate of terms, with the trees of each
abbrev pub certificate_of : List Kind → List Minimised → List (List Node) → Certificate
certificate_of kinds minimals lists = record { kinds = kinds; terms = terms_from 0 minimals lists }

-- a line and its line feed
abbrev pub line_text : List Symbol → List ℕ
line_text line = spaced line ++ 10 ∷ []

-- lines, one behind another
abbrev pub lines_text : List (List Symbol) → List ℕ
lines_text lines = flat_map line_text lines

-- the text of a certificate
abbrev pub certificate_text : Certificate → List ℕ
certificate_text c = lines_text (certificate_lines c)
