-- The lines of a term in two parts: those of its tableau, and those of what is kept of it.
-- i: the term's number, from 0; t: its tableau; m: a tableau with its kept rows, as a mask, and its fold
-- fold: for each row the kept row that it goes to; trees: for each kept row, ascending, why it can't be left out
-- No public contract cites this module.
use Rattle.std.specs.Prelude.{ℕ, List, [], ◌∷◌, map, codes}
use Rattle.su_lex.specs.declared.meaning.Symbol.{Symbol}
use Rattle.su_tableau.specs.Tableaux.{Tab}
use Rattle.su_map.specs.Lists.{row_numbers}
use Rattle.su_min.specs.Kept.{Minimised}
use Rattle.su_check.specs.declared.nodes.Node.{Node}
use Rattle.su_check.specs.NodeSymbols.{number, sym_symbol}
use Rattle.su_check.specs.Grammar.{line, row_line, tree_line}
use Rattle.su_refute.specs.Written.{row_trees}

-- the term's number, its head and its rows
abbrev pub tableau_lines : ℕ → Tab → List (List Symbol)
tableau_lines i t = line (codes "term") (number i ∷ []) ∷ line (codes "head") (map sym_symbol t.head) ∷ line (codes "rows") [] ∷ map row_line t.rows

-- the kept rows, the fold, and the trees of the kept rows
abbrev pub kept_lines : Minimised → List Node → List (List Symbol)
kept_lines m trees =
    line (codes "kept") (map number (row_numbers m.tableau m.mask)) ∷ line (codes "fold") (map number m.fold) ∷ map tree_line (row_trees (row_numbers m.tableau m.mask) trees)
