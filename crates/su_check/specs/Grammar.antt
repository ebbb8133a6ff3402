-- The lines of a certificate, and their symbols. Each certificate has one list of symbols.
-- line: a word and what follows it; the written form ends each line with a line feed
use Rattle.std.specs.Prelude.{◌≡◌, ℕ, List, [], ◌∷◌, ◌++◌, length, map, flat_map, codes}
use Rattle.su_lex.specs.declared.meaning.Symbol.{Symbol}
use Rattle.su_lex.specs.declared.meaning.Symbol.TheVariants.{Word}
use Rattle.su_lex.specs.Symbols.{Symbols}
use Rattle.su_tableau.specs.declared.symbols.Sym.{Sym}
use Rattle.su_check.specs.declared.certificates.Certificate.{Certificate}
use Rattle.su_check.specs.declared.certificates.StatedTerm.{StatedTerm}
use Rattle.su_check.specs.declared.certificates.RowTree.{RowTree}
use Rattle.su_lex.specs.Nesting.{IsDeep}
use Rattle.su_check.specs.NodeSymbols.{number, sym_symbol, node_symbols}
use Rattle.su_lex.specs.Wordings.{kind_symbol, in_parens}
use Rattle.su_check.specs.Ranges.{IsInRange}

-- a line: a word, and symbols behind it
abbrev pub line : List ℕ → List Symbol → List Symbol
line word symbols = Word word ∷ symbols

-- the line of a row of a tableau
abbrev pub row_line : List Sym → List Symbol
row_line row = in_parens (map sym_symbol row)

-- the line of the tree of a kept row
abbrev pub tree_line : RowTree → List Symbol
tree_line t = line (codes "tree") (number t.row ∷ node_symbols t.node)

-- the lines of a term, in order
abbrev pub term_lines : StatedTerm → List (List Symbol)
term_lines x =
    line (codes "term") (number x.number ∷ []) ∷ line (codes "head") (map sym_symbol x.head) ∷ line (codes "rows") []
    ∷ (map row_line x.rows ++ line (codes "kept") (map number x.kept) ∷ line (codes "fold") (map number x.fold) ∷ map tree_line x.trees)

-- the lines of a certificate: the kinds of the columns, and those of the terms
abbrev pub certificate_lines : Certificate → List (List Symbol)
certificate_lines c = line (codes "certificate") (number (length c.kinds) ∷ []) ∷ line (codes "kinds") (map kind_symbol c.kinds) ∷ flat_map term_lines c.terms

-- the symbols of a certificate, one line behind another
abbrev pub certificate_symbols : Certificate → List Symbol
certificate_symbols c = flat_map (λ symbols. symbols) (certificate_lines c)

-- the bytes are those of the certificate
pub record Reads (bytes : List ℕ) (c : Certificate) : Type 0 where
  pub symbols : List Symbol
  pub spelled : Symbols bytes symbols
  pub shallow : ¬ (IsDeep symbols)
  pub form : symbols ≡ certificate_symbols c
  pub in_range : IsInRange c
