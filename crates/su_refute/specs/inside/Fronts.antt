-- How a certificate begins.
-- kinds: those of the columns of the tableaux, in order; width: how many they are; line: a word and symbols, ended by a line feed
-- No public contract cites this module.
use Rattle.std.specs.Prelude.{ℕ, List, [], ◌∷◌, ◌++◌, length, map, codes}
use Rattle.su_base.specs.declared.values.Kind.{Kind}
use Rattle.su_lex.specs.Wordings.{kind_symbol}
use Rattle.su_check.specs.NodeSymbols.{number}
use Rattle.su_check.specs.Grammar.{line}
use Rattle.su_refute.specs.Written.{line_text}

-- the lines of the width and of the kinds
abbrev pub front_text : List Kind → List ℕ
front_text kinds = line_text (line (codes "certificate") (number (length kinds) ∷ [])) ++ line_text (line (codes "kinds") (map kind_symbol kinds))
