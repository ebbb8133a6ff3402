use Rattle.std.proofs.Common.{◌≡◌, ◌++◌, ◌∷◌, [], length, map, flat_map, take, codes}
use Rattle.su_check.specs.Grammar.{line, term_lines}
use Rattle.su_check.specs.NodeSymbols.{number}
use Rattle.su_lex.specs.Wordings.{kind_symbol}
use Rattle.su_refute.specs.Written.{line_text, lines_text, terms_from}
use Rattle.su_refute.proofs.writing.write.Given as goal

abbrev pub invariant-loop-i : goal.invariant-loop-i
invariant-loop-i l = l.out.items ≡ (line_text (line (codes "certificate") (number (length l.kinds) ∷ [])) ++ line_text (line (codes "kinds") (map kind_symbol l.kinds))) ++ lines_text (flat_map term_lines (terms_from 0 (take l.i l.minimals) l.trees))
