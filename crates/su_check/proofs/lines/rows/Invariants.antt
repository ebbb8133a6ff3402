use Rattle.std.proofs.Common.{◌≡◌, ◌++◌, List, length, flat_map, All}
use Rattle.su_lex.specs.Names.{Begins}
use Rattle.su_lex.specs.declared.meaning.Symbol.{Symbol}
use Rattle.su_lex.specs.declared.meaning.Symbol.TheVariants.{Sign}
use Rattle.su_lex.specs.declared.signs.Sign.TheVariants as sign
use Rattle.su_tableau.specs.declared.symbols.Sym.{Sym}
use Rattle.su_check.specs.Grammar.{row_line}
use Rattle.su_check.specs.inside.LineReaders.{IsRow}
use Rattle.su_check.proofs.Runs.{Left}
use Rattle.su_check.proofs.lines.rows.Given as goal

abbrev pub invariant-loop-rows : goal.invariant-loop-rows
invariant-loop-rows l = record {
  whole : l.fn.reader ≡ flat_map row_line l.rows ++ l.reader;
  are : All (IsRow l.width) l.rows;
  left : (all : List (List Sym)) (r : List Symbol) → All (IsRow l.width) all → ¬ (Begins (Sign sign.Open) r) → l.fn.reader ≡ flat_map row_line all ++ r → Left row_line (IsRow l.width) all l.rows l.reader r;
}

abbrev pub decreases-loop-rows : goal.decreases-loop-rows
decreases-loop-rows l = length l.reader
