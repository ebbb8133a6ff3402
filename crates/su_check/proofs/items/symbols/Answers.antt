-- What was read are the symbols so far, each named as it should be, and where none comes next the run ends; so no other list could be read.
use Rattle.std.proofs.lemmas.Option.{MatchOption-at_none}
use Rattle.su_check.specs.NodeSymbols.{sym_symbol}
use Rattle.su_check.specs.Ranges.{IsNamed}
use Rattle.su_check.proofs.Runs.{map_ended}
use Rattle.su_check.proofs.Spelled.{one_symbol}
use Rattle.su_check.proofs.items.symbols.Goals as goal

pub returns-clause-only : goal.returns-clause-only
returns-clause-only c = λ xs r are ends e.
    map_ended sym_symbol IsNamed one_symbol c.loop-symbols.symbols xs _ c.loop-symbols.reader _ r c.loop-symbols.invariant.whole (MatchOption-at_none _ _ c.in_default.is c.in_ok-symbol.ensures.found) c.loop-symbols.invariant.are
    (c.in_ok-symbol.ensures.none c.in_default.is) are ends e
