use Rattle.std.proofs.Common.{take}
use Rattle.su_reduce.specs.Codes.{Extends}
use Rattle.su_exec.specs.inside.Shown.{AreSymbolTerms}
use Rattle.su_exec.proofs.executing.terms_of.Given as goal

abbrev pub invariant-loop-symbol : goal.invariant-loop-symbol
invariant-loop-symbol l = record {
  codes : Extends l.fn.codes l.codes;
  terms : AreSymbolTerms l.codes (take l.symbol-index l.symbols) l.terms.items;
}
