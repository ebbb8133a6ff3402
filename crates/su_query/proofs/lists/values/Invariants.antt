use Rattle.std.proofs.Common.{◌≡◌, ◌++◌, length, List}
use Rattle.su_base.specs.declared.values.Value.{Value}
use Rattle.su_lex.specs.declared.meaning.Symbol.{Symbol}
use Rattle.su_query.specs.inside.ReadItems.{More, Several, ReadsValue}
use Rattle.su_query.proofs.lists.values.Given as goal

abbrev pub invariant-loop-values : goal.invariant-loop-values
invariant-loop-values l = record {
  before : (more : List Value) (r : List Symbol) → More ReadsValue more l.reader r → Several ReadsValue (l.values ++ more) l.fn.reader r;
  only : (all : List Value) (r : List Symbol) → Several ReadsValue all l.fn.reader r → (more : List Value) × (all ≡ l.values ++ more) × More ReadsValue more l.reader r;
}

abbrev pub decreases-loop-values : goal.decreases-loop-values
decreases-loop-values l = length l.reader
