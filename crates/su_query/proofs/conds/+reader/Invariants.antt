use Rattle.std.proofs.Common.{◌≡◌, ◌<◌, ◌+◌, ◌*◌, ◌++◌, length, List}
use Rattle.su_query.specs.inside.ReadConditions.{ReadsOrs, ReadsAnds}
use Rattle.su_query.specs.Refs.{NamedCond}
use Rattle.su_lex.specs.declared.meaning.Symbol.{Symbol}
use Rattle.su_query.proofs.Steps.{ReadsConjs, ReadsFactors}
use Rattle.su_query.proofs.conds.+reader.Given as goal

abbrev pub decreases-cond : goal.decreases-cond
decreases-cond l = 4 * length l.reader.now + 3

abbrev pub decreases-conj : goal.decreases-conj
decreases-conj l = 4 * length l.reader.now + 2

abbrev pub decreases-factor : goal.decreases-factor
decreases-factor l = 4 * length l.reader.now + 1

abbrev pub decreases-primary : goal.decreases-primary
decreases-primary l = 4 * length l.reader.now

abbrev pub invariant-cond-loop-parts : goal.invariant-cond-loop-parts
invariant-cond-loop-parts l = record {
  shorter : length l.reader < length l.fn.reader;
  before : (more : List NamedCond) (r : List Symbol) → ReadsOrs more l.reader r → ReadsConjs (l.parts ++ more) l.fn.reader r;
  only : (all : List NamedCond) (r : List Symbol) → ReadsConjs all l.fn.reader r → (more : List NamedCond) × (all ≡ l.parts ++ more) × ReadsOrs more l.reader r;
}

abbrev pub decreases-cond-loop-parts : goal.decreases-cond-loop-parts
decreases-cond-loop-parts l = length l.reader

abbrev pub invariant-conj-loop-parts : goal.invariant-conj-loop-parts
invariant-conj-loop-parts l = record {
  shorter : length l.reader < length l.fn.reader;
  before : (more : List NamedCond) (r : List Symbol) → ReadsAnds more l.reader r → ReadsFactors (l.parts ++ more) l.fn.reader r;
  only : (all : List NamedCond) (r : List Symbol) → ReadsFactors all l.fn.reader r → (more : List NamedCond) × (all ≡ l.parts ++ more) × ReadsAnds more l.reader r;
}

abbrev pub decreases-conj-loop-parts : goal.decreases-conj-loop-parts
decreases-conj-loop-parts l = length l.reader
