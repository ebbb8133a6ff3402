use Rattle.std.proofs.Common.{◌≡◌, ◌++◌, length, List}
use Rattle.su_lex.specs.declared.meaning.Symbol.{Symbol}
use Rattle.su_query.specs.declared.refs.Ref.{Ref}
use Rattle.su_query.specs.inside.ReadItems.{More, Several, ReadsRef}
use Rattle.su_query.proofs.lists.references.Given as goal

abbrev pub invariant-loop-references : goal.invariant-loop-references
invariant-loop-references l = record {
  before : (more : List Ref) (r : List Symbol) → More ReadsRef more l.reader r → Several ReadsRef (l.references ++ more) l.fn.reader r;
  only : (all : List Ref) (r : List Symbol) → Several ReadsRef all l.fn.reader r → (more : List Ref) × (all ≡ l.references ++ more) × More ReadsRef more l.reader r;
}

abbrev pub decreases-loop-references : goal.decreases-loop-references
decreases-loop-references l = length l.reader
