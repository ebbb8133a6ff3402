-- A kind is spelled by one of two words, so where neither of them comes next no kind does, and the symbols stop there.
use Rattle.std.proofs.Common.{◌∙◌}
use Rattle.su_base.specs.declared.values.Kind.TheVariants.{Int, Text}
use Rattle.su_check.proofs.items.takes_kind.Goals as goal

pub returns-clause-none : goal.returns-clause-none
returns-clause-none c = λ none.
    let first = c.takes_word.ensures.no c.if-takes_word.false in
    let second = c.takes_word-2.ensures.no c.if-takes_word-2.false in
    elim [
      | Int ↦ λ is begins. first.1 begins
      | Text ↦ λ is begins. second.1 (begins.0, first.0 ∙ begins.1)
    ]
