-- Whatever gap begins at the rest extends to one from the text's front, since a space and a comment each lengthen it; the empty gap at the end gives the whole.
use Rattle.std.proofs.Common.{arith, refl, sym}
use Rattle.su_lex.specs.Blanks as b
use Rattle.su_lex.proofs.Gaps.{space_step, behind_within}
use Rattle.su_faults.proofs.blanks.after_blanks.Goals as goal

pub loop-rest-preserved-then-space : goal.loop-rest-preserved-then-space
loop-rest-preserved-then-space c = record {
  before = λ r g. c.loop-rest.invariant.before r (space_step c.loop-rest.rest.now r c.in-len1-up.len_at_least (sym c.if-space.ensures) g);
  within = behind_within c.loop-rest.rest.now _ c.loop-rest.invariant.within;
}

pub loop-rest-preserved : goal.loop-rest-preserved
loop-rest-preserved c = record {
  before = λ r g. c.loop-rest.invariant.before r (b.comment c.loop-rest.rest.now c.after_comment-rest.result.now r c.after_comment-rest.ensures.behind g);
  within = omega (arith, c.after_comment-rest.ensures.within, c.loop-rest.invariant.within);
}

pub returns-else-is_comment-clause-behind : goal.returns-else-is_comment-clause-behind
returns-else-is_comment-clause-behind c = c.loop-rest.invariant.before c.loop-rest.rest.now (b.none c.loop-rest.rest.now c.loop-rest.rest.now refl)

pub returns-clause-behind : goal.returns-clause-behind
returns-clause-behind c = c.loop-rest.invariant.before c.loop-rest.rest.now (b.none c.loop-rest.rest.now c.loop-rest.rest.now refl)
