-- Whatever parts lead on from the rest lead there from the front too, since a quoted text, a comment and a plain byte each are one part; none are needed at the end.
use Rattle.std.proofs.Common.{refl, sym, arith}
use Rattle.su_lex.specs.Pieces as p
use Rattle.su_lex.proofs.Gaps.{behind_within}
use Rattle.su_lex.proofs.Cuts.{quote_step, byte_step, byte_plain}
use Rattle.su_lex.proofs.cutter.after_piece.Goals as goal

pub returns-then-b-eq59-clause-behind : goal.returns-then-b-eq59-clause-behind
returns-then-b-eq59-clause-behind c = c.loop-rest.invariant.before c.loop-rest.rest.now (p.none c.loop-rest.rest.now c.loop-rest.rest.now refl)

pub returns-clause-behind : goal.returns-clause-behind
returns-clause-behind c = c.loop-rest.invariant.before c.loop-rest.rest.now (p.none c.loop-rest.rest.now c.loop-rest.rest.now refl)

pub loop-rest-preserved-then-b-eq39 : goal.loop-rest-preserved-then-b-eq39
loop-rest-preserved-then-b-eq39 c =
    let s = c.loop-rest.rest.now in
    let inside = behind_within s _ c.loop-rest.invariant.within in
    record {
      before = λ r xs. c.loop-rest.invariant.before r (quote_step s c.after_quote-rest.result.now r c.in-len1-up.len_at_least c.if-b-eq39.true c.after_quote-rest.ensures.part xs);
      within = omega (arith, c.after_quote-rest.ensures.within, inside);
    }

pub loop-rest-preserved-then-is_comment : goal.loop-rest-preserved-then-is_comment
loop-rest-preserved-then-is_comment c =
    let s = c.loop-rest.rest.now in
    let t = c.after_comment-rest.result.now in
    record {
      before = λ r xs. c.loop-rest.invariant.before r (p.more s t r (p.comment s t c.after_comment-rest.ensures.behind) xs);
      within = omega (arith, c.after_comment-rest.ensures.within, c.loop-rest.invariant.within);
    }

pub loop-rest-preserved : goal.loop-rest-preserved
loop-rest-preserved c =
    let s = c.loop-rest.rest.now in
    record {
      before = λ r xs. c.loop-rest.invariant.before r (byte_step s r c.in-len1-up.len_at_least (byte_plain _ c.if-b-eq59.false c.if-b-eq39.false) (sym c.if-is_comment.ensures) xs);
      within = behind_within s _ c.loop-rest.invariant.within;
    }
