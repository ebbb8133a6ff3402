-- One more part stands behind the word, unless it is the first, and in parentheses where it is many itself.
use Rattle.su_lex.specs.declared.meaning.Symbol.TheVariants.{Word}
use Rattle.su_query.proofs.Joined.{joined_more}
use Rattle.su_query.proofs.showing.+show.Goals as goal

pub push_parts-loop-i-preserved : goal.push_parts-loop-i-preserved
push_parts-loop-i-preserved t c =
    joined_more (Word c.args.word.now) c.args.parts.now c.loop-i.i c.index-parts-i.result c.args.out.now c.loop-i.out c.push_word_if.new.out c.push_sign_if.new.out c.push_cond.new.out
    c.push_sign_if-in-loop-i.new.out c.loop-i-test.true c.index-parts-i.is c.loop-i.invariant c.in_ok-push_word_if.ensures (rw c.is_many-wrapped.ensures at c.in_ok-push_sign_if.ensures)
    c.in_ok-push_cond.ensures (rw c.is_many-wrapped.ensures at c.in_ok-push_sign_if-2.ensures)
