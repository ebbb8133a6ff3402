-- A word consists of ASCII bytes, so it is UTF-8 and the refusal can't come.
use Rattle.su_lex.proofs.Numerals.{word_utf8}
use Rattle.su_lex.proofs.meaning.symbol_at.Goals as goal

pub unreachable-requires : goal.unreachable-requires
unreachable-requires c = c.in-Err.ensures.cases.0 (word_utf8 _ (c.requires c.in-Word.is))
