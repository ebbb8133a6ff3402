-- No symbol goes on into what is written behind it, so each is read as it was written.
use Rattle.su_lex.proofs.Written.{spaced_is_read}
use Rattle.su_lex.proofs.laws.spaced_symbols_are_read_again.Goals as goal

pub returns : goal.returns
returns c = spaced_is_read
