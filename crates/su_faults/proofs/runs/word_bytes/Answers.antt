-- Where no other byte is found every byte is a letter, a digit or `_`.
use Rattle.std.proofs.Common.{sym}
use Rattle.su_base.specs.Name.{is_letter_or_digit}
use Rattle.su_lex.proofs.Runs.{none_other}
use Rattle.su_faults.proofs.runs.word_bytes.Goals as goal

pub returns-in-None-clause-count : goal.returns-in-None-clause-count
returns-in-None-clause-count c = none_other is_letter_or_digit _ (sym c.in-None.ensures)
