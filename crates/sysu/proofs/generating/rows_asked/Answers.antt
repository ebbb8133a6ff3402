-- Words of which the first is `generate` and the second a row count.
use Rattle.std.proofs.Common.{◌∙◌, sym}
use Rattle.std.specs.Cmp.Lexicographic.{same_text}
use Rattle.sysu.proofs.BankWords.{asked_by}
use Rattle.sysu.proofs.generating.rows_asked.Goals as goal

pub returns-in-len2 : goal.returns-in-len2
returns-in-len2 c =
    asked_by c.args.words.now c.word-item.result c.digits-item.result c.in-len2.len_at_least c.in-len2.len_below c.word-item.is c.digits-item.is
    (sym c.as_str.ensures ∙ same_text _ _ c.if-eq.ensures) c.row_count.result (rw (← c.as_str-in-len2.ensures) c.row_count.ensures)
