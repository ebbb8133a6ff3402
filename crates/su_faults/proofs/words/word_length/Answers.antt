-- A word reaches as far as letters and digits do, so one of more than 64 bytes is no token and leaves the text without a first one.
use Rattle.std.proofs.Common.{arith, ◌<◌, ◌≤◌}
use Rattle.std.specs.List.{prefix_len}
use Rattle.su_base.specs.Name.{is_letter_or_digit}
use Rattle.su_lex.proofs.Fronts.{word_found, word_none}
use Rattle.su_faults.proofs.words.word_length.Goals as goal

pub returns-then-n-gt64 : goal.returns-then-n-gt64
returns-then-n-gt64 c =
    let long : 64 < prefix_len is_letter_or_digit c.args.text.now = omega arith in
    word_none _ c.requires long

pub returns-else-n-gt64 : goal.returns-else-n-gt64
returns-else-n-gt64 c =
    let short : prefix_len is_letter_or_digit c.args.text.now ≤ 64 = omega arith in
    rw c.word_bytes-n.ensures.count (word_found _ c.requires short)
