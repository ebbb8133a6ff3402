-- A token that begins as a number is a numeral up to its last letter or digit; so a letter in it, or a value out of range, shows that the text has no first token.
use Rattle.std.proofs.Common.{sym}
use Rattle.std.proofs.lemmas.List.{take_rest}
use Rattle.su_lex.proofs.Numerals.{number_no_digits, number_no_value, number_numeral, number_found}
use Rattle.su_faults.proofs.numbers.number.Goals as goal

pub returns-then-not-all_digits : goal.returns-then-not-all_digits
returns-then-not-all_digits c =
    let n = rw take_rest at c.word_bytes-n.ensures.count in
    let h = rw (take_rest, n) at c.if-not-all_digits.ensures in
    number_no_digits _ c.requires (sym h)

pub numeral_value-requires : goal.numeral_value-requires
numeral_value-requires c =
    let n = rw take_rest at c.word_bytes-n.ensures.count in
    let h = rw (take_rest, n) at c.if-not-all_digits.ensures in
    rw n (number_numeral c.args.text.now c.requires (sym h))

pub returns-in-Some : goal.returns-in-Some
returns-in-Some c =
    let n = rw take_rest at c.word_bytes-n.ensures.count in
    let h = rw (take_rest, n) at c.if-not-all_digits.ensures in
    let e = rw n at c.in-Some.ensures.0 in
    rw n (_, number_found _ _ c.requires (number_numeral c.args.text.now c.requires (sym h)) e c.in-Some.ensures.1)

pub returns-in-None : goal.returns-in-None
returns-in-None c =
    let n = rw take_rest at c.word_bytes-n.ensures.count in
    let h = rw n at c.in-None.ensures in
    number_no_value _ c.requires h
