-- A token that begins as a number is a numeral up to its last letter or digit; so a letter in it, or a value out of range, shows that the text has no first token.
use Rattle.std.proofs.Common.{sym}
use Rattle.std.proofs.lemmas.List.{take_rest}
use Rattle.std.proofs.lemmas.Int.{to_z-of_z}
use Rattle.std.specs.Int.{w64}
use Rattle.su_lex.proofs.Numerals.{number_no_digits, number_no_value, number_numeral, number_found}
use Rattle.su_lex.proofs.numbers.number.Goals as goal

pub returns-then-not-all_digits-clause-none : goal.returns-then-not-all_digits-clause-none
returns-then-not-all_digits-clause-none c =
    let n = rw take_rest at c.word_bytes-n.ensures.count in
    let h = rw (take_rest, n) at c.if-not-all_digits.ensures in
    λ _. number_no_digits _ c.requires (sym h)

pub numeral_value-requires : goal.numeral_value-requires
numeral_value-requires c =
    let n = rw take_rest at c.word_bytes-n.ensures.count in
    let h = rw (take_rest, n) at c.if-not-all_digits.ensures in
    rw n (number_numeral c.args.text.now c.requires (sym h))

pub returns-in-Some-clause-found : goal.returns-in-Some-clause-found
returns-in-Some-clause-found c =
    let n = rw take_rest at c.word_bytes-n.ensures.count in
    let h = rw (take_rest, n) at c.if-not-all_digits.ensures in
    let e = rw n at c.in-Some.ensures.0 in
    rw (to_z-of_z w64 c.in-Some.v c.in-Some.ensures.1, n) (number_found _ c.in-Some.v c.requires (number_numeral c.args.text.now c.requires (sym h)) e c.in-Some.ensures.1)

pub returns-in-None-clause-none : goal.returns-in-None-clause-none
returns-in-None-clause-none c =
    let n = rw take_rest at c.word_bytes-n.ensures.count in
    let h = rw n at c.in-None.ensures in
    λ _. number_no_value _ c.requires h
