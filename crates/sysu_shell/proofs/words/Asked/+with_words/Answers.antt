-- The words behind the first ones ask for what all of them do.
use Rattle.std.proofs.Common.{rules, ◌≡◌, IfOk, Option, false, true, length, take, drop, ◌-◌, refl, sym, ◌∙◌, subst}
use Rattle.sysu_shell.specs.declared.words.Asked.{Asked}
use Rattle.sysu_shell.specs.Words.{takes_value}
use Rattle.sysu_shell.proofs.WordByWord.{after_word, after_value}
use Rattle.sysu_shell.proofs.words.Asked.+with_words.Goals as goal

pub returns-in-Some : goal.returns-in-Some
returns-in-Some t c =
    let lone : takes_value c.word-item.result ≡ false = search rules in
    let same = after_word c.args.self c.in-Some.next c.args.words.now c.word-item.result c.in-len1-up.len_at_least c.word-item.is lone (sym c.in_ok-next.ensures ∙ c.in-Some.is) in
    subst (λ (o : Option Asked). IfOk c.with_words.result (λ asked. asked ≡ o)) (sym same) c.with_words.ensures

pub returns-in-Some-2 : goal.returns-in-Some-2
returns-in-Some-2 t c =
    let takes : takes_value c.word-item.result ≡ true = search rules in
    let words = c.args.words.now in
    let same = after_value c.args.self c.in-Some-2.next words (take (length words - 1) (drop 1 words)) c.word-item.result c.value-item.result c.in-len1-up.len_at_least c.word-item.is refl
    c.in-len1-up-rest.len_at_least c.value-item.is takes (sym c.in_ok-next-2.ensures ∙ c.in-Some-2.is) in
    subst (λ (o : Option Asked). IfOk c.with_words-in-Some-2.result (λ asked. asked ≡ o)) (sym same) c.with_words-in-Some-2.ensures
