-- What symbols begin with, where a form is told by it.
-- symbol: a word, a whole number, a text or a sign, as su_lex reads them; w: a word's bytes; x: a symbol of any kind; s: the symbols behind
-- No public contract cites this module.
use Rattle.std.specs.Prelude.{Bool, true, false, List, ◌∷◌}
use Rattle.su_lex.specs.declared.signs.Sign.TheVariants as sign
use Rattle.su_lex.specs.declared.meaning.Symbol.{Symbol}
use Rattle.su_lex.specs.declared.meaning.Symbol.TheVariants.{Word, Sign}

-- the first symbol is a word
abbrev pub begins_word : List Symbol → Bool
begins_word (Word w ∷ s) = true
begins_word _ = false

-- the second symbol opens a parenthesis
abbrev pub opens_second : List Symbol → Bool
opens_second (x ∷ Sign sign.Open ∷ s) = true
opens_second _ = false
