-- A word that is none of the reserved ones is a name.
use Rattle.std.proofs.Common.{ap, sym, refl}
use Rattle.su_lex.specs.declared.meaning.Symbol.TheVariants.{Word}
use Rattle.su_faults.specs.inside.Firsts.{all_words}
use Rattle.su_faults.proofs.Spelled.{word_some, word_none}
use Rattle.su_faults.proofs.words.sort_of.Goals as goal

pub returns-in-Some : goal.returns-in-Some
returns-in-Some c = ap Word (word_some all_words c.args.word.now c.in-Some.word (sym c.in-Some.ensures))

pub returns-in-None : goal.returns-in-None
returns-in-None c = (c.args.word.now, refl, (c.requires, word_none all_words c.args.word.now (sym c.in-None.ensures)))
