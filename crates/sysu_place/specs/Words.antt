-- What the words of the command line ask for.
-- forms: those that a text is held against
use Rattle.std.specs.Prelude.{ℕ, List, [], ◌∷◌, Option, Some, None, cond, option_map, codes, bytes_eq}
use Rattle.sysu_place.specs.declared.words.Forms.{Forms}
use Rattle.sysu_place.specs.declared.words.Forms.TheVariants.{Definitions, Either, Statements}

-- the forms, and the name of the text's file
pub record Named : Type 0 where
  pub forms : Forms
  pub path : List ℕ

-- the forms by their word
abbrev pub forms_named : List ℕ → Option Forms
forms_named word =
    cond (bytes_eq word (codes "schema")) (Some Definitions) (cond (bytes_eq word (codes "script")) (Some Either) (cond (bytes_eq word (codes "statement")) (Some Statements) None))

-- what the words ask for, where they are such a word and a path
abbrev pub named : List (List ℕ) → Option Named
named (word ∷ path ∷ []) = option_map (λ forms. record { forms = forms; path = path }) (forms_named word)
named words = None

-- what is written for words of any other form
abbrev pub usage_line : List ℕ
usage_line = codes "usage: sysu_place schema|script|statement FILE\n"
