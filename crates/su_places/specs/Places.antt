-- The line that tells where a text goes wrong.
-- kind: as the rules of the grammar write it; before: how many bytes stand before the text
use Rattle.std.specs.Prelude.{ℕ, ◌+◌, Bool, List, [], ◌++◌, cond, codes, decimal, bytes_eq, flat_map}
use Rattle.std.specs.List.{list_any}
use Rattle.su_lex.specs.declared.signs.Sign.{Sign}
use Rattle.su_lex.specs.TokenForms.{sign_bytes}
use Rattle.su_faults.specs.declared.faults.Fault.{Fault}
use Rattle.su_faults.specs.declared.sorts.Sort.{Sort}
use Rattle.su_faults.specs.declared.sorts.Sort.TheVariants as sort
use Rattle.su_faults.specs.declared.sorts.Word.{Word}
use Rattle.su_faults.specs.Sorts.{spelling}
use Rattle.su_places.specs.declared.kinds.TheConstants.{KINDS}

abbrev pub in_quotes : List ℕ → List ℕ
in_quotes text = codes "\"" ++ text ++ codes "\""

abbrev pub word_text : Word → List ℕ
word_text word = in_quotes (spelling word)

abbrev pub sign_text : Sign → List ℕ
sign_text sign = in_quotes (sign_bytes sign)

abbrev pub kind_text : Sort → List ℕ
kind_text (sort.Word word) = word_text word
kind_text sort.Name = codes "NAME"
kind_text sort.Number = codes "NUMBER"
kind_text sort.Text = codes "TEXT"
kind_text (sort.Sign sign) = sign_text sign
kind_text sort.End = codes "END"

-- the kind is told as one of these is
abbrev pub is_wanted : List Sort → Sort → Bool
is_wanted wanted kind = list_any (λ sort. bytes_eq (kind_text sort) (kind_text kind)) wanted

-- a kind that is wanted, behind a space
abbrev pub wanted_text : List Sort → Sort → List ℕ
wanted_text wanted kind = cond (is_wanted wanted kind) (codes " " ++ kind_text kind) []

-- those of these kinds that are wanted, in this order
abbrev pub kinds_from : List Sort → List Sort → List ℕ
kinds_from wanted kinds = flat_map (λ kind. wanted_text wanted kind) kinds

-- ` at PLACE expected KIND ..`
abbrev pub place_text : ℕ → Fault → List ℕ
place_text before fault = codes " at " ++ decimal (before + fault.place) ++ codes " expected" ++ kinds_from fault.wanted KINDS
