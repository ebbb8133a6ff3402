-- What is asked for by the words behind the first ones.
use Rattle.std.proofs.Common.{◌≡◌, ◌≤◌, ◌-◌, ℕ, true, false, List, [], ◌∷◌, Option, Some, None, Bool, length, take, drop, cond, slice_index_or, option_and_then, refl, ap, sym, ◌∙◌, arith}
use Rattle.sysu_shell.specs.declared.words.Asked.{Asked}
use Rattle.sysu_shell.specs.Words.{with_value, with_word, takes_value, asked_by}

take_all : {A : Type 0} (xs : List A) → take (length xs) xs ≡ xs
take_all {A = A} [] = refl
take_all {A = A} (x ∷ xs) = ap (λ (ys : List A). x ∷ ys) (take_all xs)

-- one word that stands alone
alone : (asked next : Asked) (word : List ℕ) (rest : List (List ℕ)) → takes_value word ≡ false → with_word asked word ≡ Some next → asked_by asked (word ∷ rest) ≡ asked_by next rest
alone asked next word [] lone gives = ap (λ (b : Bool). cond b None (with_word asked word)) lone ∙ gives
alone asked next word (v ∷ rest) lone gives =
    ap (λ (b : Bool). cond b (option_and_then (λ n. asked_by n rest) (with_value asked word v)) (option_and_then (λ n. asked_by n (v ∷ rest)) (with_word asked word))) lone
    ∙ ap (λ (o : Option Asked). option_and_then (λ n. asked_by n (v ∷ rest)) o) gives

-- an option with its value
valued : (asked next : Asked) (word value : List ℕ) (rest : List (List ℕ)) → takes_value word ≡ true → with_value asked word value ≡ Some next → asked_by asked (word ∷ value ∷ rest) ≡ asked_by next rest
valued asked next word value rest takes gives =
    ap (λ (b : Bool). cond b (option_and_then (λ n. asked_by n rest) (with_value asked word value)) (option_and_then (λ n. asked_by n (value ∷ rest)) (with_word asked word))) takes
    ∙ ap (λ (o : Option Asked). option_and_then (λ n. asked_by n rest) o) gives

-- behind the first so many words
rest_of : (words rest : List (List ℕ)) (n : ℕ) → n ≡ length rest → rest ≡ words → rest ≡ take n words
rest_of words rest n many same = sym (take_all rest) ∙ ap (λ (k : ℕ). take k rest) (sym many) ∙ ap (λ (ws : List (List ℕ)). take n ws) same

-- behind a word that stands alone
pub after_word : (asked next : Asked) (words : List (List ℕ)) (word : List ℕ) → 1 ≤ length words → word ≡ slice_index_or words 0 word → takes_value word ≡ false
    → with_word asked word ≡ Some next → asked_by asked words ≡ asked_by next (take (length words - 1) (drop 1 words))
after_word asked next [] word some is lone gives = absurd (omega (arith, some))
after_word asked next (w ∷ rest) word some is lone gives =
    let first : word ≡ w = is in
    ap (λ (v : List ℕ). asked_by asked (v ∷ rest)) (sym first) ∙ alone asked next word rest lone gives ∙ ap (λ (ws : List (List ℕ)). asked_by next ws) (rest_of rest rest (length (w ∷ rest) - 1) (omega arith) refl)

-- an option and the words behind it
option_first : (asked next : Asked) (words : List (List ℕ)) (word value : List ℕ) → 1 ≤ length words → value ≡ slice_index_or words 0 value → takes_value word ≡ true
    → with_value asked word value ≡ Some next → asked_by asked (word ∷ words) ≡ asked_by next (take (length words - 1) (drop 1 words))
option_first asked next [] word value some at takes gives = absurd (omega (arith, some))
option_first asked next (v ∷ rest) word value some at takes gives =
    let first : value ≡ v = at in
    ap (λ (u : List ℕ). asked_by asked (word ∷ u ∷ rest)) (sym first) ∙ valued asked next word value rest takes gives
    ∙ ap (λ (ws : List (List ℕ)). asked_by next ws) (rest_of rest rest (length (v ∷ rest) - 1) (omega arith) refl)

-- behind an option and its value
pub after_value : (asked next : Asked) (words rest : List (List ℕ)) (word value : List ℕ) → 1 ≤ length words → word ≡ slice_index_or words 0 word → rest ≡ take (length words - 1) (drop 1 words)
    → 1 ≤ length rest → value ≡ slice_index_or rest 0 value → takes_value word ≡ true → with_value asked word value ≡ Some next → asked_by asked words ≡ asked_by next (take (length rest - 1) (drop 1 rest))
after_value asked next [] rest word value some is behind more at takes gives = absurd (omega (arith, some))
after_value asked next (w ∷ others) rest word value some is behind more at takes gives =
    let first : word ≡ w = is in
    let same : others ≡ rest = rest_of others others (length (w ∷ others) - 1) (omega arith) refl ∙ sym behind in
    ap (λ (u : List ℕ). asked_by asked (u ∷ others)) (sym first) ∙ ap (λ (ws : List (List ℕ)). asked_by asked (word ∷ ws)) same ∙ option_first asked next rest word value more at takes gives
