-- Texts that are not of bytes are coded as texts of bytes, and read back.
-- such a text is coded in unary behind n zeros: so no value of a span below n is coded as another
use Rattle.std.proofs.Common.{◌≡◌, ℕ, zero, suc, ◌+◌, ◌<◌, ◌≤◌, Bool, true, false, cond, ltb, List, [], ◌∷◌, ◌++◌, map, length, get_or, drop, replicate, All, refl, ap, ◌∙◌, arith, length-append, drop_at}
use Rattle.std.specs.List.{list_all}
use Rattle.std.proofs.lemmas.Bool.{cond-true, cond-false, lt-ltb, le-ltb, ltb-true}
use Rattle.std.proofs.lemmas.List.{length-replicate}
use Rattle.std.proofs.lemmas.List.Elements.{All-map, All-cons, All-nil, All-append, All-replicate}
use Rattle.std.proofs.lemmas.List.Sums.{AllPass-from_list_all, list_all-from_AllPass}
use Rattle.su_base.specs.declared.values.Value.{Value}
use Rattle.su_base.specs.declared.values.Value.TheVariants.{Int, Text}
use Rattle.su_base.specs.Value.{kind_of}
use Rattle.su_base.proofs.Items.{map-map_equal}
use Rattle.su_tableau.specs.FrozenTableaux.{size}
use Rattle.su_tableau.specs.Kinds.{Kinds, IsUniverse}
use Rattle.su_tableau.specs.Bytes.{IsOfBytes, IsByteUniverse}

-- ---- numbers in unary

-- each number as so many ones and a zero
abbrev pub unary : List ℕ → List ℕ
unary [] = []
unary (x ∷ xs) = replicate x 1 ++ 0 ∷ unary xs

-- the numbers, where k ones have been read of the first
abbrev pub read_unary : ℕ → List ℕ → List ℕ
read_unary k [] = []
read_unary k (zero ∷ bytes) = k ∷ read_unary 0 bytes
read_unary k (suc b ∷ bytes) = read_unary (suc k) bytes

read_ones : (x k : ℕ) (bytes : List ℕ) → read_unary k (replicate x 1 ++ 0 ∷ bytes) ≡ (k + x) ∷ read_unary 0 bytes
read_ones zero k bytes = ap (λ n. n ∷ read_unary 0 bytes) (let same : k ≡ k + 0 = omega arith in same)
read_ones (suc x) k bytes = read_ones x (suc k) bytes ∙ ap (λ n. n ∷ read_unary 0 bytes) (let same : suc k + x ≡ k + suc x = omega arith in same)

read_back : (xs : List ℕ) → read_unary 0 (unary xs) ≡ xs
read_back [] = refl
read_back (x ∷ xs) =
    let i = read_back xs in
    let same : 0 + x ≡ x = omega arith in
    read_ones x 0 (unary xs) ∙ ap (λ n. n ∷ read_unary 0 (unary xs)) same ∙ ap (λ ys. x ∷ ys) i

unary_bytes : (xs : List ℕ) → All (λ b. b < 256) (unary xs)
unary_bytes [] = All-nil (λ b. b < 256)
unary_bytes (x ∷ xs) =
    let ones = All-replicate (λ b. b < 256) x 1 (omega arith) in
    All-append (λ b. b < 256) (replicate x 1) (0 ∷ unary xs) ones (All-cons (λ b. b < 256) 0 (unary xs) (omega arith) (unary_bytes xs))

-- ---- one value

-- whether all numbers are below 256
abbrev pub are_bytes : List ℕ → Bool
are_bytes text = list_all (λ b. ltb b 256) text

-- a text that is not of bytes, in unary behind n zeros
abbrev pub text_code : ℕ → List ℕ → List ℕ
text_code n text = replicate n 0 ++ unary text

-- a value of bytes for each value
abbrev pub coded : ℕ → Value → Value
coded n (Int k) = Int k
coded n (Text text) = cond (are_bytes text) (Text text) (Text (text_code n text))

-- the value that was coded
abbrev pub decoded : ℕ → Value → Value
decoded n (Int k) = Int k
decoded n (Text text) = cond (ltb (length text) n) (Text text) (Text (read_unary 0 (drop n text)))

-- how far a value reaches: a text's length
abbrev pub span : Value → ℕ
span value = size value

text_kind : (b : Bool) (s t : List ℕ) → kind_of (cond b (Text s) (Text t)) ≡ kind_of (Text s)
text_kind true s t = refl
text_kind false s t = refl

pub coded-kind : (n : ℕ) (v : Value) → kind_of (coded n v) ≡ kind_of v
coded-kind n (Int k) = refl
coded-kind n (Text text) = text_kind (are_bytes text) text (text_code n text)

are_bytes-all : (text : List ℕ) → are_bytes text ≡ true → All (λ b. b < 256) text
are_bytes-all text e k d h = ltb-true (get_or text k d) 256 (AllPass-from_list_all (λ b. ltb b 256) text e k d h)

all-are_bytes : (text : List ℕ) → All (λ b. b < 256) text → are_bytes text ≡ true
all-are_bytes text all = list_all-from_AllPass (λ b. ltb b 256) text (λ k d h. lt-ltb (get_or text k d) 256 (all k d h))

text_code_bytes : (n : ℕ) (text : List ℕ) → All (λ b. b < 256) (text_code n text)
text_code_bytes n text = All-append (λ b. b < 256) (replicate n 0) (unary text) (All-replicate (λ b. b < 256) n 0 (omega arith)) (unary_bytes text)

pub coded-bytes : (n : ℕ) (v : Value) → IsOfBytes (coded n v)
coded-bytes n (Int k) = tt
coded-bytes n (Text text) =
    elim (are_bytes text) as (λ b. are_bytes text ≡ b → IsOfBytes (cond b (Text text) (Text (text_code n text)))) [
      | true ↦ λ e. are_bytes-all text e
      | false ↦ λ e. text_code_bytes n text
    ] refl

pub coded-same : (n : ℕ) (v : Value) → IsOfBytes v → coded n v ≡ v
coded-same n (Int k) h = refl
coded-same n (Text text) h = cond-true (are_bytes text) (Text text) (Text (text_code n text)) (all-are_bytes text h)

pub decoded-same : (n : ℕ) (v : Value) → span v < n → decoded n v ≡ v
decoded-same n (Int k) h = refl
decoded-same n (Text text) h = cond-true (ltb (length text) n) (Text text) (Text (read_unary 0 (drop n text))) (lt-ltb (length text) n h)

decoded-code : (n : ℕ) (text : List ℕ) → decoded n (Text (text_code n text)) ≡ Text text
decoded-code n text =
    let code = text_code n text in
    let long : n ≤ length code = omega (arith, length-append (replicate n 0) (unary text), length-replicate {A = ℕ} n 0) in
    let rest : drop n code ≡ unary text = drop_at (replicate n 0) (unary text) n (length-replicate {A = ℕ} n 0) in
    cond-false (ltb (length code) n) (Text code) (Text (read_unary 0 (drop n code))) (le-ltb (length code) n long) ∙ ap (λ t. Text (read_unary 0 t)) rest ∙ ap Text (read_back text)

pub decoded-coded : (n : ℕ) (v : Value) → span v < n → decoded n (coded n v) ≡ v
decoded-coded n (Int k) h = refl
decoded-coded n (Text text) h =
    elim (are_bytes text) as (λ b. decoded n (cond b (Text text) (Text (text_code n text))) ≡ Text text) [
      | true ↦ decoded-same n (Text text) h
      | false ↦ decoded-code n text
    ]

-- ---- lists of values

-- above the span of each value
abbrev pub spans : List Value → ℕ
spans [] = 0
spans (v ∷ vs) = suc (span v) + spans vs

-- above the span of each value of each row
abbrev pub row_spans : List (List Value) → ℕ
row_spans [] = 0
row_spans (row ∷ rows) = spans row + row_spans rows

pub spans-above : (vs : List Value) → All (λ v. span v < spans vs) vs
spans-above [] k d h = absurd (omega arith)
spans-above (v ∷ vs) zero d h = omega arith
spans-above (v ∷ vs) (suc k) d h = let i = spans-above vs k d (omega arith) in omega arith

pub row_spans-le : (rows : List (List Value)) → All (λ row. spans row ≤ row_spans rows) rows
row_spans-le [] k d h = absurd (omega arith)
row_spans-le (row ∷ rows) zero d h = omega arith
row_spans-le (row ∷ rows) (suc k) d h = let i = row_spans-le rows k d (omega arith) in omega arith

pub row-spans-above : (rows : List (List Value)) → All (All (λ v. span v < row_spans rows)) rows
row-spans-above rows k d h j e l =
    let i = row_spans-le rows k d h in
    let above = spans-above (get_or rows k d) j e l in
    omega arith

pub there_and_back : (n : ℕ) (vs : List Value) → spans vs ≤ n → map (decoded n) (map (coded n) vs) ≡ vs
there_and_back n [] h = refl
there_and_back n (v ∷ vs) h =
    let i = there_and_back n vs (omega arith) in
    let j = decoded-coded n v (omega arith) in
    cc

pub rows_there_and_back : (n : ℕ) (rows : List (List Value)) → row_spans rows ≤ n → map (map (decoded n)) (map (map (coded n)) rows) ≡ rows
rows_there_and_back n [] h = refl
rows_there_and_back n (row ∷ rows) h =
    let i = rows_there_and_back n rows (omega arith) in
    let j = there_and_back n row (omega arith) in
    cc

pub decoded-all : (n : ℕ) (vs : List Value) → spans vs ≤ n → map (decoded n) vs ≡ vs
decoded-all n [] h = refl
decoded-all n (v ∷ vs) h =
    let i = decoded-all n vs (omega arith) in
    let j = decoded-same n v (omega arith) in
    cc

-- ---- a universal relation

pub coded_universe : (kinds : Kinds) (n : ℕ) (universe : List (List Value)) → IsUniverse kinds universe → IsByteUniverse kinds (map (map (coded n)) universe)
coded_universe kinds n universe typed =
    record {
      typed = All-map (λ row. map kind_of row ≡ kinds) (map (coded n)) universe (λ k d h. map-map_equal (coded n) kind_of kind_of (coded-kind n) (get_or universe k d) ∙ typed k d h);
      bytes = All-map (All IsOfBytes) (map (coded n)) universe (λ k d h. All-map IsOfBytes (coded n) (get_or universe k d) (λ j e l. coded-bytes n (get_or (get_or universe k d) j e)));
    }
