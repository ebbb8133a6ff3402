-- Pieces of a list.
use Rattle.std.proofs.Common.{◌≡◌, ℕ, zero, suc, ◌+◌, ◌*◌, ◌<◌, ◌≤◌, List, [], ◌∷◌, ◌++◌, length, get_or, take, drop, refl, sym, ap, ◌∙◌, arith, length-drop, mul-le-mul_right}
use Rattle.std.proofs.lemmas.Grind.{common_steps}
use Rattle.std.proofs.lemmas.List.{take-append-le, drop-append-le, drop-drop, take_all, length-take-le, get_or_default, nil_from_length}
use Rattle.su_reduce.specs.Sheets.{cut}

pub length-cut : (w n : ℕ) (cells : List ℕ) → length (cut w n cells) ≡ n
length-cut w zero cells = refl
length-cut w (suc n) cells = let i = length-cut w n (drop w cells) in omega arith

pub cut_at : (w n : ℕ) (cells : List ℕ) (i : ℕ) → i < n → get_or (cut w n cells) i [] ≡ take w (drop (i * w) cells)
cut_at w zero cells i h = absurd (omega arith)
cut_at w (suc n) cells zero h = grind (arith, common_steps)
cut_at w (suc n) cells (suc i) h = cut_at w n (drop w cells) i (omega arith) ∙ ap (take w) (drop-drop (i * w) w cells ∙ ap (λ k. drop k cells) (grind arith))

-- one row more
pub cut_more : (w n : ℕ) (cells row : List ℕ) → length cells ≡ n * w → length row ≡ w → cut w (n + 1) (cells ++ row) ≡ cut w n cells ++ row ∷ []
cut_more w zero cells row h l =
    let none : length cells ≡ 0 = grind (arith, h) in
    let empty : cells ≡ [] = nil_from_length cells none in
    let e : take w (cells ++ row) ≡ row = ap (λ cs. take w (cs ++ row)) empty ∙ take_all w row (omega arith) in
    ap (λ r. r ∷ []) e
cut_more w (suc n) cells row h l =
    let more : length cells ≡ n * w + w = grind (arith, h) in
    let low : w ≤ length cells = grind (arith, more) in
    let rest : length (drop w cells) ≡ n * w = let e = length-drop w cells in omega arith in
    let i = cut_more w n (drop w cells) row rest l in
    let a = take-append-le w cells row low in
    let b = drop-append-le w cells row low in
    let m : suc n + 1 ≡ suc (n + 1) = omega arith in
    ap (λ m. cut w m (cells ++ row)) m ∙ ap (λ r. r ∷ cut w (n + 1) (drop w (cells ++ row))) a ∙ ap (λ cs. take w cells ∷ cut w (n + 1) cs) b ∙ ap (λ rs. take w cells ∷ rs) i

-- where a row lies
pub row_fits : (w n i : ℕ) (cells xs : List ℕ) → xs ≡ cells → length cells ≡ n * w → i < length (cut w n cells) → i * w + w ≤ length xs
row_fits w n i cells xs same h l =
    let k = length-cut w n cells in
    let e : (i + 1) * w ≤ n * w = mul-le-mul_right w (omega arith) in
    let f : (i + 1) * w ≡ i * w + w = grind arith in
    let g : length xs ≡ length cells = ap length same in
    omega arith

pub row_is : (w n i : ℕ) (cells xs : List ℕ) → xs ≡ cells → i < length (cut w n cells) → take w (drop (i * w) xs) ≡ get_or (cut w n cells) i []
row_is w n i cells xs same l =
    let k = length-cut w n cells in
    ap (λ xs. take w (drop (i * w) xs)) same ∙ sym (cut_at w n cells i (omega arith))

pub row_wide : (w n i : ℕ) (cells xs : List ℕ) → xs ≡ cells → length cells ≡ n * w → i < length (cut w n cells) → length (take w (drop (i * w) xs)) ≡ w
row_wide w n i cells xs same h l =
    let a = row_fits w n i cells xs same h l in
    let b = length-drop (i * w) xs in
    length-take-le w (drop (i * w) xs) (omega arith)

pub cut_widths : (w n : ℕ) (cells : List ℕ) → length cells ≡ n * w → (k : ℕ) (d : List ℕ) → k < length (cut w n cells) → length (get_or (cut w n cells) k d) ≡ w
cut_widths w n cells h k d l =
    let e : get_or (cut w n cells) k d ≡ get_or (cut w n cells) k [] = get_or_default (cut w n cells) k d [] l in
    ap length (e ∙ sym (row_is w n k cells cells refl l)) ∙ row_wide w n k cells cells refl h l
