-- Sets of numbers as the bits of a number, and how many elements they select.
use Rattle.std.proofs.Common.{◌≡◌, ◌≢◌, ℕ, zero, suc, ◌+◌, ◌/◌, ◌%◌, ◌^◌, ◌<◌, ◌≤◌, ◌⊎◌, List, [], ◌∷◌, ◌++◌, map, length, get_or, Contains, refl, sym, ap, ◌∙◌, subst, inl, inr, ⊎_elim, arith, bit_and, bit_or}
use Rattle.std.specs.Int.{bit_at}
use Rattle.std.specs.List.{AllByRecursion, AllZip}
use Rattle.std.proofs.lemmas.Bool.{cases_eq}
use Rattle.std.proofs.lemmas.List.{map-append}
use Rattle.std.proofs.lemmas.Nat.{and_le_r}
use Rattle.std.proofs.lemmas.Nat.Bits.{bit_at-suc, bit_at-zero, bit_at-lt, bit_at_lowest, bit_at_and, bit_at_or, bit_at-pow_same, bit_at-pow_other, same_from_bits}
use Rattle.su_tableau.specs.declared.symbols.Sym.{Sym}
use Rattle.su_tableau.specs.Parts.{keep_if, numbers_of}

-- ---- sets

abbrev pub IsSub : ℕ → ℕ → Type 0
IsSub a b = (i : ℕ) → bit_at a i ≤ bit_at b i

pub sub_le : (a b : ℕ) → IsSub a b → a ≤ b
sub_le a b h =
    let e : bit_and a b ≡ a = same_from_bits (bit_and a b) a (λ i. let j = bit_at_and a b i in let k = h i in omega arith) in
    let l = and_le_r a b in
    omega arith

sub_half : (a b : ℕ) → IsSub a b → IsSub (a / 2) (b / 2)
sub_half a b h i = let ea = bit_at-suc a i in let eb = bit_at-suc b i in let k = h (suc i) in omega arith

-- the set of a list of numbers
abbrev pub mark : List ℕ → ℕ
mark [] = 0
mark (x ∷ xs) = bit_or (mark xs) (2 ^ x)

pub mark-has : (xs : List ℕ) (k : ℕ) (d : ℕ) → k < length xs → bit_at (mark xs) (get_or xs k d) ≡ 1
mark-has [] k d h = absurd (omega arith)
mark-has (x ∷ xs) zero d h =
    let e = bit_at_or (mark xs) (2 ^ x) x in
    let one = bit_at-pow_same x in
    let low = bit_at-lt (mark xs) x in
    omega arith
mark-has (x ∷ xs) (suc k) d h =
    let i = mark-has xs k d (omega arith) in
    let y = get_or xs k d in
    let e = bit_at_or (mark xs) (2 ^ x) y in
    let low = bit_at-lt (2 ^ x) y in
    omega arith

pub mark-sub : (xs : List ℕ) (m : ℕ) → AllByRecursion (λ x. bit_at m x ≡ 1) xs → IsSub (mark xs) m
mark-sub [] m h i = let e = bit_at-zero i in omega arith
mark-sub (x ∷ xs) m h i =
    let r = mark-sub xs m h.1 i in
    let e = bit_at_or (mark xs) (2 ^ x) i in
    ⊎_elim
    (λ (same : i ≡ x). let one : bit_at m i ≡ 1 = rw same h.0 in let low = bit_at-lt (2 ^ x) i in omega arith)
    (λ (other : i ≢ x). let none = bit_at-pow_other x i other in omega arith)
    (cases_eq i x)

-- ---- what a set selects

-- the elements whose places are in the set, from the front on
abbrev picked : {A : Type 0} → ℕ → List A → List A
picked m [] = []
picked m (x ∷ xs) = keep_if (m % 2) x (picked (m / 2) xs)

length-keep_if : {A : Type 0} (n : ℕ) (x : A) (xs : List A) → n < 2 → length (keep_if n x xs) ≡ n + length xs
length-keep_if zero x xs h = omega arith
length-keep_if (suc n) x xs h = omega arith

length-picked : {A : Type 0} (m : ℕ) (x : A) (xs : List A) → length (picked m (x ∷ xs)) ≡ m % 2 + length (picked (m / 2) xs)
length-picked m x xs = length-keep_if (m % 2) x (picked (m / 2) xs) (omega arith)

picked-le : {A : Type 0} (a b : ℕ) (xs : List A) → IsSub a b → length (picked a xs) ≤ length (picked b xs)
picked-le a b [] h = omega arith
picked-le a b (x ∷ xs) h =
    let i = picked-le (a / 2) (b / 2) xs (sub_half a b h) in
    let ea = length-picked a x xs in
    let eb = length-picked b x xs in
    let la = bit_at_lowest a in let lb = bit_at_lowest b in let k = h 0 in
    omega arith

-- one more number in the set is at most one more element
picked-one_more : {A : Type 0} (a b n : ℕ) (xs : List A) → ((i : ℕ) → i ≢ n → bit_at a i ≤ bit_at b i) → length (picked a xs) ≤ suc (length (picked b xs))
picked-one_more a b n [] h = omega arith
picked-one_more a b zero (x ∷ xs) h =
    let ea = length-picked a x xs in
    let eb = length-picked b x xs in
    let i = picked-le (a / 2) (b / 2) xs (λ j. let sa = bit_at-suc a j in let sb = bit_at-suc b j in let k = h (suc j) (omega arith) in omega arith) in
    omega arith
picked-one_more a b (suc n) (x ∷ xs) h =
    let ea = length-picked a x xs in
    let eb = length-picked b x xs in
    let la = bit_at_lowest a in let lb = bit_at_lowest b in let k = h 0 (omega arith) in
    let i = picked-one_more (a / 2) (b / 2) n xs (λ j ne. let sa = bit_at-suc a j in let sb = bit_at-suc b j in let k = h (suc j) (omega arith) in omega arith) in
    omega arith

picked-zero : {A : Type 0} (xs : List A) → length (picked 0 xs) ≡ 0
picked-zero [] = refl
picked-zero (x ∷ xs) = picked-zero xs

-- the set of a list selects at most as many elements as the list has
picked-mark : {A : Type 0} (ns : List ℕ) (xs : List A) → length (picked (mark ns) xs) ≤ length ns
picked-mark [] xs = let e = picked-zero xs in omega arith
picked-mark (n ∷ ns) xs =
    let i = picked-mark ns xs in
    let j = picked-one_more (bit_or (mark ns) (2 ^ n)) (mark ns) n xs (λ k ne. let e = bit_at_or (mark ns) (2 ^ n) k in let none = bit_at-pow_other n k ne in omega arith) in
    omega arith

keep_if-first : {A : Type 0} (n : ℕ) (x : A) (xs : List A) → n ≡ 1 → Contains (keep_if n x xs) x
keep_if-first zero x xs h = absurd (omega arith)
keep_if-first (suc n) x xs h = (0, omega arith, refl)

keep_if-rest : {A : Type 0} (n : ℕ) (x y : A) (xs : List A) → Contains xs y → Contains (keep_if n x xs) y
keep_if-rest zero x y xs h = h
keep_if-rest (suc n) x y xs h = (suc h.0, omega arith, h.2)

-- an element whose place is in the set is selected
picked-has : {A : Type 0} (m : ℕ) (xs : List A) (k : ℕ) (d : A) → k < length xs → bit_at m k ≡ 1 → Contains (picked m xs) (get_or xs k d)
picked-has m [] k d h b = absurd (omega arith)
picked-has m (x ∷ xs) zero d h b = let e = bit_at_lowest m in keep_if-first (m % 2) x (picked (m / 2) xs) (omega arith)
picked-has m (x ∷ xs) (suc k) d h b =
    let e = bit_at-suc m k in
    keep_if-rest (m % 2) x (get_or xs k d) (picked (m / 2) xs) (picked-has (m / 2) xs k d (omega arith) (omega arith))

-- the place of an element that is selected
pub record Selected {A : Type 0} (m : ℕ) (xs : List A) (x : A) : Type 0 where
  pub place : ℕ
  pub below : place < length xs
  pub is_in : bit_at m place ≡ 1
  pub is : (d : A) → get_or xs place d ≡ x

keep_if-cases : {A : Type 0} (n : ℕ) (x y : A) (xs : List A) → Contains (keep_if n x xs) y → ((0 < n) × (x ≡ y)) ⊎ Contains xs y
keep_if-cases zero x y xs h = inr h
keep_if-cases (suc n) x y xs (zero, l, e) = inl (omega arith, e)
keep_if-cases (suc n) x y xs (suc k, l, e) = inr (k, omega arith, e)

picked-from : {A : Type 0} (m : ℕ) (xs : List A) (x : A) → Contains (picked m xs) x → Selected m xs x
picked-from m [] x h = absurd (let l = h.1 in omega arith)
picked-from m (y ∷ ys) x h =
    ⊎_elim
    (λ (now : (0 < m % 2) × (y ≡ x)). let e = bit_at_lowest m in record { place = 0; below = omega arith; is_in = omega arith; is = λ d. now.1 })
    (λ (later : Contains (picked (m / 2) ys) x).
    let r = picked-from (m / 2) ys x later in
    let e = bit_at-suc m r.place in
    record { place = suc r.place; below = let l = r.below in omega arith; is_in = let b = r.is_in in omega arith; is = r.is })
    (keep_if-cases (m % 2) y x (picked (m / 2) ys) h)

-- ---- the rows of a set

-- the rows numbered in the set, in order
abbrev pub select : ℕ → List (List Sym) → List (List Sym)
select m rows = map (λ i. get_or rows i []) (numbers_of m (length rows))

keep_if-append : {A : Type 0} (n : ℕ) (x : A) (xs ys : List A) → keep_if n x xs ++ ys ≡ keep_if n x (xs ++ ys)
keep_if-append zero x xs ys = refl
keep_if-append (suc n) x xs ys = refl

map-keep_if : {A B : Type 0} (f : A → B) (n : ℕ) (x : A) (xs : List A) → map f (keep_if n x xs) ≡ keep_if n (f x) (map f xs)
map-keep_if f zero x xs = refl
map-keep_if f (suc n) x xs = refl

-- the members of a set are 0, if it is one, and the members of its half, each and one
numbers-halved : (m n : ℕ) → numbers_of m (suc n) ≡ keep_if (m % 2) 0 (map suc (numbers_of (m / 2) n))
numbers-halved m zero = ap (λ b. keep_if b 0 []) (bit_at_lowest m)
numbers-halved m (suc n) =
    let half = numbers_of (m / 2) n in
    let last = keep_if (bit_at (m / 2) n) n [] in
    ap (λ xs. xs ++ keep_if (bit_at m (suc n)) (suc n) []) (numbers-halved m n) ∙ keep_if-append (m % 2) 0 (map suc half) (keep_if (bit_at m (suc n)) (suc n) [])
    ∙ ap (λ b. keep_if (m % 2) 0 (map suc half ++ keep_if b (suc n) [])) (bit_at-suc m n)
    ∙ ap (λ xs. keep_if (m % 2) 0 (map suc half ++ xs)) (sym (map-keep_if suc (bit_at (m / 2) n) n []))
    ∙ ap (keep_if (m % 2) 0) (sym (map-append suc half last))

behind-first : (x : List Sym) (xs : List (List Sym)) (ns : List ℕ) → map (λ i. get_or (x ∷ xs) i []) (map suc ns) ≡ map (λ i. get_or xs i []) ns
behind-first x xs [] = refl
behind-first x xs (n ∷ ns) = ap (λ rows. get_or xs n [] ∷ rows) (behind-first x xs ns)

select-is : (m : ℕ) (rows : List (List Sym)) → select m rows ≡ picked m rows
select-is m [] = refl
select-is m (x ∷ xs) =
    ap (map (λ i. get_or (x ∷ xs) i [])) (numbers-halved m (length xs)) ∙ map-keep_if (λ i. get_or (x ∷ xs) i []) (m % 2) 0 (map suc (numbers_of (m / 2) (length xs)))
    ∙ ap (keep_if (m % 2) x) (behind-first x xs (numbers_of (m / 2) (length xs)) ∙ select-is (m / 2) xs)

-- the set of a list selects at most as many rows as the list has members
pub select-mark : (ns : List ℕ) (rows : List (List Sym)) → length (select (mark ns) rows) ≤ length ns
select-mark ns rows = let e = ap length (select-is (mark ns) rows) in let l = picked-mark ns rows in omega arith

-- a row whose number is in the set is selected
pub select-has : (m : ℕ) (rows : List (List Sym)) (k : ℕ) (d : List Sym) → k < length rows → bit_at m k ≡ 1 → Contains (select m rows) (get_or rows k d)
select-has m rows k d h b = subst (λ xs. Contains xs (get_or rows k d)) (sym (select-is m rows)) (picked-has m rows k d h b)

pub select-from : (m : ℕ) (rows : List (List Sym)) (x : List Sym) → Contains (select m rows) x → Selected m rows x
select-from m rows x h = picked-from m rows x (subst (λ xs. Contains xs x) (select-is m rows) h)

-- ---- choosing

-- a list of one choice for each element
pub choose : {X : Type 0} (R : X → ℕ → Type 0) (xs : List X) → AllByRecursion (λ x. (n : ℕ) × R x n) xs → (ns : List ℕ) × AllZip R xs ns
choose R [] h = ([], tt)
choose R (x ∷ xs) h = let r = choose R xs h.1 in (h.0.0 ∷ r.0, (h.0.1, r.1))

pub all_chosen : {X : Type 0} (P : ℕ → Type 0) (R : X → ℕ → Type 0) → ((x : X) (n : ℕ) → R x n → P n) → (xs : List X) (ns : List ℕ) → AllZip R xs ns → AllByRecursion P ns
all_chosen P R f [] [] h = tt
all_chosen P R f [] (n ∷ ns) h = absurd h
all_chosen P R f (x ∷ xs) [] h = absurd h
all_chosen P R f (x ∷ xs) (n ∷ ns) h = (f x n h.0, all_chosen P R f xs ns h.1)
