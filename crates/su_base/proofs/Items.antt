-- Lists: their members, what holds of each item, two lists side by side, and lists made from numbers.
use Rattle.std.proofs.Common.{◌≡◌, ◌≢◌, ℕ, zero, suc, ◌+◌, ◌<◌, ◌≤◌, List, [], ◌∷◌, ◌++◌, map, take, length, get_or, Contains, refl, sym, ap, ◌∙◌, subst, arith, ◌⊎◌, inl, inr, ⊎_elim, add-one, append-nil, below_more, set, get_or-set_other, get_or-set_same}
use Rattle.std.specs.Prelude.{Bool, true, false, cond, All}
use Rattle.std.specs.List.{range_with_len, filter, flat_map, AllZip, AllByRecursion}
use Rattle.std.proofs.lemmas.Bool.{true≢false}
use Rattle.std.proofs.lemmas.Grind.{flat_map-append}
use Rattle.std.proofs.lemmas.List.{length-append, get_or_append_left, get_or-append-add, get_or_default, get_or_push, get_or_read, take_more}
use Rattle.std.proofs.lemmas.List.Elements.{All-contains, All-from_recursion, Contains-append_left, Contains-append_right, Contains-append_cases, Contains-get_or}
use Rattle.std.proofs.lemmas.List.Quantifiers.{all_pairs_push}
use Rattle.std.proofs.lemmas.List.FromFn.{get_or-range_with_len, length-range_with_len, get_or-map-range_with_len, map-range_with_len_more}
use Rattle.std.proofs.lemmas.Slice.Zip.{AllZip-long, all_zipped_more}
use Rattle.su_base.specs.Lists.{AllDiffer}

-- ---- members

pub Contains-nil : {X : Type 0} (y : X) → Contains [] y → ⊥
Contains-nil y c = let l = c.1 in omega arith

pub Contains-head : {X : Type 0} (x : X) (xs : List X) → Contains (x ∷ xs) x
Contains-head x xs = (zero, omega arith, refl)

pub Contains-later : {X : Type 0} (x : X) (xs : List X) (y : X) → Contains xs y → Contains (x ∷ xs) y
Contains-later x xs y c = (suc c.0, (let l = c.1 in omega arith), c.2)

pub Contains-cases : {X : Type 0} (x : X) (xs : List X) (y : X) → Contains (x ∷ xs) y → (x ≡ y) ⊎ Contains xs y
Contains-cases x xs y (zero, l, e) = inl e
Contains-cases x xs y (suc k, l, e) = inr (k, omega arith, e)

pub Contains-map : {X Y : Type 0} (f : X → Y) (xs : List X) (x : X) → Contains xs x → Contains (map f xs) (f x)
Contains-map f [] x c = absurd (Contains-nil x c)
Contains-map f (y ∷ ys) x c =
    ⊎_elim
    (λ (e : y ≡ x). (0, omega arith, ap f e))
    (λ (r : Contains ys x). Contains-later (f y) (map f ys) (f x) (Contains-map f ys x r))
    (Contains-cases y ys x c)

-- what a member of the images is the image of
pub Contains-map_source : {X Y : Type 0} (f : X → Y) (xs : List X) (y : Y) → Contains (map f xs) y → (x : X) × Contains xs x × (f x ≡ y)
Contains-map_source f [] y c = absurd (Contains-nil y c)
Contains-map_source f (x ∷ xs) y c =
    ⊎_elim
    (λ (e : f x ≡ y). (x, (0, omega arith, refl), e))
    (λ (r : Contains (map f xs) y). let w = Contains-map_source f xs y r in (w.0, Contains-later x xs w.0 w.1, w.2))
    (Contains-cases (f x) (map f xs) y c)

pub Contains-flat_map : {X Y : Type 0} (f : X → List Y) (xs : List X) (x : X) (y : Y) → Contains xs x → Contains (f x) y → Contains (flat_map f xs) y
Contains-flat_map f [] x y c h = absurd (Contains-nil x c)
Contains-flat_map f (z ∷ zs) x y c h =
    ⊎_elim
    (λ (e : z ≡ x). Contains-append_left (f z) (flat_map f zs) y (subst (λ q. Contains (f q) y) (sym e) h))
    (λ (r : Contains zs x). Contains-append_right (f z) (flat_map f zs) y (Contains-flat_map f zs x y r h))
    (Contains-cases z zs x c)

pub Contains-flat_map_source : {X Y : Type 0} (f : X → List Y) (xs : List X) (y : Y) → Contains (flat_map f xs) y → (x : X) × Contains xs x × Contains (f x) y
Contains-flat_map_source f [] y c = absurd (Contains-nil y c)
Contains-flat_map_source f (x ∷ xs) y c =
    ⊎_elim
    (λ (l : Contains (f x) y). (x, (0, omega arith, refl), l))
    (λ (r : Contains (flat_map f xs) y). let w = Contains-flat_map_source f xs y r in (w.0, Contains-later x xs w.0 w.1, w.2))
    (Contains-append_cases (f x) (flat_map f xs) y c)

pub Contains-filter : {X : Type 0} (p : X → Bool) (xs : List X) (x : X) → Contains xs x → p x ≡ true → Contains (filter p xs) x
Contains-filter p [] x c h = absurd (Contains-nil x c)
Contains-filter p (y ∷ ys) x c h =
    elim (p y) as (λ b. p y ≡ b → Contains (cond b (y ∷ filter p ys) (filter p ys)) x) [
      | true ↦ λ t. ⊎_elim
          (λ (e : y ≡ x). (0, omega arith, e))
          (λ (r : Contains ys x). Contains-later y (filter p ys) x (Contains-filter p ys x r h))
          (Contains-cases y ys x c)
      | false ↦ λ f. ⊎_elim
          (λ (e : y ≡ x). absurd (true≢false (sym h ∙ sym (ap p e) ∙ f)))
          (λ (r : Contains ys x). Contains-filter p ys x r h)
          (Contains-cases y ys x c)
    ] refl

pub Contains-filter_source : {X : Type 0} (p : X → Bool) (xs : List X) (x : X) → Contains (filter p xs) x → Contains xs x × (p x ≡ true)
Contains-filter_source p [] x c = absurd (Contains-nil x c)
Contains-filter_source p (y ∷ ys) x c =
    elim (p y) as (λ b. p y ≡ b → Contains (cond b (y ∷ filter p ys) (filter p ys)) x → Contains (y ∷ ys) x × (p x ≡ true)) [
      | true ↦ λ t k. ⊎_elim
          (λ (e : y ≡ x). ((0, omega arith, e), sym (ap p e) ∙ t))
          (λ (r : Contains (filter p ys) x). let w = Contains-filter_source p ys x r in (Contains-later y ys x w.0, w.1))
          (Contains-cases y (filter p ys) x k)
      | false ↦ λ f k. let w = Contains-filter_source p ys x k in (Contains-later y ys x w.0, w.1)
    ] refl c

pub Contains-take : {X : Type 0} (n : ℕ) (xs : List X) (x : X) → Contains (take n xs) x → Contains xs x
Contains-take zero xs x c = absurd (Contains-nil x c)
Contains-take (suc n) [] x c = absurd (Contains-nil x c)
Contains-take (suc n) (y ∷ ys) x c =
    ⊎_elim
    (λ (e : y ≡ x). (0, omega arith, e))
    (λ (r : Contains (take n ys) x). Contains-later y ys x (Contains-take n ys x r))
    (Contains-cases y (take n ys) x c)

pub Contains-one : {X : Type 0} (x y : X) → Contains (x ∷ []) y → x ≡ y
Contains-one x y c = ⊎_elim (λ (is : x ≡ y). is) (λ (later : Contains [] y). absurd (Contains-nil y later)) (Contains-cases x [] y c)

-- an item is a member or not, where two items are equal or not
pub Contains-or_not : {X : Type 0} (tell : (x y : X) → (x ≡ y) ⊎ (x ≢ y)) (xs : List X) (x : X) → Contains xs x ⊎ (Contains xs x → ⊥)
Contains-or_not tell [] x = inr (λ c. Contains-nil x c)
Contains-or_not tell (y ∷ ys) x =
    ⊎_elim
    (λ (e : y ≡ x). inl (0, omega arith, e))
    (λ (ne : y ≢ x).
    ⊎_elim
    (λ (c : Contains ys x). inl (Contains-later y ys x c))
    (λ (out : Contains ys x → ⊥). inr (λ c. ⊎_elim (λ (e : y ≡ x). ne e) (λ (r : Contains ys x). out r) (Contains-cases y ys x c)))
    (Contains-or_not tell ys x))
    (tell y x)

-- ---- what holds of each item

-- of all members
pub All-members : {X : Type 0} (P : X → Type 0) (xs : List X) → ((x : X) → Contains xs x → P x) → All P xs
All-members P xs h i d l = h (get_or xs i d) (Contains-get_or xs i d l)

pub All-append_left : {X : Type 0} (P : X → Type 0) (xs ys : List X) → All P (xs ++ ys) → All P xs
All-append_left P xs ys all k d within = subst P (get_or_append_left xs ys d k within) (all k d (omega (arith, length-append xs ys)))

pub All-append_right : {X : Type 0} (P : X → Type 0) (xs ys : List X) → All P (xs ++ ys) → All P ys
All-append_right P xs ys all k d within = subst P (get_or-append-add xs ys k d) (all (length xs + k) d (omega (arith, length-append xs ys)))

pub All-middle : {X : Type 0} (P : X → Type 0) (before : List X) (x : X) (after : List X) → All P (before ++ x ∷ after) → P x
All-middle P before x after all = All-contains P (before ++ x ∷ after) x all (Contains-append_right before (x ∷ after) x (Contains-head x after))

pub AllByRecursion-append : {X : Type 0} (P : X → Type 0) (xs ys : List X) → AllByRecursion P xs → AllByRecursion P ys → AllByRecursion P (xs ++ ys)
AllByRecursion-append P [] ys h k = k
AllByRecursion-append P (x ∷ xs) ys h k = (h.0, AllByRecursion-append P xs ys h.1 k)

pub AllByRecursion-append_left : {X : Type 0} (P : X → Type 0) (xs ys : List X) → AllByRecursion P (xs ++ ys) → AllByRecursion P xs
AllByRecursion-append_left P [] ys h = tt
AllByRecursion-append_left P (x ∷ xs) ys h = (h.0, AllByRecursion-append_left P xs ys h.1)

pub AllByRecursion-map : {X Y : Type 0} (P : Y → Type 0) (f : X → Y) (xs : List X) → AllByRecursion (λ x. P (f x)) xs → AllByRecursion P (map f xs)
AllByRecursion-map P f [] h = tt
AllByRecursion-map P f (x ∷ xs) h = (h.0, AllByRecursion-map P f xs h.1)

pub AllByRecursion-weaker : {X : Type 0} (P Q : X → Type 0) (xs : List X) → ((x : X) → P x → Q x) → AllByRecursion P xs → AllByRecursion Q xs
AllByRecursion-weaker P Q [] f h = tt
AllByRecursion-weaker P Q (x ∷ xs) f h = (f x h.0, AllByRecursion-weaker P Q xs f h.1)

pub AllByRecursion-append_right : {X : Type 0} (P : X → Type 0) (xs ys : List X) → AllByRecursion P (xs ++ ys) → AllByRecursion P ys
AllByRecursion-append_right P [] ys h = h
AllByRecursion-append_right P (x ∷ xs) ys h = AllByRecursion-append_right P xs ys h.1

pub AllByRecursion-map_source : {X Y : Type 0} (P : Y → Type 0) (f : X → Y) (xs : List X) → AllByRecursion P (map f xs) → AllByRecursion (λ x. P (f x)) xs
AllByRecursion-map_source P f [] h = tt
AllByRecursion-map_source P f (x ∷ xs) h = (h.0, AllByRecursion-map_source P f xs h.1)

pub AllByRecursion-contains : {X : Type 0} (P : X → Type 0) (xs : List X) (x : X) → AllByRecursion P xs → Contains xs x → P x
AllByRecursion-contains P xs x h c = All-contains P xs x (All-from_recursion P xs h) c

pub AllByRecursion-members : {X : Type 0} (P : X → Type 0) (xs : List X) → ((x : X) → Contains xs x → P x) → AllByRecursion P xs
AllByRecursion-members P [] h = tt
AllByRecursion-members P (x ∷ xs) h = (h x (0, omega arith, refl), AllByRecursion-members P xs (λ y c. h y (suc c.0, (let l = c.1 in omega arith), c.2)))

-- where no item is repeated, with one more that is not there
pub AllDiffer-push : {X : Type 0} (xs : List X) (x : X) → AllDiffer xs → ¬ Contains xs x → AllDiffer (xs ++ x ∷ [])
AllDiffer-push xs x differ out = all_pairs_push (λ x y. x ≢ y) xs x differ (λ k d within is. out (k, within, get_or_default xs k x d within ∙ is))

-- ---- two lists side by side

-- one more item of the first list, and one pushed on the second
pub AllZip-more : {A B : Type 0} (R : A → B → Type 0) (xs : List A) (ys next : List B) (i : ℕ) (x : A) (y : B) → i < length xs → x ≡ get_or xs i x → AllZip R (take i xs) ys → R x y → next ≡ ys ++ y ∷ [] → AllZip R (take (i + 1) xs) next
AllZip-more {A} {B} R xs ys next i x y l e h r n =
    subst (λ (zs : List B). AllZip R (take (i + 1) xs) zs) (sym n)
    (subst (λ (zs : List A). AllZip R zs (ys ++ y ∷ [])) (sym (take_more xs i x l ∙ ap (λ (z : A). take i xs ++ z ∷ []) (sym e))) (all_zipped_more R (take i xs) ys x y h r))

pub AllZip-length : {A B : Type 0} (R : A → B → Type 0) (xs : List A) (ys : List B) → AllZip R xs ys → length xs ≡ length ys
AllZip-length R xs ys all = sym (AllZip-long R xs ys all)

pub AllZip-get_or : {A B : Type 0} (R : A → B → Type 0) (xs : List A) (ys : List B) (i : ℕ) (d : A) (e : B) → AllZip R xs ys → i < length xs → R (get_or xs i d) (get_or ys i e)
AllZip-get_or R [] ys i d e all within = absurd (omega arith)
AllZip-get_or R (x ∷ xs) [] i d e all within = absurd all
AllZip-get_or R (x ∷ xs) (y ∷ ys) zero d e all within = all.0
AllZip-get_or R (x ∷ xs) (y ∷ ys) (suc i) d e all within = AllZip-get_or R xs ys i d e all.1 (omega arith)

-- ---- images

pub map-equal : {A B : Type 0} (f g : A → B) (xs : List A) → ((x : A) → f x ≡ g x) → map f xs ≡ map g xs
map-equal f g [] e = refl
map-equal f g (x ∷ xs) e = let i = map-equal f g xs e in let j = e x in cc

pub map-map_equal : {A B C : Type 0} (f : A → B) (g : B → C) (h : A → C) → ((x : A) → g (f x) ≡ h x) → (xs : List A) → map g (map f xs) ≡ map h xs
map-map_equal f g h e [] = refl
map-map_equal f g h e (x ∷ xs) = let i = map-map_equal f g h e xs in let j = e x in cc

pub flat_map-push : {A B : Type 0} (f : A → List B) (xs : List A) (x : A) → flat_map f (xs ++ x ∷ []) ≡ flat_map f xs ++ f x
flat_map-push f xs x = flat_map-append f xs (x ∷ []) ∙ ap (λ ys. flat_map f xs ++ ys) (append-nil (f x))

-- two functions give one list where they give the same at each member, and only there
pub map-equal_at : {X Y : Type 0} (f g : X → Y) (xs : List X) → ((x : X) → Contains xs x → f x ≡ g x) → map f xs ≡ map g xs
map-equal_at f g [] h = refl
map-equal_at f g (x ∷ xs) h =
    let here : f x ≡ g x = h x (0, omega arith, refl) in
    let rest = map-equal_at f g xs (λ y c. h y (Contains-later x xs y c)) in
    cc

pub map-equal_only : {X Y : Type 0} (f g : X → Y) (xs : List X) (x : X) → map f xs ≡ map g xs → Contains xs x → f x ≡ g x
map-equal_only f g [] x e c = absurd (Contains-nil x c)
map-equal_only f g (y ∷ ys) x e c =
    let here : f y ≡ g y = cc in
    let rest : map f ys ≡ map g ys = cc in
    ⊎_elim
    (λ (is : y ≡ x). ap f (sym is) ∙ here ∙ ap g is)
    (λ (later : Contains ys x). map-equal_only f g ys x rest later)
    (Contains-cases y ys x c)

-- ---- those that pass, and the one at a place

pub length-filter : {X : Type 0} (p : X → Bool) (xs : List X) → length (filter p xs) ≤ length xs
length-filter p [] = omega arith
length-filter p (x ∷ xs) =
    let fewer = length-filter p xs in
    elim (p x) as (λ b. length (cond b (x ∷ filter p xs) (filter p xs)) ≤ suc (length xs)) [ true ↦ omega (arith, fewer) | false ↦ omega (arith, fewer) ]

-- what is read at a place, at every default
pub get_or-is : {X : Type 0} (xs : List X) (i : ℕ) (x d : X) → i < length xs → x ≡ get_or xs i x → get_or xs i d ≡ x
get_or-is xs i x d h is = sym (get_or_read xs i x h is d)

-- ---- one item more, and one written

pub same_tail : {X : Type 0} (x y : X) (xs ys : List X) → x ∷ xs ≡ y ∷ ys → xs ≡ ys
same_tail x y xs ys e = cc

pub length-push : {X : Type 0} (xs : List X) (x : X) (n : ℕ) → length xs ≡ n → length (xs ++ x ∷ []) ≡ n + 1
length-push xs x n long = length-append xs (x ∷ []) ∙ ap (λ m. m + 1) long

pub length-pushed : {X : Type 0} (xs next : List X) (x : X) (n : ℕ) → next ≡ xs ++ x ∷ [] → length xs ≡ n → length next ≡ n + 1
length-pushed xs next x n is long = ap length is ∙ length-push xs x n long

-- a fact of each item, and of one pushed
pub get_or-push_each : {X : Type 0} (P : ℕ → X → Type 0) (d : X) (xs : List X) (x : X) (n : ℕ) → length xs ≡ n → ((i : ℕ) → i < n → P i (get_or xs i d)) → P n x → (i : ℕ) → i < n + 1 → P i (get_or (xs ++ x ∷ []) i d)
get_or-push_each {X} P d xs x n long before here =
    below_more (λ (i : ℕ). P i (get_or (xs ++ x ∷ []) i d)) n
    (λ i l. subst (λ (y : X). P i y) (sym (get_or_append_left xs (x ∷ []) d i (omega (arith, long, l)))) (before i l))
    (subst (λ (y : X). P n y) (sym (get_or_push xs x d n long)) here)

-- the same, where the longer list has a name
pub get_or-pushed_each : {X : Type 0} (P : ℕ → X → Type 0) (d : X) (xs next : List X) (x : X) (n : ℕ) → next ≡ xs ++ x ∷ [] → length xs ≡ n → ((i : ℕ) → i < n → P i (get_or xs i d)) → P n x → (i : ℕ) → i < n + 1 → P i (get_or next i d)
get_or-pushed_each {X} P d xs next x n is long before here i l = subst (λ (ys : List X). P i (get_or ys i d)) (sym is) (get_or-push_each P d xs x n long before here i l)

-- a fact of each item below n, and of the one written at n
pub get_or-set_each : {X : Type 0} (P : ℕ → X → Type 0) (d : X) (xs : List X) (n : ℕ) (x : X) → n < length xs → ((i : ℕ) → i < n → P i (get_or xs i d)) → P n x → (i : ℕ) → i < n + 1 → P i (get_or (set xs n x) i d)
get_or-set_each P d xs n x low before here =
    below_more (λ i. P i (get_or (set xs n x) i d)) n
    (λ i l. subst (P i) (sym (get_or-set_other xs n i x d (omega arith))) (before i l))
    (subst (P n) (sym (get_or-set_same xs n x d low)) here)

-- ---- numbers in order

pub range-suc : (a n j : ℕ) → a + n ≡ j → range_with_len a (suc n) ≡ range_with_len a n ++ j ∷ []
range-suc a zero j e = ap (λ k. k ∷ []) (let same : a ≡ j = omega arith in same)
range-suc a (suc n) j e = ap (λ ks. a ∷ ks) (range-suc (a + 1) n j (omega arith))

pub range-push : (a n j : ℕ) → a + n ≡ j → range_with_len a (n + 1) ≡ range_with_len a n ++ j ∷ []
range-push a n j e = ap (range_with_len a) (add-one n) ∙ range-suc a n j e

pub range-push_zero : (n : ℕ) → range_with_len 0 (n + 1) ≡ range_with_len 0 n ++ n ∷ []
range-push_zero n = range-push 0 n n (omega arith)

pub Contains-range : (n c : ℕ) → c < n → Contains (range_with_len 0 n) c
Contains-range n c h = (c, subst (λ k. c < k) (sym (length-range_with_len 0 n)) h, get_or-range_with_len 0 n c c h ∙ omega arith)

pub Contains-range_below : (n c : ℕ) → Contains (range_with_len 0 n) c → c < n
Contains-range_below n c there =
    let within : there.0 < n = subst (λ k. there.0 < k) (length-range_with_len 0 n) there.1 in
    let is : there.0 ≡ c = sym (get_or-range_with_len 0 n there.0 c within ∙ omega arith) ∙ there.2 in
    omega (arith, is)

-- what stands at a place of a list that a function makes
pub get_or-map_range : {X : Type 0} (f : ℕ → X) (n a : ℕ) (d : X) → a < n → get_or (map f (range_with_len 0 n)) a d ≡ f a
get_or-map_range f n a d h = get_or-map-range_with_len f 0 n a a d h (omega arith)

-- one more item of it
pub map-range_push : {X : Type 0} (f : ℕ → X) (a : ℕ) (xs ys : List X) (x : X) → ys ≡ xs ++ x ∷ [] → xs ≡ map f (range_with_len 0 a) → x ≡ f a → ys ≡ map f (range_with_len 0 (a + 1))
map-range_push f a xs ys x pushed before is = pushed ∙ ap (λ zs. zs ++ x ∷ []) before ∙ ap (λ z. map f (range_with_len 0 a) ++ z ∷ []) is ∙ sym (map-range_with_len_more f 0 a a (omega arith))

-- the lists of the first numbers, and of one more
pub flat_map-range_push : {X : Type 0} (f : ℕ → List X) (n : ℕ) → flat_map f (range_with_len 0 (n + 1)) ≡ flat_map f (range_with_len 0 n) ++ f n
flat_map-range_push f n = ap (flat_map f) (range-push_zero n) ∙ flat_map-push f (range_with_len 0 n) n

-- ---- an item of a list that has some

pub some_item : {X : Type 0} (xs : List X) → 0 < length xs → X
some_item [] h = absurd (omega arith)
some_item (x ∷ xs) h = x
