-- How many choices there are, which one stands where, and how many rows a choice can have.
use Rattle.std.proofs.Common.{◌≡◌, ℕ, suc, ◌+◌, ◌*◌, ◌/◌, ◌%◌, ◌<◌, ◌≤◌, ◌⊎◌, ⊎_elim, min, max, List, [], ◌∷◌, ◌++◌, map, length, take, drop, get_or, Contains, refl, sym, ap, subst, ◌∙◌, append_assoc, add-one, drop-cons, arith}
use Rattle.std.specs.Prelude.{All, Some, slice_get}
use Rattle.std.specs.Ordering.{nat_cmp}
use Rattle.std.specs.FinSet.{FinSet, empty}
use Rattle.std.proofs.lemmas.Bool.{cases_lt}
use Rattle.std.proofs.lemmas.List.{length-append, length-map, get_or_default, take_more}
use Rattle.std.proofs.lemmas.Option.{get_or_from_slice_get}
use Rattle.std.proofs.Math.Nat.{mul_assoc}
use Rattle.su_base.proofs.Combinations.{pairs, length-pairs, get_or-pairs, Split, split, min-mul}
use Rattle.su_base.proofs.Items.{Contains-later, Contains-cases, Contains-nil, Contains-map, Contains-map_source, Contains-flat_map, Contains-flat_map_source}
use Rattle.su_schema.specs.SchemaValue.{SchemaValue}
use Rattle.su_steps.specs.Objects.{objects_of}
use Rattle.su_steps.specs.Choices.{combinations, chosen_objects, origin, origins_from, origins_of}
use Rattle.su_steps.specs.inside.RowCounts.{object_count, most_objects, objects_in}

-- ---- how many

-- each of these in front of each of those
abbrev front : ℕ → List ℕ → List ℕ
front x ys = x ∷ ys

pub length-combinations_push : (xss : List (List ℕ)) (xs : List ℕ) → length (combinations (xss ++ xs ∷ [])) ≡ length (combinations xss) * length xs
length-combinations_push [] xs = length-pairs front xs ([] ∷ []) ∙ grind arith
length-combinations_push (ys ∷ yss) xs =
    length-pairs front ys (combinations (yss ++ xs ∷ [])) ∙ ap (λ n. length ys * n) (length-combinations_push yss xs)
    ∙ sym (mul_assoc (length ys) (length (combinations yss)) (length xs)) ∙ ap (λ n. n * length xs) (sym (length-pairs front ys (combinations yss)))

pub counted_more : (xss : List (List ℕ)) (i : ℕ) (xs : List ℕ) (count len : ℕ) → i < length xss → xs ≡ get_or xss i xs → len ≡ length xs → count ≡ min (length (combinations (take i xss))) 257 → min 257 (count * len) ≡ min (length (combinations (take (i + 1) xss))) 257
counted_more xss i xs count len l is len_is e =
    ap (λ k. min 257 (count * k)) len_is ∙ min-mul 257 count (length (combinations (take i xss))) (length xs) e
    ∙ ap (λ n. min n 257) (sym (ap (λ yss. length (combinations yss)) (take_more xss i xs l ∙ ap (λ ys. take i xss ++ ys ∷ []) (sym is)) ∙ length-combinations_push (take i xss) xs))

-- ---- which one stands where

-- one turn of finding a choice, at the variable number i
pub dropped : (xss : List (List ℕ)) (i : ℕ) (xs : List ℕ) → i < length xss → xs ≡ get_or xss i xs → drop i xss ≡ xs ∷ drop (i + 1) xss
dropped xss i xs h e = drop-cons xss i xs h ∙ ap (λ x. x ∷ drop (suc i) xss) (sym e) ∙ ap (λ n. xs ∷ drop n xss) (sym (add-one i))

pub record IsTurn (xss : List (List ℕ)) (i : ℕ) (xs : List ℕ) (rest left : ℕ) : Type 0 where
  pub split : Split (length xs) (length (combinations (drop (i + 1) xss))) rest left
  pub is : get_or (combinations (drop i xss)) left [] ≡ get_or xs (left / length (combinations (drop (i + 1) xss))) 0 ∷ get_or (combinations (drop (i + 1) xss)) (left % length (combinations (drop (i + 1) xss))) []

pub turn : (xss : List (List ℕ)) (i : ℕ) (xs : List ℕ) (rest left : ℕ) → i < length xss → xs ≡ get_or xss i xs → rest ≡ length (combinations (drop i xss)) → left < rest → IsTurn xss i xs rest left
turn xss i xs rest left h e r l =
    let yss = combinations (drop (i + 1) xss) in
    let d = dropped xss i xs h e in
    let s = split (length xs) (length yss) rest left (r ∙ ap (λ zss. length (combinations zss)) d ∙ length-pairs front xs yss) l in
    record {
      split = s;
      is = ap (λ zss. get_or (combinations zss) left []) d ∙ ap (λ k. get_or (pairs front xs yss) k []) (sym s.whole) ∙ get_or-pairs front xs yss (left / length yss) (left % length yss) 0 [] [] s.place s.below;
    }

-- the same with the values of the code: the number of the variable's maximal objects, and what is read there
pub record IsStep (xss : List (List ℕ)) (i : ℕ) (xs : List ℕ) (rest left : ℕ) : Type 0 where
  pub some : 0 < rest
  pub place : left / rest < length xs
  pub below : left % rest < rest
  pub rest_is : rest ≡ length (combinations (drop (i + 1) xss))
  pub whole : (choice next target : List ℕ) (x : ℕ) → choice ++ get_or (combinations (drop i xss)) left [] ≡ target → slice_get xs (left / rest) ≡ Some x → next ≡ choice ++ x ∷ [] → next ++ get_or (combinations (drop (i + 1) xss)) (left % rest) [] ≡ target

pub step : (xss : List (List ℕ)) (i : ℕ) (xs : List ℕ) (before len left : ℕ) → i < length xss → xs ≡ get_or xss i xs → len ≡ length xs → before ≡ length (combinations (drop i xss)) → left < before → IsStep xss i xs (before / len) left
step xss i xs before len left h e l r low =
    let t = turn xss i xs before left h e r low in
    let yss = combinations (drop (i + 1) xss) in
    let s = t.split in
    let is : before / len ≡ length yss = ap (λ k. before / k) l ∙ s.behind in
    record {
      some = subst (λ k. 0 < k) (sym is) s.others;
      place = subst (λ k. left / k < length xs) (sym is) s.place;
      below = subst (λ k. left % k < k) (sym is) s.below;
      rest_is = is;
      whole = λ choice next target x w at n.
          let own : x ≡ get_or xs (left / length yss) 0 = sym (get_or_from_slice_get xs (left / (before / len)) x 0 at) ∙ ap (λ k. get_or xs (left / k) 0) is in
          ap (λ z. z ++ get_or yss (left % (before / len)) []) n ∙ ap (λ k. (choice ++ x ∷ []) ++ get_or yss (left % k) []) is
          ∙ append_assoc choice (x ∷ []) (get_or yss (left % length yss) []) ∙ ap (λ z. choice ++ z ∷ get_or yss (left % length yss) []) own
          ∙ ap (λ z. choice ++ z) (sym t.is) ∙ w;
    }

-- ---- how many rows

pub most_push : (schema : SchemaValue) (maximal : List (FinSet nat_cmp)) (ms : List ℕ) (m : ℕ) → most_objects schema maximal (ms ++ m ∷ []) ≡ max (most_objects schema maximal ms) (object_count schema maximal m)
most_push schema maximal [] m = grind arith
most_push schema maximal (k ∷ ks) m = let i = most_push schema maximal ks m in omega arith

pub most_more : (schema : SchemaValue) (maximal : List (FinSet nat_cmp)) (ms : List ℕ) (i : ℕ) → i < length ms → most_objects schema maximal (take (i + 1) ms) ≡ max (most_objects schema maximal (take i ms)) (object_count schema maximal (get_or ms i 0))
most_more schema maximal ms i l = ap (most_objects schema maximal) (take_more ms i 0 l) ∙ most_push schema maximal (take i ms) (get_or ms i 0)

pub most_step : (schema : SchemaValue) (maximal : List (FinSet nat_cmp)) (ms : List ℕ) (i most count next : ℕ) (x : FinSet nat_cmp) → i < length ms → All (λ m. m < length maximal) ms → x ≡ get_or maximal (get_or ms i 0) x → count ≡ length (objects_of schema x) → most ≡ most_objects schema maximal (take i ms)
    → next ≡ max most count → next ≡ most_objects schema maximal (take (i + 1) ms)
most_step schema maximal ms i most count next x l low is count_is so e =
    e ∙ ap (λ k. max k count) so
    ∙ ap (max (most_objects schema maximal (take i ms))) (count_is ∙ ap (λ s. length (objects_of schema s)) (is ∙ get_or_default maximal (get_or ms i 0) x empty (low i 0 l)))
    ∙ sym (most_more schema maximal ms i l)

rows_push : (schema : SchemaValue) (maximal : List (FinSet nat_cmp)) (mss : List (List ℕ)) (ms : List ℕ) → objects_in schema maximal (mss ++ ms ∷ []) ≡ objects_in schema maximal mss + most_objects schema maximal ms
rows_push schema maximal [] ms = grind arith
rows_push schema maximal (ks ∷ kss) ms = let i = rows_push schema maximal kss ms in omega arith

pub rows_more : (schema : SchemaValue) (maximal : List (FinSet nat_cmp)) (mss : List (List ℕ)) (i : ℕ) (ms : List ℕ) → i < length mss → ms ≡ get_or mss i ms → objects_in schema maximal (take (i + 1) mss) ≡ objects_in schema maximal (take i mss) + most_objects schema maximal ms
rows_more schema maximal mss i ms l is = ap (objects_in schema maximal) (take_more mss i ms l ∙ ap (λ x. take i mss ++ x ∷ []) (sym is)) ∙ rows_push schema maximal (take i mss) ms

-- how many objects a choice has
abbrev pub total : SchemaValue → List (FinSet nat_cmp) → List ℕ → ℕ
total schema maximal [] = 0
total schema maximal (m ∷ ms) = object_count schema maximal m + total schema maximal ms

length-origins : (schema : SchemaValue) (maximal : List (FinSet nat_cmp)) (v : ℕ) (choice : List ℕ) → length (origins_from v (chosen_objects schema maximal choice)) ≡ total schema maximal choice
length-origins schema maximal v [] = refl
length-origins schema maximal v (m ∷ ms) =
    let i = length-origins schema maximal (suc v) ms in
    let os : List ℕ = objects_of schema (get_or maximal m empty) in
    let a = length-append (map (origin v) os) (origins_from (suc v) (chosen_objects schema maximal ms)) in
    let b = length-map os (origin v) in
    omega arith

pub row_count_is : (schema : SchemaValue) (maximal : List (FinSet nat_cmp)) (choice : List ℕ) → length (origins_of schema maximal choice) ≡ total schema maximal choice
row_count_is schema maximal choice = length-origins schema maximal 0 choice

-- one of the maximal objects has the greatest number, and none has more
most_at : (schema : SchemaValue) (maximal : List (FinSet nat_cmp)) (ms : List ℕ) (m : ℕ) → Contains ms m → object_count schema maximal m ≤ most_objects schema maximal ms
most_at schema maximal [] m c = absurd (Contains-nil m c)
most_at schema maximal (k ∷ ks) m c =
    ⊎_elim
    (λ (e : k ≡ m). let f = ap (object_count schema maximal) e in omega arith)
    (λ (r : Contains ks m). let i = most_at schema maximal ks m r in omega arith)
    (Contains-cases k ks m c)

most_of : (schema : SchemaValue) (maximal : List (FinSet nat_cmp)) (ms : List ℕ) → 0 < length ms → (m : ℕ) × Contains ms m × (object_count schema maximal m ≡ most_objects schema maximal ms)
most_of schema maximal [] l = absurd (omega arith)
most_of schema maximal (k ∷ []) l = (k, (0, omega arith, refl), omega arith)
most_of schema maximal (k ∷ j ∷ js) l =
    let w = most_of schema maximal (j ∷ js) (omega arith) in
    ⊎_elim
    (λ (s : object_count schema maximal k < most_objects schema maximal (j ∷ js)). (w.0, Contains-later k (j ∷ js) w.0 w.1, (let e = w.2 in omega arith)))
    (λ (g : most_objects schema maximal (j ∷ js) ≤ object_count schema maximal k). (k, (0, omega arith, refl), omega arith))
    (cases_lt (object_count schema maximal k) (most_objects schema maximal (j ∷ js)))

-- no choice has more rows than the greatest numbers together
pub total_at : (schema : SchemaValue) (maximal : List (FinSet nat_cmp)) (mss : List (List ℕ)) (choice : List ℕ) → Contains (combinations mss) choice → total schema maximal choice ≤ objects_in schema maximal mss
total_at schema maximal [] choice c =
    ⊎_elim (λ (e : [] ≡ choice). let f = ap (total schema maximal) e in omega arith) (λ (r : Contains [] choice). absurd (Contains-nil choice r)) (Contains-cases [] [] choice c)
total_at schema maximal (ms ∷ mss) choice c =
    let w = Contains-flat_map_source (λ x. map (λ ys. x ∷ ys) (combinations mss)) ms choice c in
    let u = Contains-map_source (λ ys. w.0 ∷ ys) (combinations mss) choice w.2 in
    let i = total_at schema maximal mss u.0 u.1 in
    let m = most_at schema maximal ms w.0 w.1 in
    let f : object_count schema maximal w.0 + total schema maximal u.0 ≡ total schema maximal choice = ap (total schema maximal) u.2 in
    omega arith

-- and some choice has as many
pub total_of : (schema : SchemaValue) (maximal : List (FinSet nat_cmp)) (mss : List (List ℕ)) → ((v : ℕ) → v < length mss → 0 < length (get_or mss v [])) → (choice : List ℕ) × Contains (combinations mss) choice × (total schema maximal choice ≡ objects_in schema maximal mss)
total_of schema maximal [] some = ([], (0, omega arith, refl), refl)
total_of schema maximal (ms ∷ mss) some =
    let m = most_of schema maximal ms (some 0 (omega arith)) in
    let w = total_of schema maximal mss (λ v l. some (suc v) (omega arith)) in
    (m.0 ∷ w.0, Contains-flat_map (λ x. map (λ ys. x ∷ ys) (combinations mss)) ms m.0 (m.0 ∷ w.0) m.1 (Contains-map (λ ys. m.0 ∷ ys) (combinations mss) w.0 w.1), (let a = m.2 in let b = w.2 in omega arith))
