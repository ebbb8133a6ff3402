-- Keys, and the rows of a bucket.
use Rattle.std.proofs.Common.{◌≡◌, ◌≢◌, ℕ, zero, suc, ◌<◌, ◌≤◌, ◌%◌, Bool, true, false, List, [], length, get_or, refl, sym, ap, subst, ◌∙◌, ⊎_elim, arith}
use Rattle.std.specs.Prelude.{cond}
use Rattle.std.proofs.lemmas.Bool.{cases_Bool, cases_lt}
use Rattle.std.proofs.lemmas.List.{get_or-map, length-map, same_lists}
use Rattle.std.proofs.lemmas.Bool.Decides.{nat_tests}
use Rattle.su_reduce.specs.Sheets.{pick}
use Rattle.su_reduce.specs.Chains.{last, hash_of, in_bucket}

-- ---- keys

pub pick_at : (ps xs : List ℕ) (k d : ℕ) → k < length ps → get_or (pick ps xs) k d ≡ get_or xs (get_or ps k 0) 0
pick_at ps xs k d h = get_or-map (λ p. get_or xs p 0) ps k 0 d h

pub keys_same : (ls rs xs ys : List ℕ) (n : ℕ) → length ls ≡ length rs → length ls ≤ n → ((k : ℕ) → k < n → get_or xs (get_or ls k 0) 0 ≡ get_or ys (get_or rs k 0) 0) → pick ls xs ≡ pick rs ys
keys_same ls rs xs ys n e low h =
    let a = length-map ls (λ p. get_or xs p 0) in
    let b = length-map rs (λ p. get_or ys p 0) in
    same_lists (pick ls xs) (pick rs ys) (a ∙ e ∙ sym b) (λ k d l.
    let l1 : k < length ls = omega arith in
    let l2 : k < length rs = omega arith in
    pick_at ls xs k d l1 ∙ h k (omega arith) ∙ sym (pick_at rs ys k d l2))

pub keys_differ : (ls rs xs ys : List ℕ) (k : ℕ) → length ls ≡ length rs → k < length ls → get_or xs (get_or ls k 0) 0 ≢ get_or ys (get_or rs k 0) 0 → pick ls xs ≢ pick rs ys
keys_differ ls rs xs ys k e h ne same = ne (sym (pick_at ls xs k 0 h) ∙ ap (λ r. get_or r k 0) same ∙ pick_at rs ys k 0 (omega arith))

-- ---- buckets

pub last_le : (p : ℕ → Bool) (n : ℕ) → last p n ≤ n
last_le p zero = omega arith
last_le p (suc n) =
    let i = last_le p n in
    ⊎_elim
    (λ (e : p n ≡ true). let f : last p (suc n) ≡ suc n = ap (λ b. cond b (suc n) (last p n)) e in omega arith)
    (λ (e : p n ≡ false). let f : last p (suc n) ≡ last p n = ap (λ b. cond b (suc n) (last p n)) e in omega arith)
    (cases_Bool (p n))

-- none from the last on
pub last_none : (p : ℕ → Bool) (n b : ℕ) → last p n ≤ b → b < n → p b ≡ false
last_none p zero b low h = absurd (omega arith)
last_none p (suc n) b low h =
    ⊎_elim
    (λ (e : p n ≡ true). let f : last p (suc n) ≡ suc n = ap (λ b. cond b (suc n) (last p n)) e in absurd (omega arith))
    (λ (e : p n ≡ false).
    let f : last p (suc n) ≡ last p n = ap (λ b. cond b (suc n) (last p n)) e in
    ⊎_elim
    (λ (l : b < n). last_none p n b (omega arith) l)
    (λ (l : n ≤ b). let same : n ≡ b = omega arith in ap p (sym same) ∙ e)
    (cases_lt b n))
    (cases_Bool (p n))

pub last_is : (p : ℕ → Bool) (n at : ℕ) → last p n ≡ suc at → p at ≡ true
last_is p zero at e = absurd (omega arith)
last_is p (suc n) at e =
    ⊎_elim
    (λ (t : p n ≡ true). let f : last p (suc n) ≡ suc n = ap (λ b. cond b (suc n) (last p n)) t in let same : n ≡ at = omega arith in ap p (sym same) ∙ t)
    (λ (t : p n ≡ false). let f : last p (suc n) ≡ last p n = ap (λ b. cond b (suc n) (last p n)) t in last_is p n at (sym f ∙ e))
    (cases_Bool (p n))

pub last_again : (p : ℕ → Bool) (n : ℕ) → last p (last p n) ≡ last p n
last_again p zero = refl
last_again p (suc n) =
    let on : Bool → ℕ = λ b. cond b (suc n) (last p n) in
    ⊎_elim
    (λ (t : p n ≡ true). let f : last p (suc n) ≡ suc n = ap on t in ap (last p) f)
    (λ (t : p n ≡ false). let f : last p (suc n) ≡ last p n = ap on t in ap (last p) f ∙ last_again p n ∙ sym f)
    (cases_Bool (p n))

-- the row at hand is in the bucket, and the next number is right
pub record Next (p : ℕ → Bool) (j at nx : ℕ) : Type 0 where
  pub passes : p j ≡ true
  pub below : nx < at
  pub again : last p nx ≡ nx
  pub none : (b : ℕ) → nx ≤ b → b < j → p b ≡ false

pub next_is : (p : ℕ → Bool) (j at nx : ℕ) → at ≡ suc j → last p at ≡ at → (p j ≡ true → nx ≡ last p j) → Next p j at nx
next_is p j at nx e again h =
    let t = last_is p at j (again ∙ e) in
    let n = h t in
    let l = last_le p j in
    record {
      passes = t;
      below = omega arith;
      again = ap (last p) n ∙ last_again p j ∙ sym n;
      none = λ b low lt. last_none p j b (omega arith) lt;
    }

-- what holds from the row at hand on holds from the next one on
pub all_step : (Q : ℕ → Type 0) (p : ℕ → Bool) (j at nx len : ℕ) → at ≡ suc j → Next p j at nx → ((b : ℕ) → p b ≡ false → Q b) → ((b : ℕ) → at ≤ b → b < len → Q b) → Q j → (b : ℕ) → nx ≤ b → b < len → Q b
all_step Q p j at nx len e next none old here b low lt =
    ⊎_elim
    (λ (l : b < j). none b (next.none b low l))
    (λ (l : j ≤ b).
    ⊎_elim
    (λ (m : b < at). let same : j ≡ b = omega arith in subst Q same here)
    (λ (m : at ≤ b). old b m lt)
    (cases_lt b at))
    (cases_lt b j)

pub key_bucket : (rows : List (List ℕ)) (places : List ℕ) (n b : ℕ) (key : List ℕ) → key ≡ pick places (get_or rows b []) → in_bucket rows places n (hash_of key % n) b ≡ true
key_bucket rows places n b key e = let f : hash_of (pick places (get_or rows b [])) % n ≡ hash_of key % n = ap (λ k. hash_of k % n) (sym e) in grind (arith, nat_tests, f)
