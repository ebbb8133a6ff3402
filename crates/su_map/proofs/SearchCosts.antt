-- How many steps a search counts.
use Rattle.std.proofs.Common.{◌≡◌, ◌≢◌, ℕ, zero, suc, ◌+◌, ◌*◌, ◌-◌, ◌<◌, ◌≤◌, Bool, true, cond, map, sym, ap, ◌∙◌, subst, arith, add-one}
use Rattle.std.proofs.Math.Nat.{mul-le-mul_right}
use Rattle.std.specs.Int.{bit_at}
use Rattle.su_base.specs.Numbers.{count_below}
use Rattle.su_map.specs.Candidates.{sum_of_products}
use Rattle.su_map.specs.inside.Choices.{tries}
use Rattle.su_map.proofs.Ranks.{numbers_first}

tried_numbers : (start now new a t : ℕ) → now ≤ start + a * suc t → new ≤ now + 1 + t → new ≤ start + (a + 1) * suc t
tried_numbers start now new a t h l = omega arith

-- one target further, which passes and was tried
pub cost_tried : (p : ℕ → Bool) (n start now new t : ℕ) → p n ≡ true → now ≤ start + count_below p n * suc t → new ≤ now + 1 + t → new ≤ start + count_below p (n + 1) * suc t
cost_tried p n start now new t pass h l =
    let one : count_below p n + cond (p n) 1 0 ≡ count_below p n + 1 = ap (λ b. count_below p n + cond b 1 0) pass in
    subst (λ a. new ≤ start + a * suc t) (sym (ap (count_below p) (add-one n) ∙ one)) (tried_numbers start now new (count_below p n) t h l)

count_mono : (p : ℕ → Bool) (m d : ℕ) → count_below p m ≤ count_below p (m + d)
count_mono p m zero = let e : m + 0 ≡ m = omega arith in subst (λ n. count_below p m ≤ count_below p n) (sym e) (omega arith)
count_mono p m (suc d) =
    let e : m + suc d ≡ suc (m + d) = omega arith in
    let i = count_mono p m d in
    subst (λ n. count_below p m ≤ count_below p n) (sym e) (omega arith)

-- the bound up to a target that comes later is no lower
pub cost_later : (p : ℕ → Bool) (m n start now k : ℕ) → m ≤ n → now ≤ start + count_below p m * suc k → now ≤ start + count_below p n * suc k
cost_later p m n start now k low h =
    let up : m + (n - m) ≡ n = omega arith in
    let more : count_below p m ≤ count_below p n = subst (λ i. count_below p m ≤ count_below p i) up (count_mono p m (n - m)) in
    let wide = mul-le-mul_right (suc k) more in
    omega arith

-- the bound over the targets so far is within that over the rows of the set
pub cost_all : (passes : ℕ → ℕ → Bool) (targets n m new r j start now : ℕ) → j ≤ targets → r < n → bit_at m r ≡ 1 → bit_at new r ≡ 0 → ((i : ℕ) → i ≢ r → bit_at new i ≡ bit_at m i) → ((i : ℕ) → bit_at m i ≡ 1 → r ≤ i) → now ≤ start + count_below (passes r) j * suc (tries passes targets n new) → now ≤ start + tries passes targets n m
cost_all passes targets n m new r j start now low hr one out same least h =
    let k : ℕ = suc (tries passes targets n new) in
    let all : tries passes targets n m ≡ count_below (passes r) targets * k = ap (λ ns. sum_of_products (map (λ r. count_below (passes r) targets) ns)) (numbers_first m new r n hr one out same least) in
    let up : j + (targets - j) ≡ targets = omega arith in
    let more : count_below (passes r) j ≤ count_below (passes r) targets = subst (λ m. count_below (passes r) j ≤ count_below (passes r) m) up (count_mono (passes r) j (targets - j)) in
    let wide = mul-le-mul_right k more in
    omega arith

pub le_at : (a b n : ℕ) → a ≡ b → b ≤ n → a ≤ n
le_at a b n e h = omega arith
