-- Dropping one number after another, from the greatest, gives the least set.
use Rattle.std.proofs.Common.{◌≡◌, ℕ, suc, ◌+◌, ◌-◌, ◌*◌, ◌^◌, ◌<◌, ◌≤◌, ap, ◌∙◌, subst, ⊎_elim, arith, pow_pos, pow-suc}
use Rattle.std.specs.Int.{bit_at}
use Rattle.std.proofs.lemmas.Bool.{cases_lt}
use Rattle.std.proofs.lemmas.Nat.Bits.{bit_at-lt, bit_at_ones, bit_at_cat_low, bit_at_cat_high}
use Rattle.su_tableau.proofs.Sets.{IsSub}

-- h followed by i ones is the set; it meets P, and no set that does is less than h followed by i zeros
pub record IsGreedy (P : ℕ → Type 0) (i set : ℕ) : Type 0 where
  pub high : ℕ
  pub is : set + 1 ≡ (high + 1) * 2 ^ i
  pub holds : P set
  pub least : (m : ℕ) → P m → high * 2 ^ i ≤ m

-- what has the same high part is within the set with all ones below
same_high_sub : (h k m : ℕ) → h * 2 ^ k ≤ m → m < (h + 1) * 2 ^ k → IsSub m (h * 2 ^ k + (2 ^ k - 1))
same_high_sub h k m low high i =
    let r : ℕ = m - h * 2 ^ k in
    let e : m ≡ h * 2 ^ k + r = omega arith in
    let small : r < 2 ^ k = omega arith in
    let pos : 0 < 2 ^ k = pow_pos k in
    ⊎_elim
    (λ (lt : i < k).
    let a = bit_at_cat_low h k (2 ^ k - 1) i lt in
    let b = bit_at_ones k i lt in
    let c = bit_at-lt m i in
    omega arith)
    (λ (le : k ≤ i).
    let a = bit_at_cat_high h k (2 ^ k - 1) i (omega arith) le in
    let b = bit_at_cat_high h k r i small le in
    let c : bit_at m i ≡ bit_at (h * 2 ^ k + r) i = ap (λ m. bit_at m i) e in
    omega arith)
    (cases_lt i k)

-- over plain numbers, where p stands for 2 ^ i
drop_is : (h p set : ℕ) → 0 < p → set + 1 ≡ (h + 1) * (p * 2) → set - p + 1 ≡ (2 * h + 1) * p
drop_is h p set pos e = omega arith

drop_least : (h p m : ℕ) → h * (p * 2) ≤ m → (2 * h) * p ≤ m
drop_least h p m l = omega arith

keep_is : (h p set : ℕ) → set + 1 ≡ (h + 1) * (p * 2) → set + 1 ≡ (2 * h + 1 + 1) * p
keep_is h p set e = omega arith

without_is : (h p set : ℕ) → 0 < p → set + 1 ≡ (h + 1) * (p * 2) → (2 * h) * p + (p - 1) ≡ set - p
without_is h p set pos e = omega arith

module _ (P : ℕ → Type 0) (more : (a b : ℕ) → IsSub a b → P a → P b) where
  pub greedy_start : (n set : ℕ) → set + 1 ≡ 2 ^ n → P set → IsGreedy P n set
  greedy_start n set e p = record { high = 0; is = omega arith; holds = p; least = λ m q. omega arith }

  -- the number i can be dropped
  pub greedy_drop : (i set : ℕ) → IsGreedy P (suc i) set → P (set - 2 ^ i) → IsGreedy P i (set - 2 ^ i)
  greedy_drop i set g p =
      let h = g.high in
      let two : 2 ^ suc i ≡ 2 ^ i * 2 = pow-suc 2 i in
      record {
        high = 2 * h;
        is = drop_is h (2 ^ i) set (pow_pos i) (g.is ∙ ap (λ q. (h + 1) * q) two);
        holds = p;
        least = λ m q. drop_least h (2 ^ i) m (subst (λ q. h * q ≤ m) two (g.least m q));
      }

  -- it can't
  pub greedy_keep : (i set : ℕ) → IsGreedy P (suc i) set → (P (set - 2 ^ i) → ⊥) → IsGreedy P i set
  greedy_keep i set g none =
      let h = g.high in
      let two : 2 ^ suc i ≡ 2 ^ i * 2 = pow-suc 2 i in
      let is = g.is ∙ ap (λ q. (h + 1) * q) two in
      record {
        high = 2 * h + 1;
        is = keep_is h (2 ^ i) set is;
        holds = g.holds;
        least = λ m q.
            let low = drop_least h (2 ^ i) m (subst (λ q. h * q ≤ m) two (g.least m q)) in
            ⊎_elim
            (λ (lt : m < (2 * h + 1) * 2 ^ i).
            absurd (none (subst P (without_is h (2 ^ i) set (pow_pos i) is) (more m ((2 * h) * 2 ^ i + (2 ^ i - 1)) (same_high_sub (2 * h) i m low lt) q))))
            (λ (le : (2 * h + 1) * 2 ^ i ≤ m). le)
            (cases_lt m ((2 * h + 1) * 2 ^ i));
      }

  pub greedy_end : (i set : ℕ) → i ≤ 0 → IsGreedy P i set → (m : ℕ) → P m → set ≤ m
  greedy_end i set none g m p =
      let e : i ≡ 0 = omega arith in
      let g' = subst (λ i. IsGreedy P i set) e g in
      let is = g'.is in let l = g'.least m p in omega arith
