-- Numbers: so many of them need so many holes, and what an answer of `cmp` says.
use Rattle.std.proofs.Common.{◌≡◌, ◌≢◌, ◌<◌, ◌≤◌, ◌⊎◌, ℕ, zero, suc, true, false, cond, inl, inr, ⊎_elim, eqb, max, arith}
use Rattle.std.specs.Ordering.{nat_cmp, is_lt, is_eq, ord_max}
use Rattle.std.specs.declared.cmp.Ordering.{Ordering}
use Rattle.std.specs.declared.cmp.Ordering.TheVariants.{Less, Equal, Greater}
use Rattle.std.proofs.lemmas.Bool.{cond-true, cond-false, false≢true}
use Rattle.std.proofs.lemmas.Bool.Decides.{eqb_tells, nat_tests}

pub is_lt-Less : (o : Ordering) → is_lt o ≡ true → o ≡ Less
is_lt-Less Less e = search
is_lt-Less Equal e = absurd (false≢true e)
is_lt-Less Greater e = absurd (false≢true e)

pub is_eq-Equal : (o : Ordering) → is_eq o ≡ true → o ≡ Equal
is_eq-Equal Less e = absurd (false≢true e)
is_eq-Equal Equal e = search
is_eq-Equal Greater e = absurd (false≢true e)

pub ord_max-numbers : (a b : ℕ) → ord_max nat_cmp a b ≡ max a b
ord_max-numbers a b = grind (arith, nat_tests)

-- ---- as many holes as numbers

-- the holes, where the number in hole m goes to that of number k
moved : ℕ → ℕ → (ℕ → ℕ) → ℕ → ℕ
moved m k f a = cond (eqb (f a) m) (f k) (f a)

moved_is : (m k : ℕ) (f : ℕ → ℕ) (a : ℕ) → ((f a ≡ m) × (moved m k f a ≡ f k)) ⊎ ((f a ≢ m) × (moved m k f a ≡ f a))
unfolding moved
moved_is m k f a =
    ⊎_elim
    (λ (y : (eqb (f a) m ≡ true) × (f a ≡ m)). inl (y.1, cond-true (eqb (f a) m) (f k) (f a) y.0))
    (λ (n : (eqb (f a) m ≡ false) × (f a ≢ m)). inr (n.1, cond-false (eqb (f a) m) (f k) (f a) n.0))
    (eqb_tells (f a) m)

-- where no two numbers share a hole, there are at most as many numbers as holes
pub pigeonhole : (m n : ℕ) (f : ℕ → ℕ) → ((a : ℕ) → a < n → f a < m) → ((a b : ℕ) → a < b → b < n → f a ≢ f b) → n ≤ m
pigeonhole m zero f low apart = omega arith
pigeonhole zero (suc k) f low apart = absurd (let l = low 0 (omega arith) in omega arith)
pigeonhole (suc m) (suc k) f low apart =
    let lk = low k (omega arith) in
    let r =
    pigeonhole m k (moved m k f)
    (λ a h.
    let la = low a (omega arith) in
    let ak = apart a k h (omega arith) in
    ⊎_elim
    (λ (y : (f a ≡ m) × (moved m k f a ≡ f k)). omega arith)
    (λ (n : (f a ≢ m) × (moved m k f a ≡ f a)). omega arith)
    (moved_is m k f a))
    (λ a b lt h e.
    let ab = apart a b lt (omega arith) in
    let ak = apart a k (omega arith) (omega arith) in
    let bk = apart b k h (omega arith) in
    ⊎_elim
    (λ (y : (f a ≡ m) × (moved m k f a ≡ f k)).
    ⊎_elim
    (λ (z : (f b ≡ m) × (moved m k f b ≡ f k)). absurd (omega arith))
    (λ (z : (f b ≢ m) × (moved m k f b ≡ f b)). absurd (omega arith))
    (moved_is m k f b))
    (λ (y : (f a ≢ m) × (moved m k f a ≡ f a)).
    ⊎_elim
    (λ (z : (f b ≡ m) × (moved m k f b ≡ f k)). absurd (omega arith))
    (λ (z : (f b ≢ m) × (moved m k f b ≡ f b)). absurd (omega arith))
    (moved_is m k f b))
    (moved_is m k f a)) in
    omega arith
