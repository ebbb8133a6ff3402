-- The longest front whose bytes pass.
use Rattle.std.proofs.Common.{◌≡◌, ◌≤◌, ℕ, Bool, true, false, not, List, [], ◌∷◌, ◌++◌, length, take, drop, refl, ap, sym, ◌∙◌, arith, None, position}
use Rattle.std.specs.List.{prefix_len, list_all, position_or_len}
use Rattle.std.proofs.lemmas.Bool.Decides.{nat_tests}
use Rattle.std.proofs.lemmas.List.{take_at, drop_at}
use Rattle.std.proofs.lemmas.List.Sums.{prefix_len-le-length}
use Rattle.su_lex.specs.Blanks.{begins, IsRun}
use Rattle.std.proofs.lemmas.List.{append_cancel_left}

-- the front that passes, and the rest
pub record Split (p : ℕ → Bool) (xs : List ℕ) : Type 0 where
  pub front : List ℕ
  pub rest : List ℕ
  pub whole : xs ≡ front ++ rest
  pub count : prefix_len p xs ≡ length front
  pub passes : list_all p front ≡ true
  pub ends : begins p rest ≡ false

pub run_split : (p : ℕ → Bool) (xs : List ℕ) → Split p xs
run_split p [] = record { front = []; rest = []; whole = refl; count = refl; passes = refl; ends = refl }
run_split p (x ∷ xs) = elim (p x) as (λ v. p x ≡ v → Split p (x ∷ xs)) [
  | true ↦ λ e. let s = run_split p xs in record {
    front = x ∷ s.front;
    rest = s.rest;
    whole = ap (λ t. x ∷ t) s.whole;
    count = grind (arith, e, s.count);
    passes = grind (arith, e, s.passes);
    ends = s.ends;
  }
  | false ↦ λ e. record { front = []; rest = x ∷ xs; whole = refl; count = grind (arith, e); passes = refl; ends = e }
] refl

-- a front that passes, where what follows doesn't begin with a byte that passes
pub run_is : (p : ℕ → Bool) (a r : List ℕ) → list_all p a ≡ true → begins p r ≡ false → prefix_len p (a ++ r) ≡ length a
run_is p [] [] all ends = refl
run_is p [] (x ∷ r) all ends = grind (arith, ends)
run_is p (x ∷ a) r all ends = elim (p x) as (λ v. p x ≡ v → prefix_len p (x ∷ a ++ r) ≡ length (x ∷ a)) [
  | true ↦ λ e. let rest : list_all p a ≡ true = grind (arith, all, e) in grind (arith, e, run_is p a r rest ends)
  | false ↦ λ e. absurd (grind (arith, e, all))
] refl

pub run_take : (p : ℕ → Bool) (a r : List ℕ) → list_all p a ≡ true → begins p r ≡ false → take (prefix_len p (a ++ r)) (a ++ r) ≡ a
run_take p a r all ends = take_at a r _ (sym (run_is p a r all ends))

same_count : (p : ℕ → Bool) (xs : List ℕ) → position_or_len (λ b. not (p b)) xs ≡ prefix_len p xs
same_count p [] = refl
same_count p (x ∷ xs) = grind (arith, same_count p xs)

pub none_other : (p : ℕ → Bool) (xs : List ℕ) → position (λ b. not (p b)) xs ≡ None → length xs ≡ prefix_len p xs
none_other p xs none =
    let all : length xs ≤ position_or_len (λ b. not (p b)) xs = grind (arith, nat_tests, none) in
    omega (arith, same_count p xs, prefix_len-le-length p xs)

-- a text split behind its longest run of bytes that pass
pub run_at : (p : ℕ → Bool) (xs : List ℕ) (n : ℕ) → n ≡ prefix_len p xs → (xs ≡ take n xs ++ drop n xs) × IsRun p (take n xs) (drop n xs)
run_at p xs n e =
    let s = run_split p xs in
    let count : n ≡ length s.front = e ∙ s.count in
    let front : take n xs ≡ s.front = ap (take n) s.whole ∙ take_at s.front s.rest n (sym count) in
    let rest : drop n xs ≡ s.rest = ap (drop n) s.whole ∙ drop_at s.front s.rest n (sym count) in
    rw (front, rest) (s.whole, record { passes = s.passes; ends = s.ends })

-- what a text begins with in two ways, each a longest run, is the same
pub run_same : (p : ℕ → Bool) (a r b t : List ℕ) → IsRun p a r → IsRun p b t → a ++ r ≡ b ++ t → (a ≡ b) × (r ≡ t)
run_same p a r b t x y e =
    let front : a ≡ b = sym (run_take p a r x.passes x.ends) ∙ ap (λ s. take (prefix_len p s) s) e ∙ run_take p b t y.passes y.ends in
    (front, append_cancel_left b r t (ap (λ s. s ++ r) (sym front) ∙ e))
