-- How deep parentheses stand, symbol after symbol.
-- nests: from depth i to depth j, and never deeper than d
use Rattle.std.proofs.Common.{◌≡◌, ℕ, zero, suc, ◌+◌, ◌≤◌, Bool, false, cond, List, [], ◌∷◌, ◌++◌, take, flat_map, All, Contains, refl, arith}
use Rattle.std.specs.List.{count_by}
use Rattle.std.proofs.lemmas.List.Sums.{sum_by-cons}
use Rattle.std.proofs.lemmas.List.Elements.{All-head, All-tail}
use Rattle.su_base.proofs.Items.{Contains-head, Contains-later}
use Rattle.su_lex.specs.declared.meaning.Symbol.{Symbol}
use Rattle.su_lex.specs.declared.meaning.Symbol.TheVariants.{Sign}
use Rattle.su_lex.specs.declared.signs.Sign.TheVariants as sign
use Rattle.su_lex.specs.Nesting.{is_open, is_close, IsDeep}

abbrev one_if : Bool → ℕ
one_if b = cond b 1 0

pub record IsStep (d : ℕ) (x : Symbol) (i k : ℕ) : Type 0 where
  pub within : k ≤ d
  pub level : i + one_if (is_open x) ≡ k + one_if (is_close x)

abbrev pub Nests : ℕ → ℕ → List Symbol → ℕ → Type 0
Nests d i [] j = i ≡ j
Nests d i (x ∷ xs) j = (k : ℕ) × IsStep d x i k × Nests d k xs j

pub nests_append : (d i j k : ℕ) (xs ys : List Symbol) → Nests d i xs j → Nests d j ys k → Nests d i (xs ++ ys) k
nests_append d i j k [] ys h g = rw h g
nests_append d i j k (x ∷ xs) ys h g = (h.0, h.1, nests_append d h.0 j k xs ys h.2 g)

-- neither parenthesis
pub record IsPlain (x : Symbol) : Type 0 where
  pub no_open : is_open x ≡ false
  pub no_close : is_close x ≡ false

pub nests_plain : (d i : ℕ) (xs : List Symbol) → i ≤ d → All IsPlain xs → Nests d i xs i
nests_plain d i [] h all = refl
nests_plain d i (x ∷ xs) h all =
    let p = All-head IsPlain x xs all in
    (i, record { within = h; level = rw (p.no_open, p.no_close) refl }, nests_plain d i xs h (All-tail IsPlain x xs all))

pub nests_parens : (d i : ℕ) (xs : List Symbol) → i + 1 ≤ d → Nests d (i + 1) xs (i + 1) → Nests d i (Sign sign.Open ∷ (xs ++ Sign sign.Close ∷ [])) i
nests_parens d i xs h g =
    let o : i + 1 ≡ i + 1 + 0 = omega arith in
    let c : i + 1 + 0 ≡ i + 1 = omega arith in
    (i + 1, record { within = h; level = o }, nests_append d (i + 1) (i + 1) i xs (Sign sign.Close ∷ []) g (i, record { within = omega arith; level = c }, refl))

pub nests_flat : {X : Type 0} (f : X → List Symbol) (d i : ℕ) (xs : List X) → ((x : X) → Contains xs x → Nests d i (f x) i) → Nests d i (flat_map f xs) i
nests_flat f d i [] h = refl
nests_flat f d i (x ∷ xs) h = nests_append d i i i (f x) (flat_map f xs) (h x (Contains-head x xs)) (nests_flat f d i xs (λ y has. h y (Contains-later x xs y has)))

levels : (d i j : ℕ) (xs : List Symbol) (n : ℕ) → i ≤ d → Nests d i xs j → count_by is_open (take n xs) + i ≤ count_by is_close (take n xs) + d
levels d i j xs zero h g = omega (arith, h)
levels d i j [] (suc n) h g = omega (arith, h)
levels d i j (x ∷ xs) (suc n) h g =
    let r = levels d g.0 j xs n g.1.within g.2 in
    let o = sum_by-cons (λ (x : Symbol). cond (is_open x) 1 0) x (take n xs) in
    let c = sum_by-cons (λ (x : Symbol). cond (is_close x) 1 0) x (take n xs) in
    let l = g.1.level in
    omega arith

pub not_deep : (xs : List Symbol) → Nests 64 0 xs 0 → IsDeep xs → ⊥
not_deep xs h deep = let l = levels 64 0 0 xs deep.0 (omega arith) h in let k = deep.2 in absurd (omega arith)
