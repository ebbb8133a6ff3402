-- A body in two parts, and what a step on one part may rely on.
use Rattle.std.proofs.Common.{◌≡◌, ◌↔◌, ℕ, Bool, true, List}
use Rattle.su_exec.specs.inside.Edges.{Edge, FitsAll, among, has}

-- the body is these two together
abbrev pub Splits : List (Edge ℕ) → List (Edge ℕ) → List (Edge ℕ) → Type 0
Splits es gs rs = (v : ℕ → ℕ) → FitsAll v es ↔ (FitsAll v gs × FitsAll v rs)

-- the variables of gs that are still needed are all among ks
pub record Enough (needed ks : List ℕ) (gs rs : List (Edge ℕ)) : Type 0 where
  pub in_rest : (k : ℕ) → among gs k ≡ true → among rs k ≡ true → has ks k ≡ true
  pub in_needed : (k : ℕ) → among gs k ≡ true → has needed k ≡ true → has ks k ≡ true

-- each variable of the edges is one of these
abbrev pub IsWithin : List (Edge ℕ) → List ℕ → Type 0
IsWithin es ks = (k : ℕ) → among es k ≡ true → has ks k ≡ true

-- the test is the same for valuations that agree on the variables of the edges
abbrev pub IsTestOf : ((ℕ → ℕ) → Bool) → List (Edge ℕ) → Type 0
IsTestOf t es = (v w : ℕ → ℕ) → ((k : ℕ) → among es k ≡ true → v k ≡ w k) → t v ≡ t w
