-- Targets are passed one after another, in ascending order.
use Rattle.std.proofs.Common.{◌≡◌, ◌≢◌, ℕ, ◌<◌, ◌≤◌, ◌+◌, List, length, get_or, Contains, sym, ap, subst, ◌∙◌, ⊎_elim, arith, below_more}
use Rattle.std.proofs.lemmas.Bool.{cases_lt, cases_eq}
use Rattle.std.proofs.lemmas.List.{get_or_default}
use Rattle.su_base.specs.Lists.{IsAscending, AreExactly}

-- of ts the first q are those of the first i kept numbers that have the property, ascending
pub record Front (P : ℕ → Type 0) (kept ts : List ℕ) (i q : ℕ) : Type 0 where
  pub within : q ≤ length ts
  pub sound : (a : ℕ) → a < q → P (get_or ts a 0) × (b : ℕ) × (b < i) × (get_or kept b 0 ≡ get_or ts a 0)
  pub complete : (b : ℕ) → b < i → P (get_or kept b 0) → (a : ℕ) × (a < q) × (get_or ts a 0 ≡ get_or kept b 0)
  pub ascends : (b : ℕ) → b < q → (a : ℕ) → a < b → get_or ts a 0 < get_or ts b 0

pub front_none : (P : ℕ → Type 0) (kept ts : List ℕ) → Front P kept ts 0 0
front_none P kept ts = record { within = omega arith; sound = λ a h. absurd (omega arith); complete = λ b h. absurd (omega arith); ascends = λ b h. absurd (omega arith) }

pub front_more : (P : ℕ → Type 0) (kept ts : List ℕ) (i q : ℕ) → IsAscending kept → i < length kept → Front P kept ts i q → q < length ts → P (get_or kept i 0) → get_or ts q 0 ≡ get_or kept i 0 → Front P kept ts (i + 1) (q + 1)
front_more P kept ts i q up hi f hq p e = record {
  within = omega arith;
  sound =
      below_more (λ a. P (get_or ts a 0) × (b : ℕ) × (b < i + 1) × (get_or kept b 0 ≡ get_or ts a 0)) q
      (λ a h. let r = f.sound a h in let l = r.2 in (r.0, r.1, omega arith, r.3))
      (subst P (sym e) p, i, omega arith, sym e);
  complete =
      below_more (λ b. P (get_or kept b 0) → (a : ℕ) × (a < q + 1) × (get_or ts a 0 ≡ get_or kept b 0)) i
      (λ b h pb. let r = f.complete b h pb in let l = r.1 in (r.0, omega arith, r.2))
      (λ pb. (q, omega arith, e));
  ascends =
      below_more (λ b. (a : ℕ) → a < b → get_or ts a 0 < get_or ts b 0) q f.ascends
      (λ a h. let r = f.sound a h in let g = r.3 in let u = up r.1 i r.2 hi in omega arith);
}

pub front_skip : (P : ℕ → Type 0) (kept ts : List ℕ) (i q : ℕ) → Front P kept ts i q → (P (get_or kept i 0) → ⊥) → Front P kept ts (i + 1) q
front_skip P kept ts i q f none = record {
  within = f.within;
  sound = λ a h. let r = f.sound a h in let l = r.2 in (r.0, r.1, omega arith, r.3);
  complete = below_more (λ b. P (get_or kept b 0) → (a : ℕ) × (a < q) × (get_or ts a 0 ≡ get_or kept b 0)) i f.complete (λ pb. absurd (none pb));
  ascends = f.ascends;
}

pub front_all : (P : ℕ → Type 0) (kept ts : List ℕ) (i q : ℕ) → length kept ≤ i → length ts ≤ q → Front P kept ts i q → ((j : ℕ) → P j → Contains kept j) → AreExactly P ts
front_all P kept ts i q li lq f into = record {
  ascends = λ a b h l. f.ascends b (omega arith) a h;
  members = λ j. (
    λ has. let r = f.sound has.0 (let l = has.1 in omega arith) in subst P (get_or_default ts has.0 0 j has.1 ∙ has.2) r.0,
    λ p.
        let k = into j p in
        let at : get_or kept k.0 0 ≡ j = get_or_default kept k.0 0 j k.1 ∙ k.2 in
        let r = f.complete k.0 (let l = k.1 in omega arith) (subst P (sym at) p) in
        let low : r.0 < length ts = let l = r.1 in let w = f.within in omega arith in
        (r.0, low, get_or_default ts r.0 j 0 low ∙ r.2 ∙ at),
  );
}

-- a number with the property that stands at or behind place q is that of a later kept number
later : (P : ℕ → Type 0) (kept ts : List ℕ) (i q : ℕ) → AreExactly P ts → ((j : ℕ) → P j → Contains kept j) → Front P kept ts i q → q < length ts → (b : ℕ) × (b < length kept) × (i ≤ b) × (get_or kept b 0 ≡ get_or ts q 0)
later P kept ts i q all into f hq =
    let p : P (get_or ts q 0) = (all.members (get_or ts q 0)).0 (q, hq, get_or_default ts q (get_or ts q 0) 0 hq) in
    let k = into (get_or ts q 0) p in
    let at : get_or kept k.0 0 ≡ get_or ts q 0 = get_or_default kept k.0 0 (get_or ts q 0) k.1 ∙ k.2 in
    ⊎_elim
    (λ (lt : k.0 < i). absurd (let r = f.complete k.0 lt (subst P (sym at) p) in let e = r.2 in let u = all.ascends r.0 q r.1 hq in omega arith))
    (λ (le : i ≤ k.0). (k.0, k.1, le, at))
    (cases_lt k.0 i)

pub front_next : (P : ℕ → Type 0) (kept ts : List ℕ) (i q : ℕ) → IsAscending kept → i < length kept → ((j : ℕ) → P j → Contains kept j) → Front P kept ts i q → P (get_or kept i 0) → AreExactly P ts → (q < length ts) × (get_or ts q 0 ≡ get_or kept i 0)
front_next P kept ts i q up hi into f p all =
    let x = get_or kept i 0 in
    let has = (all.members x).1 p in
    let at : get_or ts has.0 0 ≡ x = get_or_default ts has.0 0 x has.1 ∙ has.2 in
    ⊎_elim
    (λ (lt : has.0 < q). absurd (let r = f.sound has.0 lt in let e = r.3 in let u = up r.1 i r.2 hi in omega arith))
    (λ (le : q ≤ has.0).
    let l = has.1 in
    let low : q < length ts = omega arith in
    let b = later P kept ts i q all into f low in
    let eb = b.3 in
    ⊎_elim
    (λ (same : q ≡ has.0). (low, ap (λ a. get_or ts a 0) same ∙ at))
    (λ (other : q ≢ has.0).
    absurd
    (let u = all.ascends q has.0 (omega arith) l in
    let i_le = b.2 in
    ⊎_elim
    (λ (lt : i < b.0). let v = up i b.0 lt b.1 in omega arith)
    (λ (ge : b.0 ≤ i). let e : b.0 ≡ i = omega arith in let g = ap (λ k. get_or kept k 0) e in omega arith)
    (cases_lt i b.0)))
    (cases_eq q has.0))
    (cases_lt has.0 q)

pub front_end : (P : ℕ → Type 0) (kept ts : List ℕ) (i q : ℕ) → length kept ≤ i → ((j : ℕ) → P j → Contains kept j) → Front P kept ts i q → AreExactly P ts → q ≡ length ts
front_end P kept ts i q li into f all =
    ⊎_elim
    (λ (lt : q < length ts). absurd (let b = later P kept ts i q all into f lt in let l = b.1 in let m = b.2 in omega arith))
    (λ (le : length ts ≤ q). let w = f.within in omega arith)
    (cases_lt q (length ts))
