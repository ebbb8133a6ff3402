-- A set that spreads over the objects that share with it outside x: it reaches exactly what some list of objects reaches.
use Rattle.std.proofs.Common.{ℕ, ◌+◌, ◌<◌, ◌≤◌, ◌≡◌, ◌⊎◌, inl, inr, true, false, not, List, [], ◌∷◌, ◌++◌, length, get_or, All, Contains, arith, refl, sym, ap, ◌∙◌, length-append}
use Rattle.std.specs.Ordering.{nat_cmp}
use Rattle.std.specs.FinSet.{FinSet, contains, union, intersection, is_subset, members}
use Rattle.std.specs.List.{Any}
use Rattle.std.proofs.lemmas.Bool.{cases_lt, false≢true}
use Rattle.std.proofs.lemmas.List.{get_or_default}
use Rattle.std.proofs.lemmas.List.Elements.{All-nil, All-head, All-tail, All-push}
use Rattle.su_base.proofs.Subsets.{subset_at, subset_refl, subset_trans, subset-union_left, subset-union_right, union-subset, not_subset}
use Rattle.su_base.proofs.RemainingSets.{remaining, remaining_lt}
use Rattle.su_maxobj.specs.Apart.{shares, IsChain, Apart}

abbrev Set : Type 0
Set = FinSet nat_cmp

pub shares_by : (x s t : Set) (a : ℕ) → contains s a ≡ true → contains t a ≡ true → contains x a ≡ false → shares x s t ≡ true
shares_by x s t a in_s in_t out =
    elim (is_subset (intersection s t) x) as (λ b. is_subset (intersection s t) x ≡ b → not b ≡ true) [
      | true ↦ λ all. let both : contains (intersection s t) a ≡ true = grind (arith, members, in_s, in_t) in absurd (false≢true (sym out ∙ subset_at _ _ a all both))
      | false ↦ λ _. refl
    ] refl

-- an attribute that two sets share
pub record Common (x s t : Set) : Type 0 where
  pub at : ℕ
  pub in_first : contains s at ≡ true
  pub in_second : contains t at ≡ true
  pub outside : contains x at ≡ false

pub shares_at : (x s t : Set) → shares x s t ≡ true → Common x s t
shares_at x s t h =
    let w : (a : ℕ) × (contains (intersection s t) a ≡ true) × (contains x a ≡ false) = not_subset _ _ (grind (arith, h)) in
    let both : contains (intersection s t) w.0 ≡ true = w.1 in
    record { at = w.0; in_first = grind (arith, members, both); in_second = grind (arith, members, both); outside = w.2 }

-- what a set shares with, a greater one shares with
pub shares_more : (x s t o : Set) → is_subset s t ≡ true → shares x s o ≡ true → shares x t o ≡ true
shares_more x s t o within h =
    let w : Common x s o = shares_at x s o h in
    shares_by x t o w.at (subset_at s t w.at within w.in_first) w.in_second w.outside

-- a chain that ends at o goes on to what o shares with
pub chain_push : (x p t o : Set) (os : List Set) → IsChain x p o os → shares x o t ≡ true → IsChain x p t (os ++ o ∷ [])
chain_push x p t o [] c h = (c, h)
chain_push x p t o (n ∷ os) c h = (c.0, chain_push x n t o os c.1 h)

-- a is in an object at the end of a chain from p
pub record IsReached (objects : List Set) (x p : Set) (a : ℕ) : Type 0 where
  pub object : Set
  pub before : List Set
  pub among : Contains objects object
  pub all : All (Contains objects) before
  pub chain : IsChain x p object before
  pub has : contains object a ≡ true

-- each member of a set is p's, or a chain from p reaches it
abbrev pub ComesFrom : List Set → Set → Set → Set → Type 0
ComesFrom objects x p s = (a : ℕ) → contains s a ≡ true → (contains p a ≡ true) ⊎ IsReached objects x p a

-- what a set that comes from p shares with is reached
pub reach : (objects : List Set) (x p s o : Set) → ComesFrom objects x p s → shares x s o ≡ true → (os : List Set) × All (Contains objects) os × IsChain x p o os
reach objects x p s o from h =
    let w : Common x s o = shares_at x s o h in
    elim (from w.at w.in_first) [
      | inl in_p ↦ ([], All-nil (Contains objects), shares_by x p o w.at in_p w.in_second w.outside)
      | inr r ↦ (r.before ++ r.object ∷ [], All-push (Contains objects) r.before r.object r.all r.among, chain_push x p o r.object r.before r.chain (shares_by x r.object o w.at r.has w.in_second w.outside))
    ]

-- where an object shares both with such a set and with q, p and q aren't apart
pub not_apart : (objects : List Set) (x p q s o : Set) → ComesFrom objects x p s → Contains objects o → shares x s o ≡ true → shares x o q ≡ true → ¬ Apart objects x p q
not_apart objects x p q s o from among near far apart =
    let r : (os : List Set) × All (Contains objects) os × IsChain x p o os = reach objects x p s o from near in
    apart (r.0 ++ o ∷ []) (omega (arith, length-append r.0 (o ∷ []))) (All-push (Contains objects) r.0 o r.1 among) (chain_push x p q o r.0 r.2 far)

-- where every object that shares with s is within s, a chain from within s to q has an object that shares with s and with q
chain_ends : (objects : List Set) (x s q r : Set) → ((o : Set) → Contains objects o → shares x s o ≡ true → is_subset o s ≡ true) → is_subset r s ≡ true
    → (os : List Set) → 0 < length os → All (Contains objects) os → IsChain x r q os → (o : Set) × Contains objects o × (shares x s o ≡ true) × (shares x o q ≡ true)
chain_ends objects x s q r closed within [] some all c = absurd (omega arith)
chain_ends objects x s q r closed within (o ∷ []) some all c =
    let among : Contains objects o = All-head (Contains objects) o [] all in
    (o, among, shares_more x r s o within c.0, c.1)
chain_ends objects x s q r closed within (o ∷ n ∷ ns) some all c =
    let among : Contains objects o = All-head (Contains objects) o (n ∷ ns) all in
    let meets : shares x s o ≡ true = shares_more x r s o within c.0 in
    chain_ends objects x s q o closed (closed o among meets) (n ∷ ns) (omega arith) (All-tail (Contains objects) o (n ∷ ns) all) c.1

-- some object was not within the set and is now
abbrev pub Gains : List Set → Set → Set → Type 0
Gains objects r w = Any (λ o. (is_subset o r ≡ false) × (is_subset o w ≡ true)) objects

-- an object is within the set, and doesn't share with q
pub record IsTaken (x q w o : Set) : Type 0 where
  pub within : is_subset o w ≡ true
  pub far : shares x o q ≡ false

-- w is what a pass has made of r before the i-th object; none of the earlier ones leads to q
pub record IsSpread (objects : List Set) (x p q r : Set) (i : ℕ) (w : Set) : Type 0 where
  pub grown : is_subset r w ≡ true
  pub from : ComesFrom objects x p w
  pub taken : (k : ℕ) (d : Set) → k < i → shares x r (get_or objects k d) ≡ true → IsTaken x q w (get_or objects k d)
  pub progress : (is_subset w r ≡ true) ⊎ Gains objects r w

pub spread_start : (objects : List Set) (x p q r : Set) → ComesFrom objects x p r → IsSpread objects x p q r 0 r
spread_start objects x p q r from = record { grown = subset_refl r; from = from; taken = λ k d h near. absurd (omega arith); progress = inl (subset_refl r) }

-- the i-th object is o
module _ (objects : List Set) (x p q r w : Set) (i : ℕ) (o : Set) (before : IsSpread objects x p q r i w) (inside : i < length objects) (is : o ≡ get_or objects i o) where
  read : (k : ℕ) (d : Set) → k ≡ i → get_or objects k d ≡ o
  read k d e = ap (λ n. get_or objects n d) e ∙ get_or_default objects i d o inside ∙ sym is

  pub spread_skip : shares x w o ≡ false → IsSpread objects x p q r (i + 1) w
  spread_skip out = record {
    grown = before.grown;
    from = before.from;
    taken = λ k d h near. elim (cases_lt k i) [
      | inl lt ↦ before.taken k d lt near
      | inr ge ↦ absurd (false≢true (sym out ∙ shares_more x r w o before.grown (ap (shares x r) (sym (read k d (omega arith))) ∙ near)))
    ];
    progress = before.progress;
  }

  pub spread_push : shares x w o ≡ true → shares x o q ≡ false → (t : Set) → t ≡ union w o → IsSpread objects x p q r (i + 1) t
  spread_push near far t t_is =
      let wider : is_subset w t ≡ true = rw t_is (subset-union_left w o) in
      let gained : is_subset o t ≡ true = rw t_is (subset-union_right w o) in
      record {
        grown = subset_trans r w t before.grown wider;
        from = λ a one.
            let at : contains (union w o) a ≡ true = ap (λ z. contains z a) (sym t_is) ∙ one in
            elim (contains w a) as (λ b. contains w a ≡ b → (contains p a ≡ true) ⊎ IsReached objects x p a) [
              | true ↦ λ old. before.from a old
              | false ↦ λ new.
                  let c : (os : List Set) × All (Contains objects) os × IsChain x p o os = reach objects x p w o before.from near in
                  inr (record { object = o; before = c.0; among = (i, inside, sym is); all = c.1; chain = c.2; has = grind (arith, members, at, new) })
            ] refl;
        taken = λ k d h close. elim (cases_lt k i) [
          | inl lt ↦ let old : IsTaken x q w (get_or objects k d) = before.taken k d lt close in record { within = subset_trans _ w t old.within wider; far = old.far }
          | inr ge ↦ rw (read k d (omega arith)) (record { within = gained; far = far })
        ];
        progress = elim (is_subset o r) as (λ b. is_subset o r ≡ b → (is_subset t r ≡ true) ⊎ Gains objects r t) [
          | false ↦ λ new. inr (i, o, inside, sym is, (new, gained))
          | true ↦ λ old. elim before.progress [
            | inl all ↦ inl (rw t_is (union-subset w o r all old))
            | inr g ↦ inr (g.0, g.1, g.2, g.3, (g.4.0, subset_trans g.1 w t g.4.1 wider))
          ]
        ] refl;
      }

-- a pass over all objects that adds nothing, from a set that includes p: p and q are apart
pub spread_apart : (objects : List Set) (x p q r w : Set) (i : ℕ) → is_subset p r ≡ true → IsSpread objects x p q r i w → length objects ≤ i → is_subset w r ≡ true → Apart objects x p q
spread_apart objects x p q r w i over after end back os some all chain =
    let taken : (o : Set) → Contains objects o → shares x r o ≡ true → IsTaken x q w o = λ o (k, inside, is) near.
    rw is at (after.taken k o (omega arith) (ap (shares x r) is ∙ near))
    in
    let c : (o : Set) × Contains objects o × (shares x r o ≡ true) × (shares x o q ≡ true) =
    chain_ends objects x r q p (λ o among near. subset_trans o w r (taken o among near).within back) over os some all chain
    in
    false≢true (sym (taken c.0 c.1 c.2).far ∙ c.3)

-- a pass that adds leaves fewer objects to add
pub gains_smaller : (objects : List Set) (r w : Set) → is_subset r w ≡ true → Gains objects r w → remaining (λ o. o) objects w < remaining (λ o. o) objects r
gains_smaller objects r w grown g =
    remaining_lt (λ o. o) objects r w g.0 g.1 grown g.2 (ap (λ z. is_subset z r) g.3 ∙ g.4.0) (ap (λ z. is_subset z w) g.3 ∙ g.4.1)
