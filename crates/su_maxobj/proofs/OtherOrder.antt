-- Dependencies in another order: the closures, and all that is said by them, are the same.
use Rattle.std.proofs.Common.{ℕ, ◌+◌, ◌<◌, ◌≡◌, inl, inr, zero, suc, cond, Bool, true, false, List, [], ◌∷◌, ◌++◌, length, set, get_or, All, Contains, IsTrue, Some, Result, Ok, Err, IfOk, lit<, arith, refl, sym, ap, ◌∙◌}
use Rattle.std.specs.List.{slice_get}
use Rattle.std.specs.Option.{unwrap_or}
use Rattle.std.proofs.lemmas.Option.{unwrap_or-slice_get, slice_get_within}
use Rattle.std.specs.Ordering.{nat_cmp}
use Rattle.std.specs.FinSet.{FinSet, insert, is_subset, empty}
use Rattle.std.proofs.lemmas.Bool.{cases_eq}
use Rattle.std.proofs.lemmas.List.{get_or-set_other, get_or_default}
use Rattle.std.proofs.lemmas.List.Elements.{All-contains, All-push, Contains-append_left, Contains-append_right}
use Rattle.su_fd.specs.declared.Fd.{Fd}
use Rattle.su_fd.specs.Closure.{IsClosed, IsClosureOf}
use Rattle.su_base.specs.Sets.{set_at}
use Rattle.su_maxobj.specs.AdjoinableObjects.{HangTogether, Adjoinable}
use Rattle.su_maxobj.specs.Growth.{IsFirstAdjoinable, IsGrowth, IsGrown}
use Rattle.su_maxobj.specs.inside.Ordered.{HaveSameMembers}

-- how many flags are set
abbrev pub waiting_count : List Bool → ℕ
waiting_count [] = 0
waiting_count (w ∷ ws) = cond w 1 0 + waiting_count ws

pub waiting_less : (ws : List Bool) (i : ℕ) → i < length ws → get_or ws i true ≡ true → waiting_count (set ws i false) < waiting_count ws
waiting_less [] i h one = absurd (omega arith)
waiting_less (w ∷ ws) zero h one = grind (arith, one)
waiting_less (w ∷ ws) (suc i) h one = let later : i < length ws = omega arith in grind (arith, waiting_less ws i later one)

-- a step: the i-th dependency waits, and goes to the end of the list
module _ (fds list more : List Fd) (ws : List Bool) (i : ℕ) (f : Fd) (found : slice_get ws i ≡ Some true) (flags : length ws ≡ length fds) (is : f ≡ get_or fds i f) (more_is : more ≡ list ++ f ∷ []) where
  pub place_less : waiting_count (set ws i false) < waiting_count ws
  place_less = waiting_less ws i (slice_get_within ws i true found) (sym (unwrap_or-slice_get ws i true) ∙ ap (λ o. unwrap_or o true) found)

  inside : i < length fds
  inside = let within : i < length ws = slice_get_within ws i true found in omega (arith, flags)

  pub place_from : All (Contains fds) list → All (Contains fds) more
  place_from all = rw more_is (All-push (Contains fds) list f all (i, inside, sym is))

  pub place_all : ((k : ℕ) (d : Fd) → k < length fds → get_or ws k true ≡ false → Contains list (get_or fds k d)) → (k : ℕ) (d : Fd) → k < length fds → get_or (set ws i false) k true ≡ false → Contains more (get_or fds k d)
  place_all placed k d h off = rw more_is (elim (cases_eq k i) [
    | inl same ↦
        let own : get_or fds k d ≡ f = ap (λ n. get_or fds n d) same ∙ get_or_default fds i d f inside ∙ sym is in
        rw own (Contains-append_right list (f ∷ []) f (0, lit< tt, refl))
    | inr other ↦ Contains-append_left list (f ∷ []) (get_or fds k d) (placed k d h (sym (get_or-set_other ws i k false true other) ∙ off))
  ])

-- all members of others are members of fds: what is closed under fds is closed under others
closed_under : (fds others : List Fd) (s : FinSet nat_cmp) → All (Contains fds) others → IsClosed fds s → IsClosed others s
closed_under fds others s among closed k d h = All-contains (λ f. IsTrue (is_subset f.left s) → IsTrue (is_subset f.right s)) fds (get_or others k d) closed (among k d h)

module _ (fds others : List Fd) (same : HaveSameMembers fds others) where
  closure_same : (x c : FinSet nat_cmp) → IsClosureOf fds x c → IsClosureOf others x c
  closure_same x c is a = (
    λ one s closed within. (is a).0 one s (closed_under others fds s same.among_second closed) within,
    λ all. (is a).1 (λ s closed within. all s (closed_under fds others s same.among_first closed) within),
  )

  hang_same : (objects : List (FinSet nat_cmp)) (s t : FinSet nat_cmp) → HangTogether fds objects s t → HangTogether others objects s t
  hang_same objects s t h = record { shared = h.shared; closed = h.closed; closed_is = closure_same _ _ h.closed_is; apart = h.apart }

  adjoinable_same : (objects : List (FinSet nat_cmp)) (have : FinSet nat_cmp) (o : ℕ) → Adjoinable fds objects have o → Adjoinable others objects have o
  adjoinable_same objects have o adj = record { outside = adj.outside; attributes = adj.attributes; attributes_is = adj.attributes_is; together = hang_same objects _ _ adj.together }

turned : (fds others : List Fd) → HaveSameMembers fds others → HaveSameMembers others fds
turned fds others same = record { among_first = same.among_second; among_second = same.among_first }

module _ (fds others : List Fd) (same : HaveSameMembers fds others) (objects : List (FinSet nat_cmp)) where
  first_same : (have : FinSet nat_cmp) (o : ℕ) → IsFirstAdjoinable fds objects have o → IsFirstAdjoinable others objects have o
  first_same have o first = record {
    in_range = first.in_range;
    adjoinable = adjoinable_same fds others same objects have o first.adjoinable;
    earlier = λ k h adj. first.earlier k h (adjoinable_same others fds (turned fds others same) objects have k adj);
  }

  growth_same : (have last : FinSet nat_cmp) (os : List ℕ) → IsGrowth fds objects have os last → IsGrowth others objects have os last
  growth_same have last [] g = g
  growth_same have last (o ∷ os) g = (first_same have o g.0, growth_same (insert have o) last os g.1)

  pub grown_same : (seed : ℕ) (last : FinSet nat_cmp) → IsGrown fds objects seed last → IsGrown others objects seed last
  grown_same seed last g = record {
    joined = g.joined;
    growth = growth_same (insert empty seed) last g.joined g.growth;
    full = λ k h adj. g.full k h (adjoinable_same others fds (turned fds others same) objects last k adj);
  }

-- what each object grows to is the same under dependencies in another order
pub grown_by_others : {E : Type 0} (fds others : List Fd) (objects : List (FinSet nat_cmp)) → HaveSameMembers fds others → (r : Result (List (FinSet nat_cmp)) E)
    → IfOk r (λ grown. (seed : ℕ) → seed < length objects → IsGrown others objects seed (set_at grown seed)) → IfOk r (λ grown. (seed : ℕ) → seed < length objects → IsGrown fds objects seed (set_at grown seed))
grown_by_others fds others objects same (Ok grown) each = λ seed h. grown_same others fds (turned fds others same) objects seed (set_at grown seed) (each seed h)
grown_by_others fds others objects same (Err e) each = tt
