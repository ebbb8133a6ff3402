-- The members of maximal objects are objects: those of declared ones by validity, those of grown ones since seeds and what joins are.
use Rattle.std.proofs.Common.{ℕ, ◌≡◌, ◌<◌, List, [], ◌∷◌, ◌++◌, length, All, Contains, IsTrue, true, inl, inr, ⊎_elim, sym, subst, arith}
use Rattle.std.specs.List.{filter, range_with_len}
use Rattle.std.specs.Ordering.{nat_cmp}
use Rattle.std.specs.FinSet.{FinSet, contains, insert, empty, members}
use Rattle.std.proofs.lemmas.Bool.{cases_eq}
use Rattle.std.proofs.lemmas.Bool.Decides.{nat_tests}
use Rattle.std.proofs.lemmas.List.{length-map}
use Rattle.std.proofs.lemmas.List.Elements.{All-contains, Contains-append_cases}
use Rattle.su_base.specs.Sets.{set_at}
use Rattle.su_base.proofs.Items.{All-members, Contains-map_source, Contains-filter_source, Contains-range_below}
use Rattle.su_fd.specs.declared.dependencies.Fd.{Fd}
use Rattle.su_schema.specs.SchemaValue.{SchemaValue}
use Rattle.su_schema.specs.Entries.{attributes_of}
use Rattle.su_schema.specs.Valid.{IsValid, IsSomeBelow}
use Rattle.su_maxobj.specs.Growth.{IsGrowth}
use Rattle.su_maxobj.specs.MaximalObjects.{object_sets, is_listed, computed, AreMaximalObjects}

-- all numbers of the set are below n
abbrev pub IsBelow : ℕ → FinSet nat_cmp → Type 0
IsBelow n s = (k : ℕ) → IsTrue (contains s k) → k < n

below_one : (n o : ℕ) → o < n → IsBelow n (insert empty o)
below_one n o low k one = let same : k ≡ o = grind (arith, members, nat_tests, one) in omega (arith, low, same)

below_inserted : (n o : ℕ) (have : FinSet nat_cmp) → o < n → IsBelow n have → IsBelow n (insert have o)
below_inserted n o have low all k one = elim (cases_eq k o) [
  | inl same ↦ omega (arith, low, same)
  | inr other ↦ let there : contains have k ≡ true = grind (arith, members, nat_tests, one, other) in all k there
]

grown_below : (fds : List Fd) (objects : List (FinSet nat_cmp)) (have : FinSet nat_cmp) (joined : List ℕ) (last : FinSet nat_cmp) → IsBelow (length objects) have → IsGrowth fds objects have joined last → IsBelow (length objects) last
grown_below fds objects have [] last all same = subst (IsBelow (length objects)) same all
grown_below fds objects have (o ∷ os) last all growth = grown_below fds objects (insert have o) os last (below_inserted (length objects) o have growth.0.in_range all) growth.1

module _ (schema : SchemaValue) (valid : IsValid schema) (sets : List (FinSet nat_cmp)) (are : AreMaximalObjects schema sets) where
  abbrev count : ℕ
  count = length schema.objects

  sets_long : length (object_sets schema) ≡ count
  sets_long = length-map schema.objects attributes_of

  of_declared : (m : FinSet nat_cmp) → Contains schema.declared m → IsBelow count m
  of_declared m there = (All-contains (IsSomeBelow count) schema.declared m valid.declared there).below

  of_seed : (seed : ℕ) → seed < count → IsBelow count (set_at are.grown seed)
  of_seed seed low =
      let grown = are.each seed low in
      subst (λ (n : ℕ). IsBelow n (set_at are.grown seed)) sets_long
      (grown_below schema.fds (object_sets schema) (insert empty seed) grown.joined (set_at are.grown seed) (below_one (length (object_sets schema)) seed (omega (arith, low, sets_long))) grown.growth)

  of_computed : (m : FinSet nat_cmp) → Contains (computed schema.declared are.grown) m → IsBelow count m
  of_computed m there =
      let seeds = range_with_len 0 (length are.grown) in
      let w = Contains-map_source (set_at are.grown) (filter (is_listed schema.declared are.grown) seeds) m there in
      let low : w.0 < length are.grown = Contains-range_below (length are.grown) w.0 (Contains-filter_source (is_listed schema.declared are.grown) seeds w.0 w.1).0 in
      subst (IsBelow count) w.2 (of_seed w.0 (let g = are.seeds in omega (arith, low, g)))

  -- all numbers in maximal objects are those of objects
  pub members_are_objects : All (IsBelow count) sets
  members_are_objects =
      subst (All (IsBelow count)) (sym are.sets_are)
      (All-members (IsBelow count) (schema.declared ++ computed schema.declared are.grown) (λ m there.
      ⊎_elim (of_declared m) (of_computed m) (Contains-append_cases schema.declared (computed schema.declared are.grown) m there)))
