-- The maximal objects of a schema: sets of objects, which are told by their numbers.
-- declared: stated in the schema; seed: an object, of which the grown set is what it grows to
-- computed: the grown sets that lie in no declared one and properly in no grown one, of equal ones that of the first seed
use Rattle.std.specs.Prelude.{◌≡◌, ℕ, ◌<◌, Bool, not, ◌&&◌, List, ◌++◌, length, map, filter, take}
use Rattle.std.specs.List.{list_any, range_with_len}
use Rattle.std.specs.Ordering.{nat_cmp}
use Rattle.std.specs.FinSet.{FinSet, is_subset}
use Rattle.su_schema.specs.SchemaValue.{SchemaValue}
use Rattle.su_schema.specs.Entries.{attributes_of}
use Rattle.su_base.specs.Sets.{set_at}
use Rattle.su_maxobj.specs.Growth.{IsGrown}

-- the attributes of each object
abbrev pub object_sets : SchemaValue → List (FinSet nat_cmp)
object_sets schema = map attributes_of schema.objects

-- whether t has all members of s, and another
abbrev pub is_proper_subset : FinSet nat_cmp → FinSet nat_cmp → Bool
is_proper_subset s t = is_subset s t && not (is_subset t s)

-- whether the grown set of this seed is computed: it lies in no declared set, in no grown one of an earlier seed, and properly in no grown one
abbrev pub is_listed : List (FinSet nat_cmp) → List (FinSet nat_cmp) → ℕ → Bool
is_listed declared grown seed =
    not (list_any (is_subset (set_at grown seed)) declared)
    && not (list_any (is_subset (set_at grown seed)) (take seed grown))
    && not (list_any (is_proper_subset (set_at grown seed)) grown)

-- the computed sets, in the order of their seeds
abbrev pub computed : List (FinSet nat_cmp) → List (FinSet nat_cmp) → List (FinSet nat_cmp)
computed declared grown = map (set_at grown) (filter (is_listed declared grown) (range_with_len 0 (length grown)))

-- all declared sets in the order of declaration, then the computed ones
pub record AreMaximalObjects (schema : SchemaValue) (sets : List (FinSet nat_cmp)) : Type 0 where
  pub grown : List (FinSet nat_cmp)
  pub seeds : length grown ≡ length schema.objects
  pub each : (seed : ℕ) → seed < length schema.objects → IsGrown schema.fds (object_sets schema) seed (set_at grown seed)
  pub sets_are : sets ≡ schema.declared ++ computed schema.declared grown
