-- Laws of growths and maximal objects, for any dependencies and any objects.
-- growth, maximal object: as in Growth and MaximalObjects
use Rattle.std.specs.Prelude.{◌≡◌, ◌≤◌, ℕ, List, length}
use Rattle.std.specs.Ordering.{nat_cmp}
use Rattle.std.specs.FinSet.{FinSet}
use Rattle.su_fd.specs.declared.Fd.{Fd}
use Rattle.su_schema.specs.SchemaValue.{SchemaValue}
use Rattle.su_schema.specs.Valid.{IsValid}
use Rattle.su_maxobj.specs.Growth.{IsFull, IsGrowth}
use Rattle.su_maxobj.specs.MaximalObjects.{AreMaximalObjects}

-- the lists of the objects that join, one after another, are equal, and so are the sets at their ends
abbrev pub GrowthIsUnique : Type 0
GrowthIsUnique =
    (fds : List Fd) (objects : List (FinSet nat_cmp)) (start s t : FinSet nat_cmp) (os ps : List ℕ)
    → IsGrowth fds objects start os s → IsFull fds objects s → IsGrowth fds objects start ps t → IsFull fds objects t → (os ≡ ps) × (s ≡ t)

-- a schema has at most one list of maximal objects
abbrev pub MaximalObjectsAreUnique : Type 0
MaximalObjectsAreUnique = (schema : SchemaValue) (sets other : List (FinSet nat_cmp)) → AreMaximalObjects schema sets → AreMaximalObjects schema other → other ≡ sets

-- a valid schema has at most 64 declared sets and 64 seeds
abbrev pub MaximalObjectsAreFew : Type 0
MaximalObjectsAreFew = (schema : SchemaValue) (sets : List (FinSet nat_cmp)) → IsValid schema → AreMaximalObjects schema sets → length sets ≤ 128
