-- Sources of objects, gathered one after another.
-- source: the relation of an object, with its columns for some attributes; o: an object, by its number from 0; attributes: by number, ascending
-- No public contract cites this module.
use Rattle.std.specs.Prelude.{◌<◌, ℕ, IsTrue, List, Contains}
use Rattle.std.specs.Ordering.{nat_cmp}
use Rattle.std.specs.FinSet.{FinSet, contains}
use Rattle.su_schema.specs.SchemaValue.{SchemaValue}
use Rattle.su_exec.specs.declared.tasks.Source.{Source}
use Rattle.su_answer.specs.Joined.{IsSourceOf}

-- the sources are those of the objects of the set below n
pub record AreSourcesOf (schema : SchemaValue) (attributes : List ℕ) (n : ℕ) (objects : FinSet nat_cmp) (sources : List Source) : Type 0 where
  pub from : (s : Source) → Contains sources s → (o : ℕ) × (o < n) × IsTrue (contains objects o) × IsSourceOf schema attributes o s
  pub all : (o : ℕ) → o < n → IsTrue (contains objects o) → (s : Source) × Contains sources s × IsSourceOf schema attributes o s
