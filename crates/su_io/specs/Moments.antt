-- The outside of a program at one moment.
-- told: what a shelf or a sink says of itself, or nothing
use Rattle.std.specs.Prelude.{ℕ, List, Option, Bool}
use Rattle.su_io.specs.declared.files.File.{File}

-- of the sink: what was written, the pieces that its calls were handed, and what it has handed over of what was written
pub record Told : Type 0 where
  pub written : Option (List ℕ)
  pub handed : Option (List (List ℕ))
  pub over : Option (List ℕ)

-- of the shelf: its files, the name last begun, the number of bytes taken, whether its last call failed, its count of faults;
-- of the sink: what it tells, its count of faults
pub record Moment : Type 0 where
  pub files : Option (List File)
  pub begun : Option (List ℕ)
  pub taken : ℕ
  pub failed : Bool
  pub reads : ℕ
  pub told : Told
  pub writes : ℕ
