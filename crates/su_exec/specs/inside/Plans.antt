-- Plans: how two lists of rows are joined.
-- plan: which cells of two rows are to be equal, which tests they are to pass, and which cells are kept; place: of a cell in its row, from 0
-- row, other: one on the left and one on the right; r: what they make; rs: the rows on the right
-- bucket: those of the rows whose keys' hashes leave one rest; heads: one for each bucket, 0 where it has no row
-- No public contract cites this module.
use Rattle.std.specs.Prelude.{◌≡◌, ◌<◌, ℕ, Bool, true, List, ◌++◌, length, get_or, All}
use Rattle.su_base.specs.declared.values.Value.{Value}
use Rattle.su_exec.specs.declared.joins.Plan.{Plan}
use Rattle.su_reduce.specs.Chains.{in_bucket, last}
use Rattle.su_reduce.specs.Sheets.{pick, AreBelow}
use Rattle.su_exec.specs.inside.Joins.{Columns, Gives}
use Rattle.su_exec.specs.inside.Checks.{IsTestIn, all_pass}

-- the columns of a plan
abbrev pub columns_of : Plan → Columns
columns_of plan = record { left_key = plan.left_key.items; right_key = plan.right_key.items; left_out = plan.left_out.items; right_out = plan.right_out.items }

-- whether a pair of rows passes the plan's tests
abbrev pub passes_of : List Value → Plan → List ℕ → List ℕ → Bool
passes_of values plan = all_pass values plan.tests.items

-- the places are in rows of these widths
pub record FitsPlan (plan : Plan) (left right : ℕ) : Type 0 where
  pub left_key : AreBelow plan.left_key.items left
  pub right_key : AreBelow plan.right_key.items right
  pub left_out : AreBelow plan.left_out.items left
  pub right_out : AreBelow plan.right_out.items right
  pub keys : length plan.left_key.items ≡ length plan.right_key.items
  pub tests : All (IsTestIn left right) plan.tests.items

-- the row that the plan makes of two rows
abbrev pub made_of : Plan → List ℕ → List ℕ → List ℕ
made_of plan row other = pick plan.left_out.items row ++ pick plan.right_out.items other

-- the two rows have one key, pass the tests, and make the row
pub record IsMade (values : List Value) (plan : Plan) (row other r : List ℕ) : Type 0 where
  pub keys : pick plan.left_key.items row ≡ pick plan.right_key.items other
  pub passes : passes_of values plan row other ≡ true
  pub is : made_of plan row other ≡ r

-- a row on the right gives the row together with this one by the plan
abbrev pub GivesBy : List Value → Plan → List ℕ → List (List ℕ) → List ℕ → Type 0
GivesBy values plan row rs r = Gives row rs (columns_of plan) (passes_of values plan) r

-- each head is the number after the last row of its bucket
abbrev pub AreHeads : Plan → List (List ℕ) → List ℕ → Type 0
AreHeads plan rs heads = (h : ℕ) → h < length heads → get_or heads h 0 ≡ last (in_bucket rs plan.right_key.items (length heads) h) (length rs)
