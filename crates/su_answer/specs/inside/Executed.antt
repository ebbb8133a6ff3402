-- What the jobs of kept terms give, one after another.
-- kept term: one that the union of a query's terms keeps; m: a term with its kept rows and its fold; job: such a term over a database
-- tables: the stored relations, by number; h: the values of a head; found: the rows that one join gives, none where they are too many
-- No public contract cites this module.
use Rattle.std.specs.Prelude.{◌≡◌, ◌⊎◌, List, Contains, MatchOption, Some, None}
use Rattle.su_base.specs.declared.values.Value.{Value}
use Rattle.su_rel.specs.Stored.{Stored}
use Rattle.su_exec.specs.declared.tasks.Task.{Task}
use Rattle.su_exec.specs.Outputs.{IsOutput, AreOutputs}
use Rattle.su_state.specs.DatabaseValue.{DatabaseValue}
use Rattle.su_min.specs.Kept.{Minimised}
use Rattle.su_answer.specs.declared.found.Found.{Found}
use Rattle.su_answer.specs.Answers.{IsTermAnswer}
use Rattle.su_rel.specs.ExactRows.{AreExactlyRows}
use Rattle.su_rel.specs.MoreThan.{AreMoreThan}

-- a task and the tables over which it is joined
pub record Join : Type 0 where
  pub tables : List Stored
  pub task : Task

-- the outputs of the task, or there are more than there may be
abbrev pub IsFound : Join → Found → Type 0
IsFound join found = MatchOption found.rows (AreMoreThan 1000000 (IsOutput join.tables join.task)) (AreOutputs join.tables join.task)

-- a minimised term of a query, and the database over which its rows are joined
pub record TermOver : Type 0 where
  pub db : DatabaseValue
  pub minimal : Minimised

-- exactly the term's answers, ascending
abbrev pub AreTermAnswers : DatabaseValue → Minimised → List (List Value) → Type 0
AreTermAnswers db m rows = AreExactlyRows (IsTermAnswer db m) rows

-- the answers of a term, or there are more than there may be
abbrev pub IsFoundFor : DatabaseValue → Minimised → Found → Type 0
IsFoundFor db m found = MatchOption found.rows (AreMoreThan 1000000 (IsTermAnswer db m)) (AreTermAnswers db m)

-- one of the lists has the row
pub record IsInSome (lists : List Found) (h : List Value) : Type 0 where
  pub found : Found
  pub member : Contains lists found
  pub rows : List (List Value)
  pub is : found.rows ≡ Some rows
  pub has : Contains rows h

-- a list is missing, or these rows and those of the lists are more than an answer may have
abbrev pub ArePastLimit : List (List Value) → List Found → Type 0
ArePastLimit rows lists = ((found : Found) × Contains lists found × (found.rows ≡ None)) ⊎ AreMoreThan 1000000 (λ h. Contains rows h ⊎ IsInSome lists h)
