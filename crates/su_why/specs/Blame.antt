-- Why a term has no rows.
-- kept rows, comparisons: those of a minimised term, joined as a task; the head's outputs are fixed where a row is asked for
-- blame: a least set of rows and comparisons that no valuation meets, or a narrow one
use Rattle.std.specs.Prelude.{List, [], MatchOption, Option}
use Rattle.std.specs.List.{AllZip}
use Rattle.su_base.specs.declared.values.Value.{Value}
use Rattle.su_blame.specs.declared.blaming.Blame.{Blame}
use Rattle.su_blame.specs.Blame.{IsBlame, NoneFails}
use Rattle.su_exec.specs.declared.tasks.Task.{Task}
use Rattle.su_state.specs.DatabaseValue.{DatabaseValue}
use Rattle.su_min.specs.Kept.{Minimised}
use Rattle.su_min.specs.Reduction.{term_at}
use Rattle.su_answer.specs.declared.preparing.Prepared.{Prepared}
use Rattle.su_answer.specs.Joined.{IsTaskOf}
use Rattle.su_answer.specs.Answers.{IsTermAnswer}
use Rattle.su_why.specs.Met.{Asked, IsUnmet, size_of}

-- what is to blame for it that no valuation meets the whole task; none where one does
abbrev pub IsBlameFor : Asked → Option Blame → Type 0
IsBlameFor asked found = MatchOption found (NoneFails (IsUnmet asked) (size_of asked.task)) (IsBlame (IsUnmet asked) (size_of asked.task))

-- the term has no answer
abbrev pub HasNoAnswer : DatabaseValue → Minimised → Type 0
HasNoAnswer db m = (h : List Value) → ¬ IsTermAnswer db m h

-- the term has no answer, and this is why; or it has one
pub record IsWhyEmpty (db : DatabaseValue) (m : Minimised) (found : Option Blame) : Type 0 where
  pub task : Task
  pub is_task : IsTaskOf db.schema m.tableau m.mask task
  pub blame : IsBlameFor (record { tables = db.tables; task = task; fixed = [] }) found
  pub told : MatchOption found (¬ HasNoAnswer db m) (λ b. HasNoAnswer db m)

-- one for each kept term, in order
abbrev pub AreWhyEmpty : DatabaseValue → Prepared → List (Option Blame) → Type 0
AreWhyEmpty db p found = AllZip (λ k f. IsWhyEmpty db (term_at p.minimals k) f) p.reduced.kept found
