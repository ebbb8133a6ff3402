-- Why a row is no answer of a term.
-- pinned: each output of the head is to have the row's value
use Rattle.std.specs.Prelude.{◌≡◌, ◌↔◌, ℕ, List, slice_get, Contains, Option, Some, None}
use Rattle.std.specs.List.{AllZip}
use Rattle.su_base.specs.declared.values.Value.{Value}
use Rattle.su_where.specs.declared.operators.Op.TheVariants.{Equal}
use Rattle.su_tableau.specs.declared.symbols.Sym.{Sym}
use Rattle.su_tableau.specs.declared.symbols.Sym.TheVariants.{Const}
use Rattle.su_blame.specs.declared.blaming.Blame.{Blame}
use Rattle.su_exec.specs.declared.tasks.Compared.{Compared}
use Rattle.su_exec.specs.declared.tasks.Task.{Task}
use Rattle.su_state.specs.DatabaseValue.{DatabaseValue}
use Rattle.su_min.specs.Kept.{Minimised}
use Rattle.su_min.specs.Reduction.{term_at}
use Rattle.su_answer.specs.declared.preparing.Prepared.{Prepared}
use Rattle.su_answer.specs.Joined.{IsTaskOf}
use Rattle.su_answer.specs.Answers.{IsTermAnswer}
use Rattle.su_why.specs.declared.refusals.WhyNot.{WhyNot}
use Rattle.su_why.specs.declared.refusals.WhyNot.TheVariants.{Head, Rows}
use Rattle.su_why.specs.Heads.{IsFirstClash, HaveNoClash}
use Rattle.su_why.specs.Blame.{IsBlameFor}

-- the output is to have the value
abbrev pub pin : Sym → Value → Compared
pin x w = record { left = x; op = Equal; right = Const w }

-- the comparison pins an output to the row's value beside it
pub record IsPin (outputs : List Sym) (h : List Value) (c : Compared) : Type 0 where
  pub place : ℕ
  pub output : Sym
  pub value : Value
  pub stands : slice_get outputs place ≡ Some output
  pub beside : slice_get h place ≡ Some value
  pub is : c ≡ pin output value

-- each output is pinned
abbrev pub ArePins : List Sym → List Value → List Compared → Type 0
ArePins outputs h fixed = (c : Compared) → Contains fixed c ↔ IsPin outputs h c

-- no clash, and what is to blame where each output is pinned
pub record IsPinnedBlame (db : DatabaseValue) (h : List Value) (task : Task) (found : Option Blame) : Type 0 where
  pub no_clash : HaveNoClash task.outputs h
  pub fixed : List Compared
  pub pins : ArePins task.outputs h fixed
  pub blame : IsBlameFor (record { tables = db.tables; task = task; fixed = fixed }) found

-- the head clashes with the row first at this place, or what is to blame for it that no valuation gives the row; none where one does
abbrev pub IsWhyNotBy : DatabaseValue → List Value → Task → WhyNot → Type 0
IsWhyNotBy db h task (Head place) = IsFirstClash task.outputs h place
IsWhyNotBy db h task (Rows found) = IsPinnedBlame db h task found

-- whether it tells that the row is no answer
abbrev pub Denies : WhyNot → Type 0 → Type 0
Denies (Head place) P = ¬ P
Denies (Rows None) P = ¬ ¬ P
Denies (Rows (Some blame)) P = ¬ P

-- why the row is no answer of the term, or that it is one
pub record IsWhyNot (db : DatabaseValue) (h : List Value) (m : Minimised) (why : WhyNot) : Type 0 where
  pub task : Task
  pub is_task : IsTaskOf db.schema m.tableau m.mask task
  pub by : IsWhyNotBy db h task why
  pub told : Denies why (IsTermAnswer db m h)

-- one for each kept term, in order
abbrev pub AreWhyNot : DatabaseValue → Prepared → List Value → List WhyNot → Type 0
AreWhyNot db p h whys = AllZip (λ k why. IsWhyNot db h (term_at p.minimals k) why) p.reduced.kept whys
