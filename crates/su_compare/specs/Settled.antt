-- What becomes of a term that is compared with the terms of another query.
-- settled: its chase clashes, or a term of the other maps into the chased one; unsettled: neither
use Rattle.std.specs.Prelude.{◌≡◌, ℕ, ◌+◌, ◌<◌, ◌^◌, List, [], map, length, get_or, Option, Some, None}
use Rattle.su_base.specs.declared.values.Value.{Value}
use Rattle.su_fd.specs.declared.dependencies.Fd.{Fd}
use Rattle.su_tableau.specs.Tableaux.{Tab}
use Rattle.su_tableau.specs.Mapping.{Maps}
use Rattle.su_map.specs.Lists.{Certified, IsFirst}
use Rattle.su_chase.specs.Chase.{IsClash}
use Rattle.su_chase.specs.Chased.{IsChased}
use Rattle.su_steps.specs.declared.results.Term.{Term}
use Rattle.su_compare.specs.declared.verdicts.Found.{Found}

-- the tableau of the term with this number
abbrev pub tab_at : List Term → ℕ → Tab
tab_at terms i = get_or (map (λ t. t.tableau) terms) i (record { width = 0; rows = []; head = []; outputs = 0; operators = [] })

-- the first mapping of all rows of s into all rows of c
pub record IsFirstOfAllRows (s c : Tab) (m : Certified) : Type 0 where
  pub from : m.from ≡ s
  pub from_all : m.from_mask + 1 ≡ 2 ^ length s.rows
  pub to : m.to ≡ c
  pub to_all : m.to_mask + 1 ≡ 2 ^ length c.rows
  pub first : IsFirst s m.from_mask c m.to_mask m.list

-- the least of the terms that maps into c, by the first mapping
pub record IsFound (terms : List Term) (c : Tab) (f : Found) : Type 0 where
  pub below : f.term < length terms
  pub mapping : IsFirstOfAllRows (tab_at terms f.term) c f.mapping
  pub least : (j : ℕ) → j < f.term → ¬ Maps (tab_at terms j) c

-- two constants meet in a class
abbrev pub Clashes : List Fd → Tab → Type 0
Clashes fds t = (less : Value) × (greater : Value) × IsClash fds t.rows less greater

-- why t is settled: none says that it clashes
abbrev pub IsBy : List Fd → List Term → Tab → Option Found → Type 0
IsBy fds second t None = Clashes fds t
IsBy fds second t (Some f) = (c : Tab) × IsChased fds t c × IsFound second c f

-- there is a reason why the term's answers are among those of the second query
abbrev pub IsSettled : List Fd → List Term → Tab → Type 0
IsSettled fds second t = (by : Option Found) × IsBy fds second t by

-- c is the chased tableau of t, and no term maps into it
pub record IsUnsettled (fds : List Fd) (second : List Term) (t c : Tab) : Type 0 where
  pub chased : IsChased fds t c
  pub none : (j : ℕ) → j < length second → ¬ Maps (tab_at second j) c
