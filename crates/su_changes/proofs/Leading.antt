-- Changes one after another: none lead to the same rows, and those of two steps lead all the way.
use Rattle.std.proofs.Common.{◌⊎◌, inl, inr, ⊎_elim, ℕ, Bool, true, false, List, [], ◌∷◌, ◌++◌, Contains}
use Rattle.su_base.specs.declared.values.Value.{Value}
use Rattle.su_state.specs.DatabaseValue.{DatabaseValue, rows_of}
use Rattle.su_changes.specs.declared.changes.Change.{Change}
use Rattle.su_changes.specs.Changes.{Rows, AreSame, ChangesRows, MakesChange, MakesChanges, LeadTo}

pub same-self : (rows : List (List Value)) → AreSame rows rows
same-self rows row = (λ has. has, λ has. has)

pub same-then : (a b c : List (List Value)) → AreSame a b → AreSame b c → AreSame a c
same-then a b c first second row = (λ has. (first row).0 ((second row).0 has), λ has. (second row).1 ((first row).1 has))

-- what changes the rows changes the same rows in other places
changes-same : (is_in : Bool) (rows a b c : List (List Value)) → AreSame a b → ChangesRows is_in rows b c → ChangesRows is_in rows a c
changes-same true rows a b c same made = λ row. (
  λ has. ⊎_elim (λ (was : Contains b row). inl ((same row).0 was)) (λ (more : Contains rows row). inr more) ((made row).0 has),
  λ has. (made row).1 (⊎_elim (λ (was : Contains a row). inl ((same row).1 was)) (λ (more : Contains rows row). inr more) has),
)
changes-same false rows a b c same made = λ row. (
  λ has. let it = (made row).0 has in ((same row).0 it.0, it.1),
  λ has. (made row).1 ((same row).1 has.0, has.1),
)

from-same : (a b c : Rows) (changes : List Change) → ((r : ℕ) → AreSame (a r) (b r)) → MakesChanges b changes c → MakesChanges a changes c
from-same a b c [] same made = λ r. same-then (a r) (b r) (c r) (same r) (made r)
from-same a b c (change ∷ changes) same (between, (own, others), later) = (
  between,
  (
    changes-same change.is_in change.rows (a change.relation) (b change.relation) (between change.relation) (same change.relation) own,
    λ r other. same-then (a r) (b r) (between r) (same r) (others r other),
  ),
  later,
)

makes-then : (a b c : Rows) (changes more : List Change) → MakesChanges a changes b → MakesChanges b more c → MakesChanges a (changes ++ more) c
makes-then a b c [] more first second = from-same a b c more first second
makes-then a b c (change ∷ changes) more (between, one, later) second = (between, one, makes-then between b c changes more later second)

-- none lead from a database to itself
pub LeadTo-self : (db : DatabaseValue) → LeadTo db [] db
LeadTo-self db r = same-self (rows_of db r)

-- those that lead to the next, and then those that lead on
pub LeadTo-then : (before between after : DatabaseValue) (changes more : List Change) → LeadTo before changes between → LeadTo between more after → LeadTo before (changes ++ more) after
LeadTo-then before between after changes more = makes-then (λ r. rows_of before r) (λ r. rows_of between r) (λ r. rows_of after r) changes more

-- one change is a list of one
pub LeadTo-one : (before after : DatabaseValue) (change : Change) → MakesChange (λ r. rows_of before r) change (λ r. rows_of after r) → LeadTo before (change ∷ []) after
LeadTo-one before after change one = ((λ r. rows_of after r), one, λ r. same-self (rows_of after r))
