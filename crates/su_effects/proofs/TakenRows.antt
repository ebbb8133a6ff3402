-- Rows that are taken out: what deletes make of a relation's rows.
use Rattle.std.proofs.Common.{◌≡◌, ℕ, Bool, true, false, List, [], ◌∷◌, Contains, refl, sym, ◌∙◌, subst}
use Rattle.std.proofs.lemmas.Bool.{true≢false}
use Rattle.su_base.specs.declared.values.Value.{Value}
use Rattle.su_base.proofs.Items.{Contains-head, Contains-one}
use Rattle.su_where.specs.Truth.{Cond, truth_of}
use Rattle.su_state.specs.DatabaseValue.{DatabaseValue, rows_of}
use Rattle.su_state.specs.Changes.{Removed, DeletesWhere}
use Rattle.su_changes.specs.Changes.{LeadTo}
use Rattle.su_effects.specs.inside.Statements.{AreMet}
use Rattle.su_effects.proofs.PutRows.{stays_only, change_leads}

abbrev Row : Type 0
Row = List Value

pub removed_leads : (r : ℕ) (row : Row) (old new : DatabaseValue) → Removed old r row new → LeadTo old (record { relation = r; rows = row ∷ []; is_in = false } ∷ []) new
removed_leads r row old new removed =
    change_leads r (row ∷ []) false old new
    (λ x. (
      λ has. let it = (removed.rows x).0 has in (it.0, λ (is : Contains (row ∷ []) x). it.1 (sym (Contains-one row x is))),
      λ has. (removed.rows x).1 (has.0, λ (is : x ≡ row). has.1 (subst (λ (y : Row). Contains (row ∷ []) y) (sym is) (Contains-head row []))),
    ))
    (stays_only r old new removed.only)

-- a truth that isn't true is false
not_true : (b : Bool) → ¬ (b ≡ true) → b ≡ false
not_true true = λ differs. absurd (differs refl)
not_true false = λ differs. refl

pub met_leads : (r : ℕ) (cond : Cond) (count : ℕ) (met : List Row) (old new : DatabaseValue) → AreMet cond (rows_of old r) met → DeletesWhere old r cond count new → LeadTo old (record { relation = r; rows = met; is_in = false } ∷ []) new
met_leads r cond count met old new are deletes =
    change_leads r met false old new
    (λ x. (
      λ has. let it = (deletes.rows x).0 has in (it.0, λ (is : Contains met x). true≢false (sym ((are x).0 is).1 ∙ it.1)),
      λ has. (deletes.rows x).1 (has.0, not_true (truth_of cond x) (λ holds. has.1 ((are x).1 (has.0, holds)))),
    ))
    (stays_only r old new deletes.only)
