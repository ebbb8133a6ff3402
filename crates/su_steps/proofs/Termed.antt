-- The term of a disjunct and a choice, from the tableau of its rows.
use Rattle.std.proofs.Common.{◌≡◌, ℕ, ◌≤◌, List, [], get_or, refl, sym, subst, None}
use Rattle.std.specs.Ordering.{nat_cmp}
use Rattle.std.specs.FinSet.{FinSet}
use Rattle.su_where.specs.declared.literals.Literal.{Literal}
use Rattle.su_where.specs.Disjunct.{disjuncts_of}
use Rattle.su_tableau.specs.Tableaux.{Tab}
use Rattle.su_schema.specs.SchemaValue.{SchemaValue}
use Rattle.su_query.specs.declared.resolving.Resolved.{Resolved}
use Rattle.su_query.specs.Ranges.{IsResolved}
use Rattle.su_steps.specs.declared.results.Origin.{Origin}
use Rattle.su_steps.specs.Objects.{width}
use Rattle.su_steps.specs.Choices.{origins_of}
use Rattle.su_steps.specs.PairSymbols.{comparisons}
use Rattle.su_steps.specs.Terms.{case_of}
use Rattle.su_steps.specs.Cases.{HaveNone, HaveTableau, Gives, IsOutOf}
use Rattle.su_steps.specs.Limits.{row_count}
use Rattle.su_steps.specs.inside.Ready.{FitOrigins, IsShown, IsChoice}
use Rattle.su_steps.proofs.Cases.{fit_origins, shown_rows}

module _ (schema : SchemaValue) (maximal : List (FinSet nat_cmp)) (q : Resolved) (choice : List ℕ) (os : List Origin) (is : os ≡ origins_of schema maximal choice) where
  pub fit_rows : IsChoice schema maximal q choice → row_count schema maximal choice ≤ 64 → FitOrigins schema q os
  fit_rows is_choice few = subst (FitOrigins schema q) (sym is) (fit_origins schema maximal q choice is_choice few)

  pub rows_shown : IsResolved schema q → IsChoice schema maximal q choice → IsShown schema q os
  rows_shown resolved is_choice = subst (IsShown schema q) (sym is) (shown_rows schema maximal q resolved choice is_choice)

  module _ (disjunct : ℕ) (ls : List Literal) (literals : get_or (disjuncts_of q.cond) disjunct [] ≡ ls) where
    pub gives_none : HaveNone schema os (comparisons (width schema) q.places ls) → IsOutOf schema maximal q (case_of disjunct choice) None
    gives_none h =
        subst (λ xs. HaveNone schema (origins_of schema maximal choice) (comparisons (width schema) q.places xs)) (sym literals)
        (subst (λ xs. HaveNone schema xs (comparisons (width schema) q.places ls)) is h)

    pub gives_some : (own : List Origin) → own ≡ origins_of schema maximal choice → (t : Tab) → HaveTableau schema q os (comparisons (width schema) q.places ls) t → Gives schema maximal q (case_of disjunct choice) (record { disjunct = disjunct; choice = choice; origins = own; tableau = t })
    gives_some own own_is t h = record {
      disjunct = refl;
      choice = refl;
      origins = own_is;
      tableau = subst (λ xs. HaveTableau schema q (origins_of schema maximal choice) (comparisons (width schema) q.places xs) t) (sym literals)
          (subst (λ xs. HaveTableau schema q xs (comparisons (width schema) q.places ls) t) is h);
    }
