-- What an instance that represents a database gives of it: its windows, and what fits.
use Rattle.std.proofs.Common.{◌≡◌, ◌↔◌, ℕ, ◌<◌, List, length, get_or, Contains, sym, ◌∙◌, subst}
use Rattle.std.specs.Prelude.{All}
use Rattle.su_base.specs.declared.values.Value.{Value}
use Rattle.su_tableau.specs.declared.symbols.Sym.{Sym}
use Rattle.su_tableau.specs.Tableaux.{AreBelow}
use Rattle.su_state.specs.DatabaseValue.{DatabaseValue, IsWellKept}
use Rattle.su_schema.specs.Cuts.{width}
use Rattle.su_window.specs.declared.windows.Representative.{Representative}
use Rattle.su_window.specs.Members.{HasFew}
use Rattle.su_window.specs.Padded.{padded_rows}
use Rattle.su_window.specs.Representative.{IsRepresentative, Represents}
use Rattle.su_window.specs.Window.{Fits, InWindow}
use Rattle.su_window.specs.inside.Readings.{AreConstants}
use Rattle.su_window.proofs.Rows.{rows_long}
use Rattle.su_window.proofs.Whole.{fits, represented, exact}

module _ (db : DatabaseValue) (r : Representative) (represents : Represents db r) where
  module _ (rows : List (List Sym)) (rows_are : rows ≡ r.rows) where
    all_rows : rows ≡ padded_rows db represents.readings
    all_rows = rows_are ∙ represents.rows

    pub attributes_within : (attributes : List ℕ) → All (λ a. a < width db.schema) attributes → All (λ row. All (λ a. a < length row) attributes) rows
    attributes_within attributes low =
        subst (λ (rs : List (List Sym)). All (λ row. All (λ a. a < length row) attributes) rs) (sym all_rows)
        (λ i d l j e m. subst (λ (n : ℕ). get_or attributes j e < n) (sym (rows_long db represents.readings i d l)) (low j e m))

    module _ (names : List Sym) (names_are : names ≡ r.names) where
      pub below_names : All (AreBelow (length names)) rows
      below_names = subst (λ (ns : List Sym). All (AreBelow (length ns)) rows) (sym names_are) (subst (All (AreBelow (length r.names))) (sym all_rows) represents.below)

  module _ (kept : IsWellKept db) where
    pub has_few_and_fits : HasFew db × ((universe : List (List Value)) × Fits db universe)
    has_few_and_fits = fits db kept represents.readings represents.are represents.few r.names represents.below represents.named represents.consistent

    pub has_rows : (rows : List (List Sym)) × IsRepresentative db rows
    has_rows = represented db kept represents.readings represents.are represents.few r.names represents.below represents.named represents.consistent

    pub window_rows : (rows : List (List Sym)) → rows ≡ r.rows → (names : List Sym) → names ≡ r.names → (attributes : List ℕ) → All (λ a. a < width db.schema) attributes → (found sorted : List (List Value)) → ((h : List Value) → Contains found h ↔ ((row : List Sym) × Contains rows row × AreConstants names row attributes h)) → ((h : List Value) → Contains sorted h ↔ Contains found h) → (h : List Value) → Contains sorted h ↔ InWindow db attributes h
    window_rows rows rows_are names names_are attributes low found sorted finds members h =
        let window = exact db kept represents.readings represents.are represents.few r.names represents.below represents.named represents.consistent attributes low h in
        let finds_here : Contains found h ↔ ((row : List Sym) × Contains (padded_rows db represents.readings) row × AreConstants r.names row attributes h) =
        subst (λ (ns : List Sym). Contains found h ↔ ((row : List Sym) × Contains (padded_rows db represents.readings) row × AreConstants ns row attributes h)) names_are
        (subst (λ (rs : List (List Sym)). Contains found h ↔ ((row : List Sym) × Contains rs row × AreConstants names row attributes h)) (rows_are ∙ represents.rows) (finds h)) in
        (λ c. window.0 (finds_here.0 ((members h).0 c)), λ w. (members h).1 (finds_here.1 (window.1 w)))
