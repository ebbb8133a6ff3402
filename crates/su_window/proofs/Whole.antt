-- What a window answers, from the names of the padded rows.
use Rattle.std.proofs.Common.{◌≡◌, ◌↔◌, ℕ, ◌<◌, ◌≤◌, Option, None, MatchOption, List, map, length, get_or, Contains, refl, sym, subst}
use Rattle.std.specs.Prelude.{All}
use Rattle.std.proofs.lemmas.List.{length-map}
use Rattle.su_base.specs.declared.values.Value.{Value}
use Rattle.su_tableau.specs.declared.symbols.Sym.{Sym}
use Rattle.su_tableau.specs.declared.symbols.Sym.TheVariants.{Var}
use Rattle.su_tableau.specs.Tableaux.{AreBelow}
use Rattle.su_state.specs.DatabaseValue.{DatabaseValue, IsWellKept}
use Rattle.su_chase.specs.Chase.{IsClassName, IsConsistent, IsClash}
use Rattle.su_chase.specs.Chased.{AreRows}
use Rattle.su_chase.specs.inside.Rows.{name_by}
use Rattle.su_fd.specs.declared.dependencies.Fd.{Fd}
use Rattle.su_chase.proofs.NamedAnswers.{are_names}
use Rattle.su_window.specs.declared.readings.Reading.{Reading}
use Rattle.su_schema.specs.Cuts.{width}
use Rattle.su_window.specs.Window.{Fits, InWindow}
use Rattle.su_window.specs.Members.{HasFew}
use Rattle.su_window.specs.Padded.{member_read, AreReadings, padded_rows}
use Rattle.su_window.specs.Refusals.{Clashes}
use Rattle.su_window.specs.Representative.{IsRepresentative, Represents}
use Rattle.su_window.specs.inside.Readings.{AreConstants}
use Rattle.su_window.proofs.Rows.{rows_long, are_rows}
use Rattle.su_window.proofs.Picked.{no_clash, has_constants}
use Rattle.su_window.proofs.FittingRelation.{some_fits, in_window}

module _ (db : DatabaseValue) (kept : IsWellKept db) (readings : List Reading) (are : AreReadings db readings) (few : length readings ≤ 20000) where
  pub has_few : HasFew db
  has_few = let e = length-map readings (member_read db) in (map (member_read db) readings, are.members, subst (λ (n : ℕ). n ≤ 20000) (sym e) few)

  pub refused : (less greater : Value) → IsClash db.schema.fds (padded_rows db readings) less greater → Clashes db less greater × ((universe : List (List Value)) → ¬ Fits db universe)
  refused less greater clash = (record { readings = readings; are = are; few = few; clash = clash }, λ universe fits. no_clash db kept readings are universe fits less greater clash)

  module _ (names : List Sym) (all : All (AreBelow (length names)) (padded_rows db readings)) (each : (k : ℕ) → k < length names → IsClassName db.schema.fds (padded_rows db readings) (Var k) (get_or names k (Var k))) (consistent : IsConsistent db.schema.fds (padded_rows db readings)) where
    named : (x : Sym) → IsClassName db.schema.fds (padded_rows db readings) x (name_by names x)
    named = are_names db.schema.fds (padded_rows db readings) names all each consistent (width db.schema) (rows_long db readings)

    pub fits : HasFew db × ((universe : List (List Value)) × Fits db universe)
    fits = (has_few, some_fits db kept readings are (name_by names) (λ c. refl) named)

    pub represented : (rows : List (List Sym)) × IsRepresentative db rows
    represented = (map (map (name_by names)) (padded_rows db readings), record { readings = readings; are = are; consistent = consistent; name = name_by names; names = named; is = refl })

    pub exact : (attributes : List ℕ) → All (λ a. a < width db.schema) attributes → (h : List Value) → ((row : List Sym) × Contains (padded_rows db readings) row × AreConstants names row attributes h) ↔ InWindow db attributes h
    exact attributes low h = (
      λ w universe fits. has_constants db kept readings are universe fits (name_by names) named attributes low w.0 w.1 h w.2,
      in_window db kept readings are (name_by names) (λ c. refl) named attributes low h,
    )

-- ---- by what was answered

module _ (db : DatabaseValue) (kept : IsWellKept db) (readings : List Reading) (are : AreReadings db readings) (few : length readings ≤ 20000) (fds : List Fd) (fds_are : fds ≡ db.schema.fds) (rows : List (List Sym)) (rows_are : rows ≡ padded_rows db readings) where
  at_db : (P : List Fd → List (List Sym) → Type 0) → P fds rows → P db.schema.fds (padded_rows db readings)
  at_db P p = subst (P db.schema.fds) rows_are (subst (λ (f : List Fd). P f rows) fds_are p)

  pub can_close : AreRows fds rows
  can_close = subst (λ (f : List Fd). AreRows f rows) (sym fds_are) (subst (AreRows db.schema.fds) (sym rows_are) (are_rows db kept readings few))

  pub refused_told : (less greater : Value) → IsClash fds rows less greater → Clashes db less greater × ((universe : List (List Value)) → ¬ Fits db universe)
  refused_told less greater clash = refused db kept readings are few less greater (at_db (λ f r. IsClash f r less greater) clash)

  module _ (names : List Sym) (all : All (AreBelow (length names)) rows) (each : (k : ℕ) → k < length names → IsClassName fds rows (Var k) (get_or names k (Var k))) (clash : Option (Value × Value)) (told : MatchOption clash (IsConsistent fds rows) (λ p. IsClash fds rows p.0 p.1)) (none : clash ≡ None) where
    all_here : All (AreBelow (length names)) (padded_rows db readings)
    all_here = at_db (λ f r. All (AreBelow (length names)) r) all

    each_here : (k : ℕ) → k < length names → IsClassName db.schema.fds (padded_rows db readings) (Var k) (get_or names k (Var k))
    each_here = at_db (λ f r. (k : ℕ) → k < length names → IsClassName f r (Var k) (get_or names k (Var k))) each

    consistent_here : IsConsistent db.schema.fds (padded_rows db readings)
    consistent_here = at_db IsConsistent (subst (λ (o : Option (Value × Value)). MatchOption o (IsConsistent fds rows) (λ p. IsClash fds rows p.0 p.1)) none told)

    pub represents_told : (rows_kept : List (List Sym)) → rows_kept ≡ padded_rows db readings → Represents db (record { rows = rows_kept; names = names })
    represents_told rows_kept kept_are = record { readings = readings; are = are; few = few; rows = kept_are; below = all_here; named = each_here; consistent = consistent_here }
