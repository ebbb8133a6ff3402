-- What is answered of a database: the clash of its members' rows, or that some universal relation fits.
use Rattle.std.proofs.Common.{◌≡◌, ℕ, ◌<◌, ◌≤◌, Bool, List, [], ◌∷◌, map, length, get_or, subst, arith}
use Rattle.std.specs.Prelude.{IsTrue, All}
use Rattle.std.proofs.lemmas.List.{length-map}
use Rattle.su_base.specs.declared.values.Value.{Value}
use Rattle.su_fd.specs.declared.dependencies.Fd.{Fd}
use Rattle.su_tableau.specs.declared.symbols.Sym.{Sym}
use Rattle.su_tableau.specs.declared.symbols.Sym.TheVariants.{Var}
use Rattle.su_tableau.specs.Tableaux.{AreBelow}
use Rattle.su_schema.specs.SchemaValue.{AttributeEntry}
use Rattle.su_schema.specs.Cuts.{width}
use Rattle.su_state.specs.DatabaseValue.{DatabaseValue, IsWellKept}
use Rattle.su_chase.specs.Chase.{IsClassName, IsConsistent, IsClash}
use Rattle.su_chase.specs.Chased.{AreRows}
use Rattle.su_window.specs.Members.{HasFew}
use Rattle.su_window.specs.Padded.{AreReadings}
use Rattle.su_window.specs.Window.{Fits}
use Rattle.su_window.proofs.Rows.{rows_long}
use Rattle.su_window.proofs.Whole.{can_close as can_close_readings, refused_told, fits}
use Rattle.su_clash.specs.declared.members.Member.{Member}
use Rattle.su_clash.specs.declared.steps.Step.{Step}
use Rattle.su_clash.specs.declared.thinning.Refutation.{Refutation}
use Rattle.su_clash.specs.Derivations.{IsDerivation, Clashes, AllAreNeeded, AreFewest}
use Rattle.su_clash.specs.Clash.{reading_of, rows_of_members, IsClashOf, NothingFits}
use Rattle.su_clash.specs.inside.Renames.{HaveOneWidth, IsRefutation}
use Rattle.su_clash.proofs.Equalities.{no_clash}
use Rattle.su_clash.proofs.Replayed.{begun}

pub wide : (db : DatabaseValue) → IsWellKept db → (members : List Member) → HaveOneWidth (rows_of_members db members)
wide db kept members = record {
  width = width db.schema;
  narrow = let n = length-map db.schema.attributes (λ (q : AttributeEntry). q.kind) in let few = kept.valid.few_attributes in omega (arith, n, few);
  all = rows_long db (map reading_of members);
}

-- without a step no two constants are equal, so one step is as few as can be
pub one_is_fewest : (fds : List Fd) (rows : List (List Sym)) (steps : List Step) → length steps ≤ 1 → AreFewest fds rows steps
one_is_fewest fds rows steps short [] r = absurd (no_clash fds rows [] [] (begun fds rows) r.one r.other r.clash)
one_is_fewest fds rows steps short (s ∷ others) r = omega (arith, short)

module _ (db : DatabaseValue) (members : List Member) (fds : List Fd) (fds_are : fds ≡ db.schema.fds) (rows : List (List Sym)) (rows_are : rows ≡ rows_of_members db members) where
  at_db : (P : List Fd → List (List Sym) → Type 0) → P fds rows → P db.schema.fds (rows_of_members db members)
  at_db P p = subst (P db.schema.fds) rows_are (subst (λ (f : List Fd). P f rows) fds_are p)

  pub clash_is : AreReadings db (map reading_of members) → (r : Refutation) (fewest : Bool) → IsRefutation fds rows r → AllAreNeeded fds rows r.steps → (IsTrue fewest → length r.steps ≤ 1) → IsClashOf db (record { members = members; steps = r.steps; one = r.pair.one; other = r.pair.other; fewest = fewest })
  clash_is are r fewest refutes needed short = record {
    members = are;
    derivation = at_db (λ f q. IsDerivation f q r.steps) refutes.derivation;
    clash = at_db (λ f q. Clashes f q r.steps r.pair.one r.pair.other) refutes.clash;
    needed = at_db (λ f q. AllAreNeeded f q r.steps) needed;
    fewest = λ t. one_is_fewest db.schema.fds (rows_of_members db members) r.steps (short t);
  }

  module _ (kept : IsWellKept db) (are : AreReadings db (map reading_of members)) (few : length members ≤ 20000) where
    few_readings : length (map reading_of members) ≤ 20000
    few_readings = let n = length-map members reading_of in omega (arith, few, n)

    pub can_close : AreRows fds rows
    can_close = can_close_readings db kept (map reading_of members) are few_readings fds fds_are rows rows_are

    pub nothing_fits : (less greater : Value) → IsClash fds rows less greater → NothingFits db
    nothing_fits less greater clash = (refused_told db kept (map reading_of members) are few_readings fds fds_are rows rows_are less greater clash).1

    pub some_fits : (names : List Sym) → All (AreBelow (length names)) rows → ((k : ℕ) → k < length names → IsClassName fds rows (Var k) (get_or names k (Var k))) → IsConsistent fds rows → HasFew db × ((universe : List (List Value)) × Fits db universe)
    some_fits names below named consistent =
        fits db kept (map reading_of members) are few_readings names (at_db (λ f q. All (AreBelow (length names)) q) below)
        (at_db (λ f q. (k : ℕ) → k < length names → IsClassName f q (Var k) (get_or names k (Var k))) named) (at_db IsConsistent consistent)

-- where two constants clash, the rows aren't consistent
pub inconsistent : (fds : List Fd) (rows : List (List Sym)) (less greater : Value) → IsClash fds rows less greater → ¬ IsConsistent fds rows
inconsistent fds rows less greater clash consistent = clash.differ (consistent less greater clash.together)
