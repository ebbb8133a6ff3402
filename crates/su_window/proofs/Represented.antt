-- The constants of the representative instance, and what fits.
use Rattle.std.proofs.Common.{◌≡◌, ℕ, ◌<◌, List, map, length, get_or, Contains, sym, ap, ◌∙◌, subst}
use Rattle.std.specs.Prelude.{All}
use Rattle.std.proofs.lemmas.List.{get_or-map}
use Rattle.std.proofs.lemmas.List.Elements.{All-contains}
use Rattle.su_base.specs.declared.values.Value.{Value}
use Rattle.su_base.proofs.Items.{Contains-map, Contains-map_source, map-equal_at}
use Rattle.su_tableau.specs.declared.symbols.Sym.{Sym}
use Rattle.su_tableau.specs.declared.symbols.Sym.TheVariants.{Const, Var}
use Rattle.su_chase.proofs.NamedAnswers.{own_name}
use Rattle.su_schema.specs.Cuts.{width}
use Rattle.su_state.specs.DatabaseValue.{DatabaseValue, IsWellKept}
use Rattle.su_window.specs.Laws.{WindowsAreConstantRows, RepresentedRowsFit, ClashesFitNothing}
use Rattle.su_window.specs.Padded.{padded_rows}
use Rattle.su_window.specs.Representative.{IsRepresentative, HasConstants}
use Rattle.su_window.proofs.FittingRelation.{some_fits, in_window}
use Rattle.su_window.proofs.Picked.{AreNamed, no_clash, has_constants}
use Rattle.su_window.proofs.Rows.{rows_long}

module _ (db : DatabaseValue) (kept : IsWellKept db) (rows : List (List Sym)) (is : IsRepresentative db rows) where
  abbrev padded : List (List Sym)
  padded = padded_rows db is.readings

  own : (c : Value) → is.name (Const c) ≡ Const c
  own = own_name db.schema.fds padded is.name is.names is.consistent

  module _ (attributes : List ℕ) (low : All (λ a. a < width db.schema) attributes) (h : List Value) where
    -- the symbols of a chased row at the attributes are the names of the padded row's
    same_symbols : (row : List Sym) → Contains padded row → map (λ a. get_or (map is.name row) a (Var 0)) attributes ≡ map (λ a. is.name (get_or row a (Var 0))) attributes
    same_symbols row c =
        let long : length row ≡ width db.schema = All-contains (λ (x : List Sym). length x ≡ width db.schema) padded row (rows_long db is.readings) c in
        map-equal_at (λ a. get_or (map is.name row) a (Var 0)) (λ a. is.name (get_or row a (Var 0))) attributes
        (λ a ca. get_or-map is.name row a (Var 0) (Var 0) (subst (λ (n : ℕ). a < n) (sym long) (All-contains (λ (b : ℕ). b < width db.schema) attributes a low ca)))

    of_named : (row : List Sym) → Contains padded row → AreNamed is.name row attributes h → HasConstants rows attributes h
    of_named row c are = (map is.name row, subst (λ (rs : List (List Sym)). Contains rs (map is.name row)) (sym is.is) (Contains-map (map is.name) padded row c), same_symbols row c ∙ are)

    to_named : HasConstants rows attributes h → (row : List Sym) × Contains padded row × AreNamed is.name row attributes h
    to_named (chased, c, are) =
        let w = Contains-map_source (map is.name) padded chased (subst (λ (rs : List (List Sym)). Contains rs chased) is.is c) in
        (w.0, w.1, sym (same_symbols w.0 w.1) ∙ ap (λ (row : List Sym). map (λ a. get_or row a (Var 0)) attributes) w.2 ∙ are)

pub constant_rows : WindowsAreConstantRows
constant_rows db rows attributes h kept is low = (
  λ window. let w = in_window db kept is.readings is.are is.name (own db kept rows is) is.names attributes low h window in of_named db kept rows is attributes low h w.0 w.1 w.2,
  λ has universe fits. let w = to_named db kept rows is attributes low h has in has_constants db kept is.readings is.are universe fits is.name is.names attributes low w.0 w.1 h w.2,
)

pub represented_fit : RepresentedRowsFit
represented_fit db rows kept is = some_fits db kept is.readings is.are is.name (own db kept rows is) is.names

pub clashes_fit_none : ClashesFitNothing
clashes_fit_none db readings less greater kept are clash universe fits = no_clash db kept readings are universe fits less greater clash
