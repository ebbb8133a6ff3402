-- What the stored rows of a source give, and what the candidates of a row say.
use Rattle.std.proofs.Common.{◌≡◌, ℕ, ◌+◌, ◌<◌, ◌≤◌, ◌⊎◌, List, [], Some, length, get_or, slice_get, Contains, refl, sym, ap, subst, ◌∙◌, inl, inr, ⊎_elim, arith}
use Rattle.std.specs.Prelude.{map, All}
use Rattle.std.proofs.lemmas.Bool.{cases_lt}
use Rattle.std.proofs.lemmas.Option.{slice_get_within, slice_get_read, get_or_from_slice_get, same_Some}
use Rattle.su_base.proofs.Items.{Contains-map_source}
use Rattle.su_base.specs.declared.values.Value.{Value}
use Rattle.su_rel.specs.Stored.{Stored, IsRelation}
use Rattle.su_tableau.specs.declared.symbols.Sym.{Sym}
use Rattle.su_index.specs.Tables.{table_at}
use Rattle.su_exec.specs.declared.tasks.Source.{Source}
use Rattle.su_exec.specs.declared.tasks.TaskRow.{TaskRow}
use Rattle.su_reduce.specs.Codes.{decode, Extends}
use Rattle.su_reduce.specs.Shapes.{IsShapeOf}
use Rattle.su_exec.specs.inside.Coded.{IsCoded, IsGathered, IsRowEdge, IsTaken, meanings, picked}
use Rattle.su_exec.specs.inside.Edges.{Edge, FitsAll}
use Rattle.su_exec.specs.Outputs.{values_at}
use Rattle.su_exec.specs.Tasks.{FitsTables}
use Rattle.su_exec.specs.inside.Ways.{AreReached, IsAgreed, IsFrom, IsFromListed}
use Rattle.su_exec.proofs.Meanings.{meanings_same}
use Rattle.su_exec.proofs.GatheredRows.{gathered_as}
use Rattle.su_exec.proofs.PartSteps.{agree_at}
use Rattle.su_exec.proofs.CellShapes.{shape_has, taken_is}
use Rattle.su_tableau.proofs.ValuationLists.{values_same}

-- one of the first n sources gives them
pub record IsOfSources (tables : List Stored) (row : TaskRow) (firsts : List ℕ) (n : ℕ) (h : List Value) : Type 0 where
  pub number : ℕ
  pub below : number < n
  pub source : Source
  pub is : slice_get row.sources number ≡ Some source
  pub given : IsFrom row.cells firsts source.columns (table_at tables source.relation).rows (length (table_at tables source.relation).rows) h

-- some source before number n gives the row these values
pub record AgreesBySources (tables : List Stored) (values : List Value) (es : List (Edge ℕ)) (row : TaskRow) (firsts : List ℕ) (n : ℕ) (h : List Value) : Type 0 where
  pub number : ℕ
  pub below : number < n
  pub source : Source
  pub is : slice_get row.sources number ≡ Some source
  pub agreed : IsAgreed tables values es row.cells firsts source h

pub within_stored : (tables : List Stored) (n i : ℕ) (source : Source) (stored : List Value) → FitsTables tables n source → IsRelation (table_at tables source.relation) → slice_get (table_at tables source.relation).rows i ≡ Some stored → All (λ column. column < length stored) source.columns
within_stored tables n i source stored fits relation at k d l =
    let rows = (table_at tables source.relation).rows in
    let w : length (get_or rows i stored) ≡ (table_at tables source.relation).width = relation.width i stored (slice_get_within rows i stored at) in
    let e : length (get_or rows i stored) ≡ length stored = ap length (get_or_from_slice_get rows i stored stored at) in
    let c = fits.within k d l in
    omega arith

-- ---- one stored row more

module _ (cells : List Sym) (firsts columns : List ℕ) (rows : List (List Value)) where
  pub from_none : (h : List Value) → IsFrom cells firsts columns rows 0 h → ⊥
  from_none h x = let l = x.below in omega arith

  pub from_before : (n : ℕ) (h : List Value) → IsFrom cells firsts columns rows n h → IsFrom cells firsts columns rows (n + 1) h
  from_before n h x = record { position = x.position; below = let l = x.below in omega arith; stored = x.stored; at = x.at; taken = x.taken }

  pub from_here : (n : ℕ) (stored h : List Value) → slice_get rows n ≡ Some stored → IsTaken cells firsts columns stored h → IsFrom cells firsts columns rows (n + 1) h
  from_here n stored h at taken = record { position = n; below = omega arith; stored = stored; at = at; taken = taken }

  pub from_cases : (n : ℕ) (stored h : List Value) → slice_get rows n ≡ Some stored → IsFrom cells firsts columns rows (n + 1) h → IsFrom cells firsts columns rows n h ⊎ IsTaken cells firsts columns stored h
  from_cases n stored h at x =
      ⊎_elim
      (λ (l : x.position < n). inl (record { position = x.position; below = l; stored = x.stored; at = x.at; taken = x.taken }))
      (λ (l : n ≤ x.position).
      let b = x.below in
      let e : x.position ≡ n = omega arith in
      let s : x.stored ≡ stored = same_Some x.stored stored (sym x.at ∙ ap (slice_get rows) e ∙ at) in
      inr (subst (λ (row : List Value). IsTaken cells firsts columns row h) s x.taken))
      (cases_lt x.position n)

  -- ---- at some positions

  module _ (positions : List ℕ) where
    pub listed_none : (h : List Value) → IsFromListed cells firsts columns rows positions 0 h → ⊥
    listed_none h x = let l = x.below in omega arith

    pub listed_before : (n : ℕ) (h : List Value) → IsFromListed cells firsts columns rows positions n h → IsFromListed cells firsts columns rows positions (n + 1) h
    listed_before n h x = record { number = x.number; below = let l = x.below in omega arith; position = x.position; is = x.is; stored = x.stored; at = x.at; taken = x.taken }

    pub listed_here : (n p : ℕ) (stored h : List Value) → slice_get positions n ≡ Some p → slice_get rows p ≡ Some stored → IsTaken cells firsts columns stored h → IsFromListed cells firsts columns rows positions (n + 1) h
    listed_here n p stored h is at taken = record { number = n; below = omega arith; position = p; is = is; stored = stored; at = at; taken = taken }

    pub listed_cases : (n p : ℕ) (stored h : List Value) → slice_get positions n ≡ Some p → slice_get rows p ≡ Some stored → IsFromListed cells firsts columns rows positions (n + 1) h → IsFromListed cells firsts columns rows positions n h ⊎ IsTaken cells firsts columns stored h
    listed_cases n p stored h is at x =
        ⊎_elim
        (λ (l : x.number < n). inl (record { number = x.number; below = l; position = x.position; is = x.is; stored = x.stored; at = x.at; taken = x.taken }))
        (λ (l : n ≤ x.number).
        let b = x.below in
        let e : x.number ≡ n = omega arith in
        let q : x.position ≡ p = same_Some x.position p (sym x.is ∙ ap (slice_get positions) e ∙ is) in
        let s : x.stored ≡ stored = same_Some x.stored stored (sym x.at ∙ ap (slice_get rows) q ∙ at) in
        inr (subst (λ (row : List Value). IsTaken cells firsts columns row h) s x.taken))
        (cases_lt x.number n)

-- ---- a source

module _ (tables : List Stored) (olds : List Value) (es : List (Edge ℕ)) (row : TaskRow) (firsts : List ℕ) (source : Source) (news : List Value) (rows most : List (List ℕ)) where
  pub by_all :
      IsGathered (IsFrom row.cells firsts source.columns (table_at tables source.relation).rows (length (table_at tables source.relation).rows)) (IsFrom row.cells firsts source.columns (table_at tables source.relation).rows (length (table_at tables source.relation).rows)) olds rows news most
      → IsGathered (IsFrom row.cells firsts source.columns (table_at tables source.relation).rows (length (table_at tables source.relation).rows)) (IsAgreed tables olds es row.cells firsts source) olds rows news most
  by_all g =
      let t = (table_at tables source.relation).rows in
      let P : List Value → Type 0 = IsFrom row.cells firsts source.columns t (length t) in
      let S : List Value → Type 0 = IsAgreed tables olds es row.cells firsts source in
      gathered_as P P P S olds news rows most g (λ h p. p)
      (λ h x. record { position = x.position; below = slice_get_within t x.position x.stored x.at; stored = x.stored; at = x.at; taken = record { valuation = x.valuation; fits = x.same; is = x.is } })

  pub by_listed :
      (positions : List ℕ) → AreReached tables olds es row source positions
      → IsGathered (IsFromListed row.cells firsts source.columns (table_at tables source.relation).rows positions (length positions)) (IsFromListed row.cells firsts source.columns (table_at tables source.relation).rows positions (length positions)) olds rows news most
      → IsGathered (IsFrom row.cells firsts source.columns (table_at tables source.relation).rows (length (table_at tables source.relation).rows)) (IsAgreed tables olds es row.cells firsts source) olds rows news most
  by_listed positions reached g =
      let t = (table_at tables source.relation).rows in
      let Q : List Value → Type 0 = IsFromListed row.cells firsts source.columns t positions (length positions) in
      let P : List Value → Type 0 = IsFrom row.cells firsts source.columns t (length t) in
      let S : List Value → Type 0 = IsAgreed tables olds es row.cells firsts source in
      gathered_as Q Q P S olds news rows most g (λ h x. record { position = x.position; below = slice_get_within t x.position x.stored x.at; stored = x.stored; at = x.at; taken = x.taken })
      (λ h x.
      let c = reached.all x.valuation x.position x.stored x.fits x.at x.same in
      record {
        number = c.0;
        below = c.1;
        position = x.position;
        is = slice_get_read positions (length positions) c.0 x.position refl c.1 (sym c.2);
        stored = x.stored;
        at = x.at;
        taken = record { valuation = x.valuation; fits = x.same; is = x.is };
      })

-- ---- the sources of a row

module _ (tables : List Stored) (values : List Value) (es : List (Edge ℕ)) (row : TaskRow) (firsts : List ℕ) where
  pub sources_none : (h : List Value) → AgreesBySources tables values es row firsts 0 h → ⊥
  sources_none h x = let l = x.below in omega arith

  pub sources_before : (n : ℕ) (h : List Value) → IsOfSources tables row firsts n h → IsOfSources tables row firsts (n + 1) h
  sources_before n h x = record { number = x.number; below = let l = x.below in omega arith; source = x.source; is = x.is; given = x.given }

  pub sources_here : (n : ℕ) (source : Source) (h : List Value) → slice_get row.sources n ≡ Some source → IsFrom row.cells firsts source.columns (table_at tables source.relation).rows (length (table_at tables source.relation).rows) h → IsOfSources tables row firsts (n + 1) h
  sources_here n source h is given = record { number = n; below = omega arith; source = source; is = is; given = given }

  pub sources_cases : (n : ℕ) (source : Source) (h : List Value) → slice_get row.sources n ≡ Some source → AgreesBySources tables values es row firsts (n + 1) h → AgreesBySources tables values es row firsts n h ⊎ IsAgreed tables values es row.cells firsts source h
  sources_cases n source h is x =
      ⊎_elim
      (λ (l : x.number < n). inl (record { number = x.number; below = l; source = x.source; is = x.is; agreed = x.agreed }))
      (λ (l : n ≤ x.number).
      let b = x.below in
      let e : x.number ≡ n = omega arith in
      let s : x.source ≡ source = same_Some x.source source (sym x.is ∙ ap (slice_get row.sources) e ∙ is) in
      inr (subst (λ (source : Source). IsAgreed tables values es row.cells firsts source h) s x.agreed))
      (cases_lt x.number n)

-- what is gathered from all sources is the edge of the row
pub row_edge :
    (tables : List Stored) (olds news : List Value) (es : List (Edge ℕ)) (row : TaskRow) (vars firsts places : List ℕ) (rows : List (List ℕ)) → IsShapeOf row.cells (length row.cells) vars firsts places → All (IsCoded olds) es
    → IsGathered (IsOfSources tables row firsts (length row.sources)) (AgreesBySources tables olds es row firsts (length row.sources)) olds [] news rows → IsRowEdge tables news es row (record { vars = vars; rows = rows })
row_edge tables olds news es row vars firsts places rows shape coded g = record {
  exact = λ v f. (
    λ a.
        let xs = values_at a.source.columns a.stored in
        let s = a.of_row in
        let t = a.in_table in
        let sl = s.1 in
        let old : FitsAll v (meanings olds es) = subst (FitsAll v) (meanings_same olds news g.codes es coded) f in
        subst (λ (h : List Value). Contains (map (map (decode news)) rows) h) (taken_is row.cells vars firsts places shape v xs a.same) (g.had (picked firsts xs) (record {
          number = s.0;
          below = sl;
          source = a.source;
          is = slice_get_read row.sources (length row.sources) s.0 a.source refl sl (sym s.2);
          agreed = record {
            valuation = v;
            fits = old;
            position = t.0;
            stored = a.stored;
            at = slice_get_read (table_at tables a.source.relation).rows (length (table_at tables a.source.relation).rows) t.0 a.stored refl t.1 (sym t.2);
            same = a.same;
            is = refl;
          };
        })),
    λ fit.
        let w = Contains-map_source (map (decode news)) rows (map v vars) fit in
        ⊎_elim
        (λ (none : Contains [] w.0). absurd (let l = none.1 in omega arith))
        (λ (p : IsOfSources tables row firsts (length row.sources) (map (decode news) w.0)).
        let t = p.given.taken in
        let u = t.valuation in
        let xs = values_at p.source.columns p.given.stored in
        let e : map u vars ≡ map v vars = sym (taken_is row.cells vars firsts places shape u xs t.fits) ∙ t.is ∙ w.2 in
        let stored = (table_at tables p.source.relation).rows in
        record {
          source = p.source;
          of_row = (p.number, slice_get_within row.sources p.number p.source p.is, get_or_from_slice_get row.sources p.number p.source p.source p.is);
          stored = p.given.stored;
          in_table = (p.given.position, slice_get_within stored p.given.position p.given.stored p.given.at, get_or_from_slice_get stored p.given.position p.given.stored p.given.stored p.given.at);
          same = t.fits ∙ values_same u v row.cells (λ k h. agree_at u v vars e k (shape_has row.cells vars firsts places shape k h));
        })
        (g.only w.0 w.1),
  );
  coded = g.coded;
  all = λ k h. shape_has row.cells vars firsts places shape k h;
}

-- what agrees beside candidates agrees beside them after codes were added
pub agreed_up : (tables : List Stored) (olds mids : List Value) (es : List (Edge ℕ)) (cells : List Sym) (firsts : List ℕ) (source : Source) (h : List Value) → Extends olds mids → All (IsCoded olds) es → IsAgreed tables olds es cells firsts source h → IsAgreed tables mids es cells firsts source h
agreed_up tables olds mids es cells firsts source h more coded x = record {
  valuation = x.valuation;
  fits = subst (FitsAll x.valuation) (sym (meanings_same olds mids more es coded)) x.fits;
  position = x.position;
  stored = x.stored;
  at = x.at;
  same = x.same;
  is = x.is;
}
