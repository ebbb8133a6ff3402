-- Each row of a term has a source, among whichever rows: the object that it is for, since its other cells are the row's own.
use Rattle.std.proofs.Common.{◌≡◌, ⊎_elim, ℕ, zero, suc, ◌+◌, ◌*◌, ◌/◌, ◌%◌, ◌<◌, true, false, cond, List, [], ◌∷◌, map, length, get_or, Contains, refl, sym, ap, ◌∙◌, subst, arith, None}
use Rattle.std.proofs.Math.Arith.{digits_lt}
use Rattle.std.specs.Prelude.{IsTrue}
use Rattle.std.specs.Ordering.{nat_cmp}
use Rattle.std.specs.FinSet.{FinSet, contains}
use Rattle.std.proofs.lemmas.Bool.{cases_Bool, false≢true}
use Rattle.std.proofs.lemmas.Nat.{div-mul-add, mod-mul-add}
use Rattle.std.proofs.lemmas.List.FromFn.{length-map-range_with_len}
use Rattle.std.proofs.lemmas.List.Elements.{All-contains, Contains-append_cases, Contains-get_or}
use Rattle.su_tableau.specs.declared.symbols.Sym.{Sym}
use Rattle.su_tableau.specs.declared.symbols.Sym.TheVariants.{Const, Var}
use Rattle.su_tableau.specs.Tableaux.{Tab}
use Rattle.su_tableau.specs.Essential.{HasSymbol, IsEssential, constant, in_head, twice}
use Rattle.su_tableau.proofs.SymbolParts.{same_var}
use Rattle.su_schema.specs.SchemaValue.{SchemaValue}
use Rattle.su_query.specs.declared.resolving.Resolved.{Resolved}
use Rattle.su_query.specs.Ranges.{IsResolved}
use Rattle.su_steps.specs.declared.results.Origin.{Origin}
use Rattle.su_steps.specs.declared.results.Term.{Term}
use Rattle.su_steps.specs.Objects.{width, attributes_at}
use Rattle.su_steps.specs.Choices.{origins_of}
use Rattle.su_steps.specs.PairSymbols.{SymbolComparison, pair, place_symbol}
use Rattle.su_classes.specs.ClassNames.{IsNaming}
use Rattle.su_steps.specs.Classes.{IsClosedForCase}
use Rattle.su_steps.specs.Evaluated.{left_over, sides}
use Rattle.su_steps.specs.CaseTableaux.{cell_of, origin_row, rows_of, tableau_of}
use Rattle.su_steps.specs.Cases.{Case, comparisons_of, Gives, IsOutOf}
use Rattle.su_steps.specs.Terms.{cases, AreTerms}
use Rattle.su_steps.specs.Sources.{IsSource}
use Rattle.std.specs.List.{AllByRecursion}
use Rattle.su_base.proofs.Items.{Contains-cases, Contains-nil, Contains-map_source, AllByRecursion-members, get_or-map_range}
use Rattle.su_schema.specs.Valid as schemas
use Rattle.su_where.specs.Disjunct.{disjuncts_of}
use Rattle.su_steps.proofs.ResolvedQueries.{no_place, place_in, literals_fit, within}
use Rattle.su_steps.proofs.Chosen.{origin_in, pairs_below}
use Rattle.su_steps.proofs.Union.{IsCase, of_cases}
use Rattle.su_steps.proofs.Shape.{AreBelow, IsPairBelow}
use Rattle.su_steps.proofs.Valid.{length-rows, of_sides}
use Rattle.su_steps.proofs.Outs.{AreInTurn, terms_of}

-- ---- symbols of classes

module _ (schema : SchemaValue) (os : List Origin) (d : List SymbolComparison) (name : Sym → Sym) (limit : ℕ) (naming : IsNaming (IsClosedForCase schema os d) name) where
  -- the name of a pair is no own symbol
  named_low : (y : Sym) (k : ℕ) → IsPairBelow limit y → name y ≡ Var k → k < limit
  named_low (Const c) k low e = absurd (naming.least (Const c) k e (Const c) (λ label closed. refl))
  named_low (Var j) k low e = let h = naming.least (Var j) k e (Var j) (λ label closed. refl) in omega arith

  -- ---- cells

  row_at : (own : ℕ) (qs : List Origin) (i : ℕ) (o : Origin) → i < length qs → get_or (rows_of schema name own qs) i [] ≡ origin_row schema name (own + i * width schema) (get_or qs i o)
  row_at own [] i o l = absurd (omega arith)
  row_at own (q ∷ qs) zero o l = ap (λ n. origin_row schema name n q) (let e : own ≡ own + 0 * width schema = omega arith in e)
  row_at own (q ∷ qs) (suc i) o l = row_at (own + width schema) qs i o (omega arith) ∙ ap (λ n. origin_row schema name n (get_or qs i o)) (let e : own + width schema + i * width schema ≡ own + suc i * width schema = grind arith in e)

  cell_at : (own : ℕ) (qs : List Origin) (i c : ℕ) (o : Origin) (x : Sym) → i < length qs → c < width schema → get_or (get_or (rows_of schema name own qs) i []) c x ≡ cell_of schema name (own + i * width schema) (get_or qs i o) c
  cell_at own qs i c o x l m = ap (λ r. get_or r c x) (row_at own qs i o l) ∙ get_or-map_range (cell_of schema name (own + i * width schema) (get_or qs i o)) (width schema) c x m

  -- a cell is the name of a pair, or the row's own symbol
  pub data IsCell (own : ℕ) (o : Origin) (c : ℕ) (x : Sym) : Type 0 where
    of_pair : contains (attributes_at schema o.object) c ≡ true → name (Var (pair (width schema) o.variable c)) ≡ x → IsCell own o c x
    of_row : contains (attributes_at schema o.object) c ≡ false → Var (own + c) ≡ x → IsCell own o c x

  is_cell : (own : ℕ) (o : Origin) (c : ℕ) (x : Sym) → cell_of schema name own o c ≡ x → IsCell own o c x
  is_cell own o c x e =
      elim (contains (attributes_at schema o.object) c) as (λ b. contains (attributes_at schema o.object) c ≡ b → cond b (name (Var (pair (width schema) o.variable c))) (Var (own + c)) ≡ x → IsCell own o c x) [
        | true ↦ λ h k. of_pair h k
        | false ↦ λ h k. of_row h k
      ] refl e

  -- ---- a row's essential cells are names of pairs

  module _ (q : Resolved) (t : Tab) (is : t ≡ tableau_of schema q name os d) (limit_is : limit ≡ length q.variables * width schema) (below : AreBelow schema limit os d) (outputs : (j : ℕ) → Contains q.outputs j → IsPairBelow limit (place_symbol (width schema) q.places j)) (o : Origin) where
    rows_are : t.rows ≡ rows_of schema name limit os
    rows_are = ap (λ (u : Tab). u.rows) is ∙ ap (λ n. rows_of schema name n os) (sym limit_is)

    head_low : (k : ℕ) → Contains t.head (Var k) → k < limit
    head_low k c =
        let head : List Sym = map (λ i. name (place_symbol (width schema) q.places i)) q.outputs in
        ⊎_elim
        (λ (l : Contains head (Var k)).
        let w = Contains-map_source (λ i. name (place_symbol (width schema) q.places i)) q.outputs (Var k) l in
        named_low (place_symbol (width schema) q.places w.0) k (outputs w.0 w.1) w.2)
        (λ (r : Contains (sides (left_over name d)) (Var k)).
        let w = of_sides name d (Var k) r in
        let b = below.sides w.1.0 w.1.1 in
        named_low w.0 k
        (⊎_elim
        (λ (e : w.1.0.left ≡ w.0). subst (IsPairBelow limit) e b.0)
        (λ (e : w.1.0.right ≡ w.0). subst (IsPairBelow limit) e b.1)
        w.1.2)
        w.2)
        (Contains-append_cases head (sides (left_over name d)) (Var k) (subst (λ (xs : List Sym). Contains xs (Var k)) (ap (λ (u : Tab). u.head) is) c))

    row_in : (m i c : ℕ) (x : Sym) → HasSymbol t m i c x → i < length os
    row_in m i c x h =
        let l = h.row_in in
        let e : length t.rows ≡ length os = ap (λ (rs : List (List Sym)). length rs) rows_are ∙ length-rows schema name limit os in
        omega arith

    column_in : (m i c : ℕ) (x : Sym) → HasSymbol t m i c x → c < width schema
    column_in m i c x h =
        let row : get_or t.rows i [] ≡ origin_row schema name (limit + i * width schema) (get_or os i o) = ap (λ (rs : List (List Sym)). get_or rs i []) rows_are ∙ row_at limit os i o (row_in m i c x h) in
        let e : length (get_or t.rows i []) ≡ width schema = ap (λ (r : List Sym). length r) row ∙ length-map-range_with_len (cell_of schema name (limit + i * width schema) (get_or os i o)) 0 (width schema) in
        let l : c < length (get_or t.rows i []) = h.cell.below in
        omega arith

    cell_is : (m i c : ℕ) (x : Sym) → HasSymbol t m i c x → IsCell (limit + i * width schema) (get_or os i o) c x
    cell_is m i c x h =
        is_cell (limit + i * width schema) (get_or os i o) c x
        (sym (cell_at limit os i c o x (row_in m i c x h) (column_in m i c x h)) ∙ ap (λ (rs : List (List Sym)). get_or (get_or rs i []) c x) (sym rows_are) ∙ h.cell.is x)

    -- a row's own symbol stands nowhere else
    own_once : (m i c k : ℕ) → HasSymbol t m i c (Var k) → contains (attributes_at schema (get_or os i o).object) c ≡ false → k ≡ limit + i * width schema + c
    own_once m i c k h out =
        elim (cell_is m i c (Var k) h) [
          | of_pair has e ↦ absurd (false≢true (sym out ∙ has))
          | of_row none e ↦ sym (same_var (limit + i * width schema + c) k e)
        ]

    place_of_cell : (i j c b : ℕ) → c < width schema → b < width schema → limit + i * width schema + c ≡ limit + j * width schema + b → (i ≡ j) × (c ≡ b)
    place_of_cell i j c b lc lb e =
        let n = width schema in
        let same : i * n + c ≡ j * n + b = omega arith in
        (sym (div-mul-add i n c lc) ∙ ap (λ k. k / n) same ∙ div-mul-add j n b lb, sym (mod-mul-add i n c lc) ∙ ap (λ k. k % n) same ∙ mod-mul-add j n b lb)

    elsewhere : (m i c r b k : ℕ) → HasSymbol t m i c (Var k) → HasSymbol t m r b (Var k) → k ≡ limit + i * width schema + c → (r ≡ i) × (b ≡ c)
    elsewhere m i c r b k h g own =
        elim (cell_is m r b (Var k) g) [
          | of_pair has e ↦
              let low = named_low (Var (pair (width schema) (get_or os r o).variable b)) k (below.pairs (get_or os r o) b (Contains-get_or os r o (row_in m r b (Var k) g)) has) e in
              absurd (omega arith)
          | of_row none e ↦ place_of_cell r i b c (column_in m r b (Var k) g) (column_in m i c (Var k) h) (same_var (limit + r * width schema + b) k e ∙ own)
        ]

    pub essential_in : (m i c : ℕ) → IsEssential t m i c → IsTrue (contains (attributes_at schema (get_or os i o).object) c)
    essential_in m i c e =
        ⊎_elim
        (λ (has : contains (attributes_at schema (get_or os i o).object) c ≡ true). has)
        (λ (out : contains (attributes_at schema (get_or os i o).object) c ≡ false).
        absurd
        (elim e [
          | constant v h ↦
              elim (cell_is m i c (Const v) h) [
                | of_pair has f ↦ false≢true (sym out ∙ has)
                | of_row none f ↦ cc
              ]
          | in_head k h there ↦
              let own = own_once m i c k h out in
              let low = head_low k there in
              omega arith
          | twice k h w ↦
              let own = own_once m i c k h out in
              let same = elsewhere m i c w.row w.column k h w.holds own in
              w.other same.0 same.1
        ]))
        (cases_Bool (contains (attributes_at schema (get_or os i o).object) c))

    pub source_at : (m i : ℕ) → i < length t.rows → (get_or os i o).object < length schema.objects → IsSource schema t m i (get_or os i o).object
    source_at m i l low = record { object = low; has_columns = λ c e. essential_in m i c e }

-- ---- the terms of a query

module _ (schema : SchemaValue) (maximal : List (FinSet nat_cmp)) (q : Resolved) (valid : schemas.IsValid schema) (resolved : IsResolved schema q) where
  output_below : (j : ℕ) → Contains q.outputs j → IsPairBelow (length q.variables * width schema) (place_symbol (width schema) q.places j)
  output_below j c =
      let low = All-contains (λ k. k < length q.places) q.outputs j resolved.outputs c in
      let p = get_or q.places j no_place in
      let at = place_in schema q resolved p (Contains-get_or q.places j no_place low) in
      digits_lt at.0 at.1

  case_has : (case : Case) (t : Term) (m i : ℕ) → IsCase schema maximal q resolved (within schema valid) case → Gives schema maximal q case t → i < length t.tableau.rows → (o : ℕ) × IsSource schema t.tableau m i o
  case_has case t m i is g l =
      let os = origins_of schema maximal case.choice in
      let none : Origin = record { variable = 0; object = 0 } in
      let below = pairs_below schema maximal q case.choice is.is_choice resolved (within schema valid) (get_or (disjuncts_of q.cond) case.disjunct []) (literals_fit schema q resolved case.disjunct is.disjunct_in) in
      let count : length t.tableau.rows ≡ length os = ap (λ (u : Tab). length u.rows) g.tableau.is ∙ length-rows schema g.tableau.name (length q.variables * width schema) os in
      let low = origin_in schema maximal q case.choice is.is_choice (get_or os i none) (Contains-get_or os i none (omega arith)) in
      ((get_or os i none).object, source_at schema os (comparisons_of schema q case.disjunct) g.tableau.name (length q.variables * width schema) g.tableau.naming q t.tableau g.tableau.is refl below output_below none m i l low.1)

  terms_have : (cs : List Case) (ts : List Term) → AllByRecursion (IsCase schema maximal q resolved (within schema valid)) cs → AreInTurn schema maximal q cs ts → (t : Term) (m i : ℕ) → Contains ts t → i < length t.tableau.rows → (o : ℕ) × IsSource schema t.tableau m i o
  terms_have [] ts are terms t m i c l = absurd (Contains-nil t (subst (λ (xs : List Term). Contains xs t) terms c))
  terms_have (x ∷ xs) ts are terms t m i c l =
      ⊎_elim
      (λ (none : IsOutOf schema maximal q x None × AreInTurn schema maximal q xs ts). terms_have xs ts are.1 none.1 t m i c l)
      (λ (some : (u : Term) × (rest : List Term) × (ts ≡ u ∷ rest) × Gives schema maximal q x u × AreInTurn schema maximal q xs rest).
      ⊎_elim
      (λ (e : some.0 ≡ t). case_has x t m i are.0 (subst (λ (u : Term). Gives schema maximal q x u) e some.3) l)
      (λ (later : Contains some.1 t). terms_have xs some.1 are.1 some.4 t m i later l)
      (Contains-cases some.0 some.1 t (subst (λ (us : List Term). Contains us t) some.2 c)))
      terms

  pub rows_have_sources : (ts : List Term) → AreTerms schema maximal q ts → (t : Term) (m i : ℕ) → Contains ts t → i < length t.tableau.rows → (o : ℕ) × IsSource schema t.tableau m i o
  rows_have_sources ts terms t m i c l = terms_have (cases schema maximal q) ts (AllByRecursion-members (IsCase schema maximal q resolved (within schema valid)) (cases schema maximal q) (of_cases schema maximal q resolved (within schema valid))) (terms_of schema maximal q ts terms) t m i c l
