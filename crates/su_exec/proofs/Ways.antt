-- What a way costs, and what it reaches.
use Rattle.std.proofs.Common.{◌≡◌, ℕ, suc, ◌+◌, ◌<◌, ◌≤◌, List, [], ◌∷◌, ◌++◌, Some, length, get_or, take, slice_get, Contains, refl, sym, ap, subst, ◌∙◌, ⊎_elim, arith}
use Rattle.std.specs.Prelude.{map, min, sum, All, IsTrue, pos}
use Rattle.std.proofs.lemmas.Bool.{cases_lt}
use Rattle.std.proofs.lemmas.List.{get_or-map, length-map}
use Rattle.std.proofs.lemmas.List.Elements.{All-append, All-nil, Contains-append_left, Contains-append_right}
use Rattle.std.proofs.lemmas.List.Sums.{sum-map, sum_by_more, sum_by-take-le}
use Rattle.std.proofs.lemmas.Option.{slice_get-get_or, slice_get_within, get_or_from_slice_get}
use Rattle.su_base.proofs.Items.{Contains-map}
use Rattle.su_base.specs.declared.values.Value.{Value}
use Rattle.su_base.specs.declared.values.Value.TheVariants.{Int}
use Rattle.su_rel.specs.Stored.{Stored, IsRelation}
use Rattle.su_tableau.specs.declared.symbols.Sym.{Sym}
use Rattle.su_tableau.specs.declared.symbols.Sym.TheVariants.{Const, Var}
use Rattle.su_tableau.specs.Valuations.{value_of, values_of}
use Rattle.su_index.specs.Matches.{AreMatches, has_value, matches}
use Rattle.su_index.specs.Tables.{table_at}
use Rattle.su_index.proofs.Matched.{has_value-decides, match_of, match_unique}
use Rattle.su_exec.specs.declared.tasks.Source.{Source}
use Rattle.su_exec.specs.declared.tasks.TaskRow.{TaskRow}
use Rattle.su_reduce.specs.Codes.{decode}
use Rattle.su_exec.specs.inside.Coded.{meaning, meanings}
use Rattle.su_exec.specs.inside.Edges.{Edge, Fits, FitsAll}
use Rattle.su_exec.specs.Outputs.{values_at}
use Rattle.su_exec.specs.Shares.{least_matches}
use Rattle.su_exec.specs.Tasks.{FitsTables}
use Rattle.su_exec.specs.inside.Ways.{AreOfCodes, AreReached, only_code}

-- one of the codes stands for the value of the column's cell, under each valuation that fits the candidates so far
pub record IsReached (values : List Value) (es : List (Edge ℕ)) (cells : List Sym) (columns : List ℕ) (column : ℕ) (codes : List (List ℕ)) : Type 0 where
  pub place : ℕ
  pub cell : Sym
  pub below : place < length cells
  pub is : slice_get cells place ≡ Some cell
  pub column_is : slice_get columns place ≡ Some column
  pub reaches : (v : ℕ → Value) → FitsAll v (meanings values es) → Contains (map (λ r. decode values (only_code r)) codes) (value_of v cell)

-- ---- sums

pub sum_more : {X : Type 0} (f : X → ℕ) (xs : List X) (i : ℕ) (d : X) → i < length xs → sum (map f (take (i + 1) xs)) ≡ sum (map f (take i xs)) + f (get_or xs i d)
sum_more f xs i d l = sum-map f (take (i + 1) xs) ∙ sum_by_more f xs i d l ∙ ap (λ s. s + f (get_or xs i d)) (sym (sum-map f (take i xs)))

pub sum_take : {X : Type 0} (f : X → ℕ) (xs : List X) (i : ℕ) → sum (map f (take i xs)) ≤ sum (map f xs)
sum_take f xs i = omega (arith, sum-map f (take i xs), sum_by-take-le f xs i, sum-map f xs)

-- ---- shares

pub share_low :
    (rows : List (List Value)) (n cost : ℕ) (cells : List Sym) (columns : List ℕ) → cost ≤ n
    → ((k : ℕ) (value : Value) (column : ℕ) → slice_get cells k ≡ Some (Const value) → slice_get columns k ≡ Some column → cost ≤ matches column value rows) → cost ≤ least_matches rows n cells columns
share_low rows n cost [] columns h all = h
share_low rows n cost (cell ∷ cells) [] h all = h
share_low rows n cost (Const value ∷ cells) (column ∷ columns) h all =
    let a : cost ≤ matches column value rows = all 0 value column refl refl in
    let i : cost ≤ least_matches rows n cells columns = share_low rows n cost cells columns h (λ k v c e f. all (suc k) v c e f) in
    let e : least_matches rows n (Const value ∷ cells) (column ∷ columns) ≡ min (matches column value rows) (least_matches rows n cells columns) = refl in
    omega arith
share_low rows n cost (Var k ∷ cells) (column ∷ columns) h all = share_low rows n cost cells columns h (λ k v c e f. all (suc k) v c e f)

-- ---- ways

pub column_low : (tables : List Stored) (n p column : ℕ) (source : Source) → FitsTables tables n source → slice_get source.columns p ≡ Some column → column < (table_at tables source.relation).width
column_low tables n p column source fits e =
    subst (λ c. c < (table_at tables source.relation).width) (get_or_from_slice_get source.columns p column column e) (fits.within p column (slice_get_within source.columns p column e))

-- a stored row that agrees has the value of a cell in the cell's column
pub agreed_value :
    (tables : List Stored) (cells : List Sym) (source : Source) (v : ℕ → Value) (position place column : ℕ) (stored : List Value) (cell : Sym) → FitsTables tables (length cells) source → IsRelation (table_at tables source.relation)
    → slice_get (table_at tables source.relation).rows position ≡ Some stored → values_at source.columns stored ≡ values_of v cells → slice_get cells place ≡ Some cell → slice_get source.columns place ≡ Some column → slice_get stored column ≡ Some (value_of v cell)
agreed_value tables cells source v position place column stored cell fits relation at same is column_is =
    let t = (table_at tables source.relation).rows in
    let I : Value = Int (pos 0) in
    let w : length (get_or t position stored) ≡ (table_at tables source.relation).width = relation.width position stored (slice_get_within t position stored at) in
    let we : length (get_or t position stored) ≡ length stored = ap length (get_or_from_slice_get t position stored stored at) in
    let cw = column_low tables (length cells) place column source fits column_is in
    let wide : column < length stored = omega arith in
    let col_low = slice_get_within source.columns place column column_is in
    let value : get_or stored column I ≡ value_of v cell =
    ap (λ c. get_or stored c I) (sym (get_or_from_slice_get source.columns place column 0 column_is))
    ∙ sym (get_or-map (λ c. get_or stored c I) source.columns place 0 I col_low)
    ∙ ap (λ ys. get_or ys place I) same
    ∙ get_or-map (value_of v) cells place cell I (slice_get_within cells place cell is)
    ∙ ap (value_of v) (get_or_from_slice_get cells place cell cell is) in
    slice_get-get_or stored column I wide ∙ ap Some value

-- each row with the value stands at a found position
pub found_contains : (column : ℕ) (value : Value) (rows : List (List Value)) (found : List ℕ) (p : ℕ) → AreMatches column value rows found → p < length rows → IsTrue (has_value column value (get_or rows p [])) → Contains found p
found_contains column value rows found p all low has =
    let m = match_of rows column value p low has in
    let within : m.0 < length found = let e = all.count in let l = m.1 in omega arith in
    (m.0, within, match_unique rows column value m.0 (get_or found m.0 p) p (all.each m.0 (get_or found m.0 p) (slice_get-get_or found m.0 p within)) m.2)

pub found_within : (column : ℕ) (value : Value) (rows : List (List Value)) (found : List ℕ) → AreMatches column value rows found → All (λ p. p < length rows) found
found_within column value rows found all k d low = (all.each k (get_or found k d) (slice_get-get_or found k d low)).within

-- ---- the rows with one of some values

pub no_codes : (rows : List (List Value)) (column : ℕ) (values : List Value) (codes : List (List ℕ)) → AreOfCodes rows column values codes 0 []
no_codes rows column values codes = record { within = All-nil (λ p. p < length rows); all = λ i p below low has. absurd (omega arith) }

pub codes_more :
    (rows : List (List Value)) (column : ℕ) (values : List Value) (codes : List (List ℕ)) (n : ℕ) (value : Value) (positions found : List ℕ) → value ≡ decode values (only_code (get_or codes n [])) → AreOfCodes rows column values codes n positions → AreMatches column value rows found
    → AreOfCodes rows column values codes (n + 1) (positions ++ found)
codes_more rows column values codes n value positions found is before here = record {
  within = All-append (λ p. p < length rows) positions found before.within (found_within column value rows found here);
  all = λ i p below low has.
      ⊎_elim
      (λ (l : i < n). Contains-append_left positions found p (before.all i p l low has))
      (λ (l : n ≤ i).
      let e : i ≡ n = omega arith in
      let v : decode values (only_code (get_or codes i [])) ≡ value = ap (λ n. decode values (only_code (get_or codes n []))) e ∙ sym is in
      Contains-append_right positions found p (found_contains column value rows found p here low (subst (λ (w : Value). IsTrue (has_value column w (get_or rows p []))) v has)))
      (cases_lt i n);
}

module _ (tables : List Stored) (row : TaskRow) (source : Source) (p column : ℕ) (fits : FitsTables tables (length row.cells) source) (relation : IsRelation (table_at tables source.relation)) (column_is : slice_get source.columns p ≡ Some column) where
  pub constant_way : (values : List Value) (es : List (Edge ℕ)) (value : Value) (found : List ℕ) → slice_get row.cells p ≡ Some (Const value) → AreMatches column value (table_at tables source.relation).rows found → AreReached tables values es row source found
  constant_way values es value found is all =
      let rows = (table_at tables source.relation).rows in
      record {
        within = found_within column value rows found all;
        all = λ v q stored f at same.
            let has = agreed_value tables row.cells source v q p column stored (Const value) fits relation at same is column_is in
            found_contains column value rows found q all (slice_get_within rows q stored at) (subst (λ (r : List Value). IsTrue (has_value column value r)) (sym (get_or_from_slice_get rows q stored [] at)) ((has_value-decides column value stored).1 has));
      }

  pub variable_reached :
      (values : List Value) (es : List (Edge ℕ)) (k e place : ℕ) (cell : Sym) (edge : Edge ℕ) (codes : List (List ℕ)) → slice_get row.cells p ≡ Some cell → cell ≡ Var k → e < length es → edge ≡ get_or es e edge → place < length edge.vars → get_or edge.vars place 0 ≡ k
      → ((i : ℕ) → i < length edge.rows → Contains codes (get_or (get_or edge.rows i []) place 0 ∷ [])) → IsReached values es row.cells source.columns column codes
  variable_reached values es k e place cell edge codes is cell_is low edge_is place_low place_is all =
      let D : ℕ → Value = decode values in
      record {
        place = p;
        cell = cell;
        below = slice_get_within row.cells p cell is;
        is = is;
        column_is = column_is;
        reaches = λ v f.
            let n = length-map es (meaning values) in
            let x : Fits v (meaning values edge) =
            subst (Fits v) (get_or-map (meaning values) es e edge (meaning values edge) low ∙ ap (meaning values) (sym edge_is)) (f e (meaning values edge) (omega arith)) in
            let m = length-map edge.rows (map D) in
            let xl = x.1 in
            let il : x.0 < length edge.rows = omega arith in
            let r = get_or edge.rows x.0 [] in
            let re : map D r ≡ map v edge.vars = sym (get_or-map (map D) edge.rows x.0 [] (map v edge.vars) il) ∙ x.2 in
            let long : length r ≡ length edge.vars = sym (length-map r D) ∙ ap length re ∙ length-map edge.vars v in
            let at : D (get_or r place 0) ≡ v k =
            sym (get_or-map D r place 0 (Int (pos 0)) (omega arith)) ∙ ap (λ ys. get_or ys place (Int (pos 0))) re ∙ get_or-map v edge.vars place 0 (Int (pos 0)) place_low ∙ ap v place_is in
            let C : Value → Type 0 = λ y. Contains (map (λ r. decode values (only_code r)) codes) y in
            subst C (at ∙ sym (ap (value_of v) cell_is)) (Contains-map (λ r. decode values (only_code r)) codes (get_or r place 0 ∷ []) (all x.0 il));
      }

  pub variable_way :
      (values : List Value) (es : List (Edge ℕ)) (codes : List (List ℕ)) (positions : List ℕ) → IsReached values es row.cells source.columns column codes → AreOfCodes (table_at tables source.relation).rows column values codes (length codes) positions → AreReached tables values es row source positions
  variable_way values es codes positions reached all =
      let rows = (table_at tables source.relation).rows in
      let D : List ℕ → Value = λ r. decode values (only_code r) in
      record {
        within = all.within;
        all = λ v q stored f at same.
            let c = reached.reaches v f in
            let cl = c.1 in
            let n = length-map codes D in
            let low : c.0 < length codes = omega arith in
            let code_is : D (get_or codes c.0 []) ≡ value_of v reached.cell = sym (get_or-map D codes c.0 [] (value_of v reached.cell) low) ∙ c.2 in
            let has = agreed_value tables row.cells source v q reached.place column stored reached.cell fits relation at same reached.is reached.column_is in
            let found : slice_get stored column ≡ Some (D (get_or codes c.0 [])) = has ∙ ap Some (sym code_is) in
            all.all c.0 q low (slice_get_within rows q stored at)
            (subst (λ (r : List Value). IsTrue (has_value column (D (get_or codes c.0 [])) r)) (sym (get_or_from_slice_get rows q stored [] at)) ((has_value-decides column (D (get_or codes c.0 [])) stored).1 found));
      }
