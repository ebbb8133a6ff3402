-- A term's tableau is valid: rows of one width, a head of the right length, each variable of the head in a row.
use Rattle.std.proofs.Common.{◌≡◌, ◌⊎◌, inl, inr, ⊎_elim, ℕ, ◌+◌, ◌*◌, ◌<◌, true, false, cond, List, [], ◌∷◌, ◌++◌, map, length, Contains, refl, sym, ap, ◌∙◌, subst, arith}
use Rattle.std.specs.List.{AllByRecursion}
use Rattle.std.specs.FinSet.{contains}
use Rattle.std.proofs.lemmas.Bool.{cond-true}
use Rattle.std.proofs.lemmas.List.{length-map, length-append, get_or_default}
use Rattle.std.proofs.lemmas.List.Elements.{Contains-append_cases, All-from_recursion}
use Rattle.std.proofs.lemmas.List.FromFn.{length-map-range_with_len}
use Rattle.su_base.proofs.Items.{Contains-later, Contains-cases, Contains-map_source, get_or-map_range}
use Rattle.su_tableau.specs.declared.symbols.Sym.{Sym}
use Rattle.su_tableau.specs.declared.symbols.Sym.TheVariants.{Const, Var}
use Rattle.su_tableau.specs.Tableaux.{Occurs, IsValid}
use Rattle.su_schema.specs.SchemaValue.{SchemaValue}
use Rattle.su_query.specs.declared.resolving.Resolved.{Resolved}
use Rattle.su_steps.specs.declared.results.Origin.{Origin}
use Rattle.su_steps.specs.Objects.{width, attributes_at}
use Rattle.su_steps.specs.PairSymbols.{SymbolComparison, pair, place_symbol}
use Rattle.su_classes.specs.ClassNames.{IsNaming}
use Rattle.su_steps.specs.Classes.{IsClosedForCase}
use Rattle.su_steps.specs.Evaluated.{is_evaluated, left_over, sides}
use Rattle.su_steps.specs.CaseTableaux.{cell_of, origin_row, rows_of, tableau_of}
use Rattle.su_steps.proofs.Raw.{AreWithin}

-- ---- lengths

rows_widths : (schema : SchemaValue) (name : Sym → Sym) (own : ℕ) (os : List Origin) → AllByRecursion (λ row. length row ≡ width schema) (rows_of schema name own os)
rows_widths schema name own [] = tt
rows_widths schema name own (o ∷ os) = (length-map-range_with_len (cell_of schema name own o) 0 (width schema), rows_widths schema name (own + width schema) os)

pub length-rows : (schema : SchemaValue) (name : Sym → Sym) (own : ℕ) (os : List Origin) → length (rows_of schema name own os) ≡ length os
length-rows schema name own [] = refl
length-rows schema name own (o ∷ os) = let i = length-rows schema name (own + width schema) os in omega arith

length-sides : (cs : List SymbolComparison) → length (sides cs) ≡ 2 * length cs
length-sides [] = omega arith
length-sides (c ∷ cs) = let i = length-sides cs in omega arith

pub head_length : (name : Sym → Sym) (xs : List Sym) (m : ℕ) (d : List SymbolComparison) → length xs ≡ m → length (xs ++ sides (left_over name d)) ≡ m + 2 * length (map (λ c. c.op) (left_over name d))
head_length name xs m d e =
    let a = length-append xs (sides (left_over name d)) in
    let b = length-sides (left_over name d) in
    let c : length (map (λ c. c.op) (left_over name d)) ≡ length (left_over name d) = length-map (left_over name d) (λ c. c.op) in
    omega arith

-- ---- the head's variables

-- a side of a comparison of the list
abbrev pub IsSide : List SymbolComparison → Sym → Type 0
IsSide d x = (c : SymbolComparison) × Contains d c × ((c.left ≡ x) ⊎ (c.right ≡ x))

later_side : (name : Sym → Sym) (c : SymbolComparison) (cs : List SymbolComparison) (y : Sym) → (x : Sym) × IsSide cs x × (name x ≡ y) → (x : Sym) × IsSide (c ∷ cs) x × (name x ≡ y)
later_side name c cs y w = (w.0, (w.1.0, Contains-later c cs w.1.0 w.1.1, w.1.2), w.2)

pub of_sides : (name : Sym → Sym) (d : List SymbolComparison) (y : Sym) → Contains (sides (left_over name d)) y → (x : Sym) × IsSide d x × (name x ≡ y)
of_sides name [] y h = absurd (let l = h.1 in omega arith)
of_sides name (c ∷ cs) y h =
    elim (is_evaluated (name c.left) (name c.right)) as (λ b. Contains (sides (cond b (left_over name cs) (record { left = name c.left; op = c.op; right = name c.right } ∷ left_over name cs))) y → (x : Sym) × IsSide (c ∷ cs) x × (name x ≡ y)) [
      | true ↦ λ k. later_side name c cs y (of_sides name cs y k)
      | false ↦ λ k.
          ⊎_elim
          (λ (e : name c.left ≡ y). (c.left, (c, (0, omega arith, refl), inl refl), e))
          (λ (r : Contains (name c.right ∷ sides (left_over name cs)) y).
          ⊎_elim
          (λ (e : name c.right ≡ y). (c.right, (c, (0, omega arith, refl), inr refl), e))
          (λ (q : Contains (sides (left_over name cs)) y). later_side name c cs y (of_sides name cs y q))
          (Contains-cases (name c.right) (sides (left_over name cs)) y r))
          (Contains-cases (name c.left) (name c.right ∷ sides (left_over name cs)) y k)
    ] h

has_row : (schema : SchemaValue) (name : Sym → Sym) (own : ℕ) (os : List Origin) (o : Origin) → Contains os o → (first : ℕ) × Contains (rows_of schema name own os) (origin_row schema name first o)
has_row schema name own [] o c = absurd (let l = c.1 in omega arith)
has_row schema name own (q ∷ os) o c =
    ⊎_elim
    (λ (e : q ≡ o). (own, (0, omega arith, ap (origin_row schema name own) e)))
    (λ (r : Contains os o). let w = has_row schema name (own + width schema) os o r in (w.0, Contains-later (origin_row schema name own q) (rows_of schema name (own + width schema) os) (origin_row schema name w.0 o) w.1))
    (Contains-cases q os o c)

has_cell : (schema : SchemaValue) (name : Sym → Sym) (first : ℕ) (o : Origin) (a : ℕ) → a < width schema → contains (attributes_at schema o.object) a ≡ true → Contains (origin_row schema name first o) (name (Var (pair (width schema) o.variable a)))
has_cell schema name first o a l h =
    let x = name (Var (pair (width schema) o.variable a)) in
    let s = length-map-range_with_len (cell_of schema name first o) 0 (width schema) in
    (a, omega arith, get_or-map_range (cell_of schema name first o) (width schema) a x l ∙ cond-true (contains (attributes_at schema o.object) a) x (Var (first + a)) h)

-- the pair's symbol stands in the row of some origin
pub record HasPairIn (schema : SchemaValue) (os : List Origin) (k : ℕ) : Type 0 where
  pub origin : Origin
  pub member : Contains os origin
  pub attribute : ℕ
  pub has : contains (attributes_at schema origin.object) attribute ≡ true
  pub is : k ≡ pair (width schema) origin.variable attribute

abbrev pub Stands : SchemaValue → List Origin → Sym → Type 0
Stands schema os (Const c) = Unit {0}
Stands schema os (Var k) = HasPairIn schema os k

module _ (schema : SchemaValue) (q : Resolved) (os : List Origin) (d : List SymbolComparison) (name : Sym → Sym) (naming : IsNaming (IsClosedForCase schema os d) name) (fit : AreWithin schema)
    (outputs : (i : ℕ) → Contains q.outputs i → Stands schema os (place_symbol (width schema) q.places i))
    (side : (c : SymbolComparison) → Contains d c → Stands schema os c.left × Stands schema os c.right) where
  abbrev rows : List (List Sym)
  rows = rows_of schema name (length q.variables * width schema) os

  occurs_in : (row : List Sym) (k : ℕ) → Contains rows row → Contains row (Var k) → Occurs rows k
  occurs_in row k c h = (c.0, c.1, subst (λ r. Contains r (Var k)) (sym (get_or_default rows c.0 [] row c.1 ∙ c.2)) h)

  occurs : (x : Sym) (k : ℕ) → Stands schema os x → name x ≡ Var k → Occurs rows k
  occurs (Const a) k h e = absurd (naming.least (Const a) k e (Const a) (λ label closed. refl))
  occurs (Var p) k h e =
      let w = has_row schema name (length q.variables * width schema) os h.origin h.member in
      let c = has_cell schema name w.0 h.origin h.attribute (fit h.origin.object h.attribute h.has) h.has in
      occurs_in (origin_row schema name w.0 h.origin) k w.1 (subst (Contains (origin_row schema name w.0 h.origin)) (ap (λ j. name (Var j)) (sym h.is) ∙ e) c)

  side_stands : (x : Sym) → IsSide d x → Stands schema os x
  side_stands x s =
      ⊎_elim
      (λ (e : s.0.left ≡ x). subst (Stands schema os) e (side s.0 s.1).0)
      (λ (e : s.0.right ≡ x). subst (Stands schema os) e (side s.0 s.1).1)
      s.2

  abbrev output_names : List Sym
  output_names = map (λ i. name (place_symbol (width schema) q.places i)) q.outputs

  head_occurs : (k : ℕ) → Contains (output_names ++ sides (left_over name d)) (Var k) → Occurs rows k
  head_occurs k has =
      ⊎_elim
      (λ (l : Contains output_names (Var k)). let w = Contains-map_source (λ i. name (place_symbol (width schema) q.places i)) q.outputs (Var k) l in occurs (place_symbol (width schema) q.places w.0) k (outputs w.0 w.1) w.2)
      (λ (r : Contains (sides (left_over name d)) (Var k)). let w = of_sides name d (Var k) r in occurs w.0 k (side_stands w.0 w.1) w.2)
      (Contains-append_cases output_names (sides (left_over name d)) (Var k) has)

  pub tableau_valid : IsValid (tableau_of schema q name os d)
  tableau_valid = record {
    widths = All-from_recursion (λ row. length row ≡ width schema) rows (rows_widths schema name (length q.variables * width schema) os);
    head_length = head_length name output_names (length q.outputs) d (length-map q.outputs (λ i. name (place_symbol (width schema) q.places i)));
    head_occurs = head_occurs;
  }
