-- What the names are: a symbol that is no pair's is its own name, and names keep kinds, so that a term is well typed.
use Rattle.std.proofs.Common.{◌≡◌, ⊎_elim, ℕ, suc, ◌+◌, ◌*◌, ◌%◌, ◌<◌, ◌≤◌, true, false, cond, List, [], ◌∷◌, map, length, get_or, Contains, refl, sym, ap, ◌∙◌, arith}
use Rattle.std.specs.Prelude.{nat_eq}
use Rattle.std.specs.List.{AllByRecursion, range_with_len}
use Rattle.std.specs.FinSet.{contains}
use Rattle.std.proofs.lemmas.Bool.{cond_both, cond-true, cond-false, eq-eqb, ne_eqb, eqb-true, cases_Bool}
use Rattle.std.proofs.lemmas.Nat.{mod-mul-add}
use Rattle.std.proofs.lemmas.List.FromFn.{fill_by_all}
use Rattle.std.proofs.lemmas.List.Elements.{All-from_recursion}
use Rattle.su_base.specs.declared.values.Kind.{Kind}
use Rattle.su_base.specs.declared.values.Kind.TheVariants.{Int as IntKind, Text as TextKind}
use Rattle.su_base.proofs.Subsets.{subset_at}
use Rattle.su_base.proofs.Items.{map-map_equal, map-equal}
use Rattle.su_tableau.proofs.SymbolParts.{same_var}
use Rattle.su_where.specs.declared.operators.Op.TheVariants.{Equal}
use Rattle.su_tableau.specs.declared.symbols.Sym.{Sym}
use Rattle.su_tableau.specs.declared.symbols.Sym.TheVariants.{Const, Var}
use Rattle.su_tableau.specs.Kinds.{sym_kind, IsTyped}
use Rattle.su_schema.specs.SchemaValue.{SchemaValue}
use Rattle.su_schema.specs.Entries.{attribute_kinds}
use Rattle.su_query.specs.declared.resolving.Resolved.{Resolved}
use Rattle.su_steps.specs.declared.results.Origin.{Origin}
use Rattle.su_steps.specs.Objects.{width, attributes_at}
use Rattle.su_steps.specs.PairSymbols.{SymbolComparison, pair}
use Rattle.su_classes.specs.ClassNames.{IsNaming}
use Rattle.su_steps.specs.Classes.{IsClosedForCase}
use Rattle.su_steps.specs.CaseTableaux.{cell_of, origin_row, rows_of, tableau_of}
use Rattle.su_steps.proofs.Cells.{itself, raw_rows}
use Rattle.su_steps.proofs.Raw.{AreWithin}

-- ---- a variable that is no pair's has its own name

abbrev marks : ℕ → Sym → Sym
marks p (Const c) = Var 0
marks p (Var q) = cond (nat_eq q p) (Var 1) (Var 0)

marks_other : (p q : ℕ) → (q ≡ p → ⊥) → marks p (Var q) ≡ Var 0
marks_other p q h = cond-false (nat_eq q p) (Var 1) (Var 0) (ne_eqb q p h)

marked : (p : ℕ) (x : Sym) → marks p x ≡ Var 1 → x ≡ Var p
marked p (Const c) h = absurd (let e = same_var 0 1 h in omega arith)
marked p (Var q) h =
    ⊎_elim
    (λ (t : nat_eq q p ≡ true). ap Var (eqb-true q p t))
    (λ (f : nat_eq q p ≡ false). absurd (let e = same_var 0 1 (sym (cond-false (nat_eq q p) (Var 1) (Var 0) f) ∙ h) in omega arith))
    (cases_Bool (nat_eq q p))

abbrev pub IsPairBelow : ℕ → Sym → Type 0
IsPairBelow limit (Const c) = Unit {0}
IsPairBelow limit (Var p) = p < limit

marks_low : (p limit : ℕ) → limit ≤ p → (x : Sym) → IsPairBelow limit x → marks p x ≡ Var 0
marks_low p limit l (Const c) h = refl
marks_low p limit l (Var q) h = marks_other p q (λ e. omega arith)

pub record AreBelow (schema : SchemaValue) (limit : ℕ) (os : List Origin) (d : List SymbolComparison) : Type 0 where
  pub sides : (c : SymbolComparison) → Contains d c → IsPairBelow limit c.left × IsPairBelow limit c.right
  pub pairs : (o : Origin) (a : ℕ) → Contains os o → contains (attributes_at schema o.object) a ≡ true → o.variable * width schema + a < limit

pub own_name : (schema : SchemaValue) (os : List Origin) (d : List SymbolComparison) (name : Sym → Sym) (limit p : ℕ) → IsNaming (IsClosedForCase schema os d) name → AreBelow schema limit os d → limit ≤ p → name (Var p) ≡ Var p
own_name schema os d name limit p naming below l =
    let closed : IsClosedForCase schema os d (marks p) = record {
      equalities = λ c has e. let s = below.sides c has in marks_low p limit l c.left s.0 ∙ sym (marks_low p limit l c.right s.1);
      dependencies = λ f o q cf co cq io iq same a h.
          marks_low p limit l (Var (pair (width schema) o.variable a)) (below.pairs o a co (subset_at f.right (attributes_at schema o.object) a io.right h))
          ∙ sym (marks_low p limit l (Var (pair (width schema) q.variable a)) (below.pairs q a cq (subset_at f.right (attributes_at schema q.object) a iq.right h)));
    } in
    marked p (name (Var p)) (sym (naming.member (Var p) (marks p) closed) ∙ cond-true (nat_eq p p) (Var 1) (Var 0) (eq-eqb p p refl))

-- ---- so the named rows are those of the tableau

module _ (schema : SchemaValue) (name : Sym → Sym) (limit : ℕ) (own_names : (p : ℕ) → limit ≤ p → name (Var p) ≡ Var p) where
  cell_named : (own : ℕ) (o : Origin) (a : ℕ) → limit ≤ own → name (cell_of schema itself own o a) ≡ cell_of schema name own o a
  cell_named own o a h =
      elim (contains (attributes_at schema o.object) a) as (λ b. name (cond b (Var (pair (width schema) o.variable a)) (Var (own + a))) ≡ cond b (name (Var (pair (width schema) o.variable a))) (Var (own + a))) [
        | true ↦ refl
        | false ↦ own_names (own + a) (omega arith)
      ]

  row_named : (own : ℕ) (o : Origin) → limit ≤ own → map name (origin_row schema itself own o) ≡ origin_row schema name own o
  row_named own o h =
      map-map_equal (cell_of schema itself own o) name (λ a. name (cell_of schema itself own o a)) (λ a. refl) (range_with_len 0 (width schema))
      ∙ map-equal (λ a. name (cell_of schema itself own o a)) (cell_of schema name own o) (range_with_len 0 (width schema)) (λ a. cell_named own o a h)

  pub rows_named : (own : ℕ) (os : List Origin) → limit ≤ own → map (map name) (raw_rows schema own os) ≡ rows_of schema name own os
  rows_named own [] h = refl
  rows_named own (o ∷ os) h =
      let i = row_named own o h in
      let j = rows_named (own + width schema) os (omega arith) in
      cc

-- ---- kinds

-- the kind of a symbol by its column
abbrev pub column_kind : SchemaValue → ℕ → Kind
column_kind schema k = get_or (attribute_kinds schema) (k % width schema) IntKind

-- the two sides of each equality have one kind
abbrev pub HaveOneKind : SchemaValue → List SymbolComparison → Type 0
HaveOneKind schema d = (c : SymbolComparison) → Contains d c → c.op ≡ Equal → sym_kind (column_kind schema) c.left ≡ sym_kind (column_kind schema) c.right

abbrev kinded : Kind → Sym
kinded IntKind = Var 0
kinded TextKind = Var 1

same_kind : (k j : Kind) → kinded k ≡ kinded j → k ≡ j
same_kind IntKind IntKind h = refl
same_kind IntKind TextKind h = absurd (let e = same_var 0 1 h in omega arith)
same_kind TextKind IntKind h = absurd (let e = same_var 1 0 h in omega arith)
same_kind TextKind TextKind h = refl

next : (own r n : ℕ) → own ≡ r * n → own + n ≡ suc r * n
next own r n e = grind arith

module _ (schema : SchemaValue) (os : List Origin) (d : List SymbolComparison) (name : Sym → Sym) (naming : IsNaming (IsClosedForCase schema os d) name) (fit : AreWithin schema) (one_kind : HaveOneKind schema d) where
  abbrev kind_by : Sym → Kind
  kind_by x = sym_kind (column_kind schema) x

  pair_kind : (v a : ℕ) → a < width schema → kind_by (Var (v * width schema + a)) ≡ get_or (attribute_kinds schema) a IntKind
  pair_kind v a l = ap (λ k. get_or (attribute_kinds schema) k IntKind) (mod-mul-add v (width schema) a l)

  kinds_closed : IsClosedForCase schema os d (λ x. kinded (kind_by x))
  kinds_closed = record {
    equalities = λ c has e. ap kinded (one_kind c has e);
    dependencies = λ f o q cf co cq io iq same a h.
        let l = fit o.object a (subset_at f.right (attributes_at schema o.object) a io.right h) in
        ap kinded (pair_kind o.variable a l ∙ sym (pair_kind q.variable a l));
  }

  name_kind : (x : Sym) → kind_by (name x) ≡ kind_by x
  name_kind x = same_kind (kind_by (name x)) (kind_by x) (sym (naming.member x (λ x. kinded (kind_by x)) kinds_closed))

  cell_kind : (own r a : ℕ) (o : Origin) → own ≡ r * width schema → a < width schema → get_or (attribute_kinds schema) a IntKind ≡ kind_by (cell_of schema name own o a)
  cell_kind own r a o e l =
      cond_both (contains (attributes_at schema o.object) a) (name (Var (pair (width schema) o.variable a))) (Var (own + a)) (λ x. get_or (attribute_kinds schema) a IntKind ≡ kind_by x)
      (λ h. sym (name_kind (Var (pair (width schema) o.variable a)) ∙ pair_kind o.variable a l))
      (λ h. sym (pair_kind r a l) ∙ ap (λ k. kind_by (Var (k + a))) (sym e))

  row_kinds : (own r : ℕ) (o : Origin) → own ≡ r * width schema → map kind_by (origin_row schema name own o) ≡ attribute_kinds schema
  row_kinds own r o e =
      map-map_equal (cell_of schema name own o) kind_by (λ a. kind_by (cell_of schema name own o a)) (λ a. refl) (range_with_len 0 (width schema))
      ∙ sym (fill_by_all (λ a. kind_by (cell_of schema name own o a)) (attribute_kinds schema) (width schema) IntKind refl (λ a l. cell_kind own r a o e l))

  rows_kinds : (own r : ℕ) (os' : List Origin) → own ≡ r * width schema → AllByRecursion (λ row. map kind_by row ≡ attribute_kinds schema) (rows_of schema name own os')
  rows_kinds own r [] e = tt
  rows_kinds own r (o ∷ rest) e = (row_kinds own r o e, rows_kinds (own + width schema) (suc r) rest (next own r (width schema) e))

  pub tableau_typed : (q : Resolved) → IsTyped (attribute_kinds schema) (tableau_of schema q name os d)
  tableau_typed q = record {
    width = refl;
    var_kind = column_kind schema;
    fits = All-from_recursion (λ row. map kind_by row ≡ attribute_kinds schema) (rows_of schema name (length q.variables * width schema) os) (rows_kinds (length q.variables * width schema) (length q.variables) os refl);
  }
