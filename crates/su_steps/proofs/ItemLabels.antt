-- Labels of symbols as labels of items: closed partitions keep equalities and dependencies, and the table's names are closed.
use Rattle.std.proofs.Common.{◌≡◌, ◌≢◌, ℕ, ◌+◌, ◌<◌, ◌≤◌, ⊎_elim, true, false, cond, List, [], ◌∷◌, map, length, get_or, Contains, refl, sym, ap, ◌∙◌, subst, arith}
use Rattle.std.specs.Prelude.{All}
use Rattle.std.specs.FinSet.{contains}
use Rattle.std.proofs.lemmas.Bool.{lt-ltb, false≢true}
use Rattle.std.proofs.lemmas.List.Elements.{All-contains, Contains-get_or}
use Rattle.std.proofs.lemmas.List.FromFn.{length-map-range_with_len}
use Rattle.su_base.specs.declared.values.Value.{Value}
use Rattle.su_base.proofs.Subsets.{subset_at}
use Rattle.su_base.proofs.Items.{Contains-later, Contains-cases, Contains-map, Contains-map_source, get_or-map_range}
use Rattle.su_fd.specs.declared.dependencies.Fd.{Fd}
use Rattle.su_where.specs.declared.operators.Op.{Op}
use Rattle.su_where.specs.declared.operators.Op.TheVariants.{Equal, NotEqual, Less, LessEqual, Greater, GreaterEqual}
use Rattle.su_tableau.specs.declared.symbols.Sym.{Sym}
use Rattle.su_tableau.specs.declared.symbols.Sym.TheVariants.{Const, Var}
use Rattle.su_tableau.proofs.SymbolParts.{same_const}
use Rattle.su_classes.specs.declared.items.Placed.{Placed}
use Rattle.su_classes.specs.declared.items.Together.{Together}
use Rattle.su_classes.specs.Items.{item_of, SameItemLabels, Keeps, KeepsAll, IsPlacedBelow}
use Rattle.su_classes.specs.Tables.{rep, IsLeastTable}
use Rattle.su_classes.specs.Symbols.{symbol_at}
use Rattle.su_classes.specs.inside.Symbols.{AreDistinct, is_known, symbol_number, name_in}
use Rattle.su_classes.proofs.Places.{IsNumbering, numbering}
use Rattle.su_classes.proofs.Named.{same_rep, same_name, item_class, table_names}
use Rattle.su_schema.specs.SchemaValue.{SchemaValue}
use Rattle.su_steps.specs.declared.results.Origin.{Origin}
use Rattle.su_fd.specs.MetDependencies.{LiesIn}
use Rattle.su_steps.specs.Objects.{width, attributes_at}
use Rattle.su_steps.specs.PairSymbols.{SymbolComparison, pair}
use Rattle.su_classes.specs.ClassNames.{InClass, IsNaming}
use Rattle.su_steps.specs.Classes.{SamePairLabels, IsClosedForCase}
use Rattle.su_steps.specs.Evaluated.{EvaluatesFalse}
use Rattle.su_steps.specs.Cases.{IsContradictory}
use Rattle.su_steps.specs.inside.Numbers.{is_equality, equals, placed_of}
use Rattle.su_steps.proofs.Raw.{AreWithin}

-- ---- the equalities

equal_is : (op : Op) → is_equality op ≡ true → op ≡ Equal
equal_is Equal h = refl
equal_is NotEqual h = absurd (false≢true h)
equal_is Less h = absurd (false≢true h)
equal_is LessEqual h = absurd (false≢true h)
equal_is Greater h = absurd (false≢true h)
equal_is GreaterEqual h = absurd (false≢true h)

abbrev sides_of : List Value → SymbolComparison → Together
sides_of vs c = record { left = symbol_number vs c.left; right = symbol_number vs c.right }

pub equals_from : (vs : List Value) (d : List SymbolComparison) (e : Together) → Contains (equals vs d) e → (c : SymbolComparison) × Contains d c × (c.op ≡ Equal) × (sides_of vs c ≡ e)
equals_from vs [] e h = absurd (let l = h.1 in omega arith)
equals_from vs (c ∷ cs) e h =
    elim (is_equality c.op) as (λ b. is_equality c.op ≡ b → Contains (cond b (sides_of vs c ∷ equals vs cs) (equals vs cs)) e → (x : SymbolComparison) × Contains (c ∷ cs) x × (x.op ≡ Equal) × (sides_of vs x ≡ e)) [
      | true ↦ λ t k.
          ⊎_elim
          (λ (now : sides_of vs c ≡ e). (c, (0, omega arith, refl), equal_is c.op t, now))
          (λ (r : Contains (equals vs cs) e). let w = equals_from vs cs e r in (w.0, Contains-later c cs w.0 w.1, w.2, w.3))
          (Contains-cases (sides_of vs c) (equals vs cs) e k)
      | false ↦ λ f k. let w = equals_from vs cs e k in (w.0, Contains-later c cs w.0 w.1, w.2, w.3)
    ] refl h

equals_to : (vs : List Value) (d : List SymbolComparison) (c : SymbolComparison) → Contains d c → c.op ≡ Equal → Contains (equals vs d) (sides_of vs c)
equals_to vs [] c h e = absurd (let l = h.1 in omega arith)
equals_to vs (x ∷ xs) c h e =
    elim (is_equality x.op) as (λ b. is_equality x.op ≡ b → Contains (cond b (sides_of vs x ∷ equals vs xs) (equals vs xs)) (sides_of vs c)) [
      | true ↦ λ t.
          ⊎_elim
          (λ (now : x ≡ c). (0, omega arith, ap (sides_of vs) now))
          (λ (r : Contains xs c). Contains-later (sides_of vs x) (equals vs xs) (sides_of vs c) (equals_to vs xs c r e))
          (Contains-cases x xs c h)
      | false ↦ λ f.
          ⊎_elim
          (λ (now : x ≡ c). absurd (false≢true (sym f ∙ ap is_equality (ap (λ z. z.op) now ∙ e))))
          (λ (r : Contains xs c). equals_to vs xs c r e)
          (Contains-cases x xs c h)
    ] refl

-- ---- the rows

-- symbols that have numbers: the sides of equalities, and the pairs of the origins' variables
pub record AreNumbered (schema : SchemaValue) (vs : List Value) (limit : ℕ) (os : List Origin) (d : List SymbolComparison) : Type 0 where
  pub distinct : AreDistinct vs
  pub sides : (c : SymbolComparison) → Contains d c → c.op ≡ Equal → (is_known vs limit c.left ≡ true) × (is_known vs limit c.right ≡ true)
  pub within : AreWithin schema
  pub pairs : (o : Origin) → Contains os o → (a : ℕ) → a < width schema → pair (width schema) o.variable a < limit

module _ (schema : SchemaValue) (vs : List Value) (limit : ℕ) (os : List Origin) (d : List SymbolComparison) (n : AreNumbered schema vs limit os d) where
  abbrev placed : Origin → Placed
  placed o = placed_of schema vs o

  abbrev rows : List Placed
  rows = map placed os

  -- the symbol of a row's pair
  abbrev at : Origin → ℕ → Sym
  at o a = Var (pair (width schema) o.variable a)

  at_known : (o : Origin) → Contains os o → (a : ℕ) → a < width schema → is_known vs limit (at o a) ≡ true
  at_known o c a l = lt-ltb (pair (width schema) o.variable a) limit (n.pairs o c a l)

  -- the item at an attribute is the number of the pair
  cell_is : (o : Origin) (a : ℕ) → a < width schema → item_of (placed o) a ≡ symbol_number vs (at o a)
  cell_is o a l = get_or-map_range (λ b. symbol_number vs (at o b)) (width schema) a 0 l

  symbol_is : (o : Origin) → Contains os o → (a : ℕ) → a < width schema → symbol_at vs (item_of (placed o) a) ≡ at o a
  symbol_is o c a l = ap (symbol_at vs) (cell_is o a l) ∙ (numbering vs limit n.distinct).back (at o a) (at_known o c a l)

  left_below : (f : Fd) (o : Origin) → LiesIn f (attributes_at schema o.object) → (a : ℕ) → contains f.left a ≡ true → a < width schema
  left_below f o lies a h = n.within o.object a (subset_at f.left (attributes_at schema o.object) a lies.left h)

  right_below : (f : Fd) (o : Origin) → LiesIn f (attributes_at schema o.object) → (a : ℕ) → contains f.right a ≡ true → a < width schema
  right_below f o lies a h = n.within o.object a (subset_at f.right (attributes_at schema o.object) a lies.right h)

  -- the rows of items are in a table of all items
  pub placed_below : width schema ≤ 128 → (count : ℕ) → count ≡ length vs + limit → All (IsPlacedBelow count) rows
  placed_below narrow count size i e l =
      let r = get_or rows i e in
      let w = Contains-map_source placed os r (Contains-get_or rows i e l) in
      subst (IsPlacedBelow count) w.2
      (record {
        narrow = let s = length-map-range_with_len (λ a. symbol_number vs (at w.0 a)) 0 (width schema) in omega arith;
        wide = λ a h. let b = n.within w.0.object a h in let s = length-map-range_with_len (λ a. symbol_number vs (at w.0 a)) 0 (width schema) in omega arith;
        below = λ a h.
            let b = n.within w.0.object a h in
            let low = (numbering vs limit n.distinct).number_in (at w.0 a) (at_known w.0 w.1 a b) in
            let c = cell_is w.0 a b in
            omega arith;
      })

  -- ---- labels of symbols as labels of items

  module _ (label : Sym → Sym) (closed : IsClosedForCase schema os d label) where
    abbrev by_item : ℕ → Sym
    by_item i = label (symbol_at vs i)

    equal_kept : (e : Together) → Contains (equals vs d) e → by_item e.left ≡ by_item e.right
    equal_kept e has =
        let w = equals_from vs d e has in
        let c = w.0 in
        let s = n.sides c w.1 w.2 in
        let b = (numbering vs limit n.distinct).back in
        subst (λ (t : Together). by_item t.left ≡ by_item t.right) w.3 (ap label (b c.left s.0) ∙ closed.equalities c w.1 w.2 ∙ ap label (sym (b c.right s.1)))

    kept_at : (f : Fd) (o q : Origin) → Contains schema.fds f → Contains os o → Contains os q → LiesIn f (placed o).has → LiesIn f (placed q).has → SameItemLabels by_item f.left (placed o) (placed q) → SameItemLabels by_item f.right (placed o) (placed q)
    kept_at f o q cf co cq o_lies q_lies same a h =
        let io : LiesIn f (attributes_at schema o.object) = o_lies in
        let iq : LiesIn f (attributes_at schema q.object) = q_lies in
        let left : SamePairLabels (width schema) label f.left o.variable q.variable = λ b g.
        let l = left_below f o io b g in
        ap label (sym (symbol_is o co b l)) ∙ same b g ∙ ap label (symbol_is q cq b l) in
        let l = right_below f o io a h in
        ap label (symbol_is o co a l) ∙ closed.dependencies f o q cf co cq io iq left a h ∙ ap label (sym (symbol_is q cq a l))

    pub labels_kept : KeepsAll schema.fds rows (equals vs d) by_item
    labels_kept = record {
      equalities = λ k e l. equal_kept (get_or (equals vs d) k e) (Contains-get_or (equals vs d) k e l);
      dependencies = λ k f l r s cr cs.
          let g = get_or schema.fds k f in
          let o = Contains-map_source placed os r cr in
          let q = Contains-map_source placed os s cs in
          subst (λ (x : Placed). LiesIn g x.has → LiesIn g s.has → SameItemLabels by_item g.left x s → SameItemLabels by_item g.right x s) o.2
          (subst (λ (y : Placed). LiesIn g (placed o.0).has → LiesIn g y.has → SameItemLabels by_item g.left (placed o.0) y → SameItemLabels by_item g.right (placed o.0) y) q.2
          (kept_at g o.0 q.0 (Contains-get_or schema.fds k f l) o.1 q.1));
    }

  -- ---- the names by the table of the least classes

  module _ (table : List ℕ) (size : length table ≡ length vs + limit) (least : IsLeastTable schema.fds rows (equals vs d) table) where
    abbrev name : Sym → Sym
    name = name_in vs limit table

    numbers : IsNumbering (length vs) (length table) (is_known vs limit) (symbol_number vs) (symbol_at vs)
    numbers = subst (λ (k : ℕ). IsNumbering (length vs) k (is_known vs limit) (symbol_number vs) (symbol_at vs)) (sym size) (numbering vs limit n.distinct)

    one_name : (x z : Sym) → is_known vs limit x ≡ true → is_known vs limit z ≡ true → rep table (symbol_number vs x) ≡ rep table (symbol_number vs z) → name x ≡ name z
    one_name = same_name (length vs) table (is_known vs limit) (symbol_number vs) (symbol_at vs) numbers least.ordered

    one_rep : (x z : Sym) → is_known vs limit x ≡ true → is_known vs limit z ≡ true → name x ≡ name z → rep table (symbol_number vs x) ≡ rep table (symbol_number vs z)
    one_rep = same_rep (length vs) table (is_known vs limit) (symbol_number vs) (symbol_at vs) numbers least.ordered

    names_closed : IsClosedForCase schema os d name
    names_closed = record {
      equalities = λ c has e.
          let s = n.sides c has e in
          one_name c.left c.right s.0 s.1 (All-contains (λ (t : Together). rep table t.left ≡ rep table t.right) (equals vs d) (sides_of vs c) least.kept.equalities (equals_to vs d c has e));
      dependencies = λ f o q cf co cq io iq same a h.
          let keeps = All-contains (Keeps (rep table) rows) schema.fds f least.kept.dependencies cf in
          let left : SameItemLabels (rep table) f.left (placed o) (placed q) = λ b g.
          let l = left_below f o io b g in
          ap (rep table) (cell_is o b l) ∙ one_rep (at o b) (at q b) (at_known o co b l) (at_known q cq b l) (same b g) ∙ ap (rep table) (sym (cell_is q b l)) in
          let right = keeps (placed o) (placed q) (Contains-map placed os o co) (Contains-map placed os q cq) (record { left = io.left; right = io.right }) (record { left = iq.left; right = iq.right }) left a h in
          let l = right_below f o io a h in
          one_name (at o a) (at q a) (at_known o co a l) (at_known q cq a l) (ap (rep table) (sym (cell_is o a l)) ∙ right ∙ ap (rep table) (cell_is q a l));
    }

    pub names : IsNaming (IsClosedForCase schema os d) name
    names = table_names (IsClosedForCase schema os d) schema.fds rows (equals vs d) (length vs) table (is_known vs limit) (symbol_number vs) (symbol_at vs) numbers least labels_kept names_closed

    -- a constant whose item has another constant's for its representative is in the other's class
    pub clash_class : (i : ℕ) → i < length table → (a b : Value) → symbol_at vs i ≡ Const a → symbol_at vs (rep table i) ≡ Const b → InClass (IsClosedForCase schema os d) (Const a) (Const b)
    clash_class i l a b ea eb label p =
        ap label (sym ea) ∙ item_class (IsClosedForCase schema os d) schema.fds rows (equals vs d) (length vs) table (is_known vs limit) (symbol_number vs) (symbol_at vs) numbers least labels_kept i l label p ∙ ap label eb

-- ---- contradictions

module _ (schema : SchemaValue) (os : List Origin) (d : List SymbolComparison) (name : Sym → Sym) (naming : IsNaming (IsClosedForCase schema os d) name) where
  -- two constants with different names of their own are in different classes
  pub no_clash : ((a : Value) → name (Const a) ≡ Const a) → ((c : SymbolComparison) → Contains d c → ¬ EvaluatesFalse name c) → ¬ IsContradictory schema os d name
  no_clash own none bad =
      ⊎_elim
      (λ (b : (a : Value) × (c : Value) × (a ≢ c) × InClass (IsClosedForCase schema os d) (Const a) (Const c)). b.2 (same_const b.0 b.1 (sym (own b.0) ∙ naming.one_name (Const b.0) (Const b.1) b.3 ∙ own b.1)))
      (λ (b : (c : SymbolComparison) × Contains d c × EvaluatesFalse name c). none b.0 b.1 b.2)
      bad
