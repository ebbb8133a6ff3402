-- What the closed table of a disjunct and a choice gives: no tableau, or the tableau of its names.
use Rattle.std.proofs.Common.{◌≡◌, inl, inr, ⊎_elim, ℕ, ◌+◌, ◌*◌, ◌<◌, ◌≤◌, true, List, [], map, length, get_or, Contains, sym, ap, ◌∙◌, subst, arith}
use Rattle.std.proofs.Math.Arith.{digits_lt}
use Rattle.std.specs.Prelude.{All}
use Rattle.std.proofs.lemmas.Bool.{lt-ltb, cases_lt}
use Rattle.std.proofs.lemmas.List.Elements.{All-contains, Contains-get_or}
use Rattle.su_base.specs.declared.values.Value.{Value}
use Rattle.su_base.specs.declared.values.Value.TheVariants.{Text}
use Rattle.su_base.proofs.Items.{Contains-map_source}
use Rattle.su_where.specs.declared.operators.Op.TheVariants.{Equal}
use Rattle.su_where.specs.declared.literals.Operand.{Operand}
use Rattle.su_where.specs.declared.literals.Operand.TheVariants as operand
use Rattle.su_where.specs.declared.literals.Literal.{Literal}
use Rattle.su_where.specs.Places.{IsBelow, HasPlacesBelow}
use Rattle.su_tableau.specs.declared.symbols.Sym.{Sym}
use Rattle.su_tableau.specs.Tableaux.{Tab, IsValid}
use Rattle.su_classes.specs.declared.items.Together.{Together}
use Rattle.su_classes.specs.Items.{IsPlacedBelow}
use Rattle.su_classes.specs.Tables.{rep, IsTable, IsLeastTable}
use Rattle.su_classes.specs.inside.Symbols.{is_known}
use Rattle.su_classes.proofs.Places.{numbering, own_constant, symbol_low}
use Rattle.su_schema.specs.SchemaValue.{SchemaValue}
use Rattle.su_schema.specs.Valid as schemas
use Rattle.su_query.specs.declared.resolving.Resolved.{Resolved}
use Rattle.su_query.specs.Ranges.{IsResolved}
use Rattle.su_steps.specs.declared.results.Origin.{Origin}
use Rattle.su_steps.specs.declared.classes.Classes.{Classes}
use Rattle.su_steps.specs.Objects.{width}
use Rattle.su_steps.specs.PairSymbols.{SymbolComparison, pair, place_symbol, operand_symbol, compared, comparisons}
use Rattle.su_classes.specs.ClassNames.{IsNaming}
use Rattle.su_steps.specs.Classes.{IsClosedForCase}
use Rattle.su_steps.specs.CaseTableaux.{tableau_of}
use Rattle.su_steps.specs.Cases.{HaveNone, HaveTableau}
use Rattle.su_steps.specs.inside.Numbers.{IsNoted, AreNoted, equals, placed_of, class_name, AreClasses}
use Rattle.su_steps.specs.inside.Heads.{IsSomeFalse, IsNoneFalse}
use Rattle.su_steps.specs.inside.Ready.{IsReady, AreClosed, FitLiterals, FitOrigins, IsShown}
use Rattle.su_steps.proofs.ResolvedQueries.{width_is, within, no_place, place_in}
use Rattle.su_steps.proofs.ConstantNames.{clash_of}
use Rattle.su_steps.proofs.ItemLabels.{equals_from, AreNumbered, placed_below, names, clash_class, no_clash}
use Rattle.su_steps.proofs.Valid.{Stands, tableau_valid}

-- ---- the classes after they are closed

pub are_classes : (n : ℕ) (q : Resolved) (ls : List Literal) (c : Classes) → IsReady n q ls c → n ≤ 128 → length q.variables ≤ 8 → IsTable c.table.items → AreClasses (length q.variables) c
are_classes n q ls c r narrow few ordered = record {
  size = r.size ∙ ap (λ k. length c.constants + length q.variables * k) (sym r.width);
  few_variables = few;
  narrow = (let w = r.width in omega arith);
  ordered = ordered;
}

-- ---- what fits

module _ (schema : SchemaValue) (q : Resolved) (resolved : IsResolved schema q) (ls : List Literal) (fits : FitLiterals schema q ls) where
  abbrev n : ℕ
  n = width schema

  abbrev limit : ℕ
  limit = length q.variables * n

  place_below : (i : ℕ) → i < length q.places → pair n (get_or q.places i no_place).variable (get_or q.places i no_place).attribute < limit
  place_below i h = let low = place_in schema q resolved (get_or q.places i no_place) (Contains-get_or q.places i no_place h) in digits_lt low.0 low.1

  operand_known : (vs : List Value) (x : Operand) → IsBelow (length q.places) x → IsNoted vs x → is_known vs limit (operand_symbol n q.places x) ≡ true
  operand_known vs (operand.Const c) h k = k
  operand_known vs (operand.Place i) h k = lt-ltb (pair n (get_or q.places i no_place).variable (get_or q.places i no_place).attribute) limit (place_below i h)

  -- the sides of equalities have numbers
  pub sides_known : (vs : List Value) → All (AreNoted vs) ls → (c : SymbolComparison) → Contains (comparisons n q.places ls) c → c.op ≡ Equal → (is_known vs limit c.left ≡ true) × (is_known vs limit c.right ≡ true)
  sides_known vs noted c has e =
      let w = Contains-map_source (compared n q.places) ls c has in
      let l = w.0 in
      let p = All-contains (HasPlacesBelow (length q.places)) ls l fits.places w.1 in
      let k : l.op ≡ Equal → IsNoted vs l.left × IsNoted vs l.right = All-contains (AreNoted vs) ls l noted w.1 in
      let s = k (ap (λ (c : SymbolComparison). c.op) w.2 ∙ e) in
      subst (λ (c : SymbolComparison). (is_known vs limit c.left ≡ true) × (is_known vs limit c.right ≡ true)) w.2 (operand_known vs l.left p.0 s.0, operand_known vs l.right p.1 s.1)

  -- the equalities' items are in the table
  pub equal_in : (c : Classes) → IsReady n q ls c → All (λ e. (e.left < length c.table.items) × (e.right < length c.table.items)) c.equal
  equal_in c r k e l =
      let m = numbering c.constants limit r.distinct in
      let has : Contains (equals c.constants (comparisons n q.places ls)) (get_or c.equal k e) = subst (λ xs. Contains xs (get_or c.equal k e)) r.equal (Contains-get_or c.equal k e l) in
      let w = equals_from c.constants (comparisons n q.places ls) (get_or c.equal k e) has in
      let s = sides_known c.constants r.noted w.0 w.1 w.2 in
      let size = r.size in
      subst (λ (t : Together). (t.left < length c.table.items) × (t.right < length c.table.items)) w.3
      ((let a = m.number_in w.0.left s.0 in omega arith), (let b = m.number_in w.0.right s.1 in omega arith))

  -- what is shown stands in a row
  module _ (os : List Origin) (shown : IsShown schema q os) where
    operand_stands : (x : Operand) → IsBelow (length q.places) x → Stands schema os (operand_symbol n q.places x)
    operand_stands (operand.Const c) h = tt
    operand_stands (operand.Place i) h =
        let w = shown i no_place h in
        record { origin = w.0; member = w.1; attribute = (get_or q.places i no_place).attribute; has = w.3; is = ap (λ v. pair n v (get_or q.places i no_place).attribute) (sym w.2) }

    pub outputs_stand : (i : ℕ) → Contains q.outputs i → Stands schema os (place_symbol n q.places i)
    outputs_stand i c = operand_stands (operand.Place i) (All-contains (λ o. o < length q.places) q.outputs i resolved.outputs c)

    pub sides_stand : (c : SymbolComparison) → Contains (comparisons n q.places ls) c → Stands schema os c.left × Stands schema os c.right
    sides_stand c has =
        let w = Contains-map_source (compared n q.places) ls c has in
        let p = All-contains (HasPlacesBelow (length q.places)) ls w.0 fits.places w.1 in
        subst (λ (c : SymbolComparison). Stands schema os c.left × Stands schema os c.right) w.2 (operand_stands w.0.left p.0, operand_stands w.0.right p.1)

-- ---- the outcome

module _ (schema : SchemaValue) (q : Resolved) (ls : List Literal) (os : List Origin) (c : Classes) (valid : schemas.IsValid schema) (resolved : IsResolved schema q) (fits : FitLiterals schema q ls) (fit : FitOrigins schema q os) where
  abbrev d : List SymbolComparison
  d = comparisons (width schema) q.places ls

  abbrev edge : ℕ
  edge = length q.variables * width schema

  -- the symbols of rows and equalities have numbers
  numbered : IsReady (width schema) q ls c → AreNumbered schema c.constants edge os d
  numbered ready = record {
    distinct = ready.distinct;
    sides = sides_known schema q resolved ls fits c.constants ready.noted;
    within = within schema valid;
    pairs = λ o has a l. digits_lt (All-contains (λ o. (o.variable < length q.variables) × (o.object < length schema.objects)) os o fit.in_range has).0 l;
  }

  pub rows_below : IsReady (width schema) q ls c → All (IsPlacedBelow (length c.table.items)) (map (placed_of schema c.constants) os)
  rows_below ready = placed_below schema c.constants edge os d (numbered ready) (let e = width_is schema in let few = valid.few_attributes in omega arith) (length c.table.items) ready.size

  module _ (closed : AreClosed schema q ls os c) where
    abbrev name : Sym → Sym
    name = class_name edge c

    abbrev ready : IsReady (width schema) q ls c
    ready = closed.ready

    least : IsLeastTable schema.fds (map (placed_of schema c.constants) os) (equals c.constants d) c.table.items
    least = subst (λ e. IsLeastTable schema.fds (map (placed_of schema c.constants) os) e c.table.items) ready.equal closed.least

    pub naming : IsNaming (IsClosedForCase schema os d) name
    naming = names schema c.constants edge os d (numbered ready) c.table.items ready.size least

    pub none_by_clash : ((i : ℕ) × (i < length c.constants) × (rep c.table.items i < i)) → HaveNone schema os d
    none_by_clash w =
        let i = w.0 in
        let l : i < length c.constants = w.1 in
        let less : rep c.table.items i < i = w.2 in
        let j = rep c.table.items i in
        let low : j < length c.constants = omega arith in
        let size = ready.size in
        record {
          name = name;
          naming = naming;
          contradictory = inl (
            get_or c.constants i (Text []),
            get_or c.constants j (Text []),
            clash_of c.constants c.table.items ready.distinct i l less,
            clash_class schema c.constants edge os d (numbered ready) c.table.items ready.size least i (omega arith) (get_or c.constants i (Text [])) (get_or c.constants j (Text [])) (symbol_low c.constants edge i l) (symbol_low c.constants edge j low),
          );
        }

    pub none_by_false : IsSomeFalse name d → HaveNone schema os d
    none_by_false w = record { name = name; naming = naming; contradictory = inr (w.0, w.1, w.2) }

    pub made : (((i : ℕ) × (i < length c.constants) × (rep c.table.items i < i)) → ⊥) → IsNoneFalse name d → (t : Tab) → t ≡ tableau_of schema q name os d → HaveTableau schema q os d t
    made no' none t is = record {
      name = name;
      naming = naming;
      consistent = no_clash schema os d name naming
          (λ a. own_constant c.constants edge c.table.items a
          (λ i l.
          let b = least.ordered.below i (let s = ready.size in omega arith) in
          ⊎_elim (λ (less : rep c.table.items i < i). absurd (no' (i, l, less))) (λ (ge : i ≤ rep c.table.items i). omega arith) (cases_lt (rep c.table.items i) i)))
          none;
      is = is;
    }

    pub valid_of : IsShown schema q os → IsValid (tableau_of schema q name os d)
    valid_of shown = tableau_valid schema q os d name naming (within schema valid) (outputs_stand schema q resolved ls fits os shown) (sides_stand schema q resolved ls fits os shown)
