-- A valuation of a choice's rows is the same as one list of values per variable.
use Rattle.std.proofs.Common.{◌≡◌, ◌↔◌, ℕ, suc, ◌+◌, ◌*◌, ◌/◌, ◌%◌, ◌-◌, ◌<◌, Bool, true, cond, ltb, pos, List, [], ◌∷◌, map, length, get_or, Contains, refl, sym, ap, ◌∙◌, subst, arith}
use Rattle.std.proofs.Math.Arith.{digits_lt}
use Rattle.std.specs.List.{AllByRecursion, range_with_len, list_any}
use Rattle.std.specs.FinSet.{contains}
use Rattle.std.proofs.lemmas.Bool.{cond-true, cond-false, cond_both, lt-ltb, le-ltb}
use Rattle.std.proofs.lemmas.Nat.{div-add-mod', div-mul-add, mod-mul-add}
use Rattle.std.proofs.lemmas.List.{length-map, get_or-map}
use Rattle.std.proofs.lemmas.List.Elements.{All-contains}
use Rattle.std.proofs.lemmas.List.FromFn.{length-map-range_with_len, fill_by_all}
use Rattle.std.proofs.lemmas.List.Folds.{Any-from_list_any, list_any_at}
use Rattle.su_base.specs.declared.values.Kind.{Kind}
use Rattle.su_base.specs.declared.values.Kind.TheVariants.{Int as IntKind, Text as TextKind}
use Rattle.su_base.specs.declared.values.Value.{Value}
use Rattle.su_base.specs.declared.values.Value.TheVariants.{Int, Text}
use Rattle.su_base.specs.Value.{kind_of}
use Rattle.su_base.proofs.Items.{Contains-map, Contains-map_source, AllByRecursion-contains, AllByRecursion-members, map-map_equal, get_or-map_range}
use Rattle.su_where.specs.Operator.{compares}
use Rattle.su_tableau.specs.declared.symbols.Sym.{Sym}
use Rattle.su_tableau.specs.declared.symbols.Sym.TheVariants.{Const, Var}
use Rattle.su_tableau.specs.Valuations.{value_of, values_of}
use Rattle.su_tableau.specs.Kinds.{IsUniverse}
use Rattle.su_schema.specs.SchemaValue.{SchemaValue}
use Rattle.su_schema.specs.Entries.{attribute_kinds}
use Rattle.su_steps.specs.declared.results.Origin.{Origin}
use Rattle.su_steps.specs.Objects.{width, attributes_at}
use Rattle.su_steps.specs.Expression.{cut, cuts, Agree}
use Rattle.su_steps.specs.Choices.{origin, origins_from}
use Rattle.su_steps.specs.PairSymbols.{SymbolComparison}
use Rattle.su_steps.specs.CaseTableaux.{cell_of, origin_row}
use Rattle.su_schema.proofs.Cuts.{cut_agrees}
use Rattle.su_steps.proofs.Cells.{itself, raw_rows, Sent, IsAt, rows_at, origins_at, origins_by}
use Rattle.su_steps.proofs.Raw.{AreWithin, AllTrue, pair_value, InLists, RawAnswer, IsShown, AreShown}

-- ---- valuations that agree on what is mentioned

pub values_move : (w v : ℕ → Value) (xs : List Sym) → AllByRecursion (λ x. value_of w x ≡ value_of v x) xs → values_of w xs ≡ values_of v xs
values_move w v [] h = refl
values_move w v (x ∷ xs) h = let i = values_move w v xs h.1 in let j = h.0 in cc

pub truth_moves : (w v : ℕ → Value) (d : List SymbolComparison) → AllByRecursion (λ c. value_of w c.left ≡ value_of v c.left) d → AllByRecursion (λ c. value_of w c.right ≡ value_of v c.right) d → AllTrue w d → AllTrue v d
truth_moves w v [] l r h = tt
truth_moves w v (c ∷ cs) l r h =
    let e : compares c.op (value_of w c.left) (value_of w c.right) ≡ compares c.op (value_of v c.left) (value_of v c.right) = ap (λ x. compares c.op x (value_of w c.right)) l.0 ∙ ap (compares c.op (value_of v c.left)) r.0 in
    (sym e ∙ h.0, truth_moves w v cs l.1 r.1 h.1)

-- what holds of each shown symbol holds of all
shown_all : {X : Type 0} (schema : SchemaValue) (choice : List (List ℕ)) (f : X → Sym) (P : Sym → Type 0) → ((x : Sym) → IsShown schema choice x → P x) → (xs : List X) → AllByRecursion (λ x. IsShown schema choice (f x)) xs → AllByRecursion (λ x. P (f x)) xs
shown_all schema choice f P g [] h = tt
shown_all schema choice f P g (x ∷ xs) h = (g (f x) h.0, shown_all schema choice f P g xs h.1)

-- ---- cuts

row_length : (kinds : List Kind) (u : List Value) → map kind_of u ≡ kinds → length u ≡ length kinds
row_length kinds u e = sym (length-map u kind_of) ∙ ap length e

module _ (schema : SchemaValue) (universe : List (List Value)) (typed : IsUniverse (attribute_kinds schema) universe) where
  row_kinds : (u : List Value) → Contains universe u → map kind_of u ≡ attribute_kinds schema
  row_kinds u c = All-contains (λ row. map kind_of row ≡ attribute_kinds schema) universe u typed c

  row_width : (u : List Value) → Contains universe u → length u ≡ width schema
  row_width u c = row_length (attribute_kinds schema) u (row_kinds u c)

  in_cuts : (o : ℕ) (x u : List Value) → length x ≡ width schema → Contains universe u → Agree (attributes_at schema o) x u → Contains (cuts schema universe o) (cut (attributes_at schema o) x)
  in_cuts o x u l c a = subst (Contains (cuts schema universe o)) (sym ((cut_agrees (attributes_at schema o) x u (l ∙ sym (row_width u c))).1 a)) (Contains-map (cut (attributes_at schema o)) universe u c)

  of_cuts : (o : ℕ) (x : List Value) → length x ≡ width schema → Contains (cuts schema universe o) (cut (attributes_at schema o) x) → (u : List Value) × Contains universe u × Agree (attributes_at schema o) x u
  of_cuts o x l h =
      let w = Contains-map_source (cut (attributes_at schema o)) universe (cut (attributes_at schema o) x) h in
      (w.0, w.1, (cut_agrees (attributes_at schema o) x w.0 (l ∙ sym (row_width w.0 w.1))).0 (sym w.2))

-- ---- from a valuation to lists

-- whether some object of these has the attribute
abbrev shows : SchemaValue → List ℕ → ℕ → Bool
shows schema m a = list_any (λ o. contains (attributes_at schema o) a) m

shows_at : (schema : SchemaValue) (m : List ℕ) (o a : ℕ) → Contains m o → contains (attributes_at schema o) a ≡ true → shows schema m a ≡ true
shows_at schema m o a c h = list_any_at (λ q. contains (attributes_at schema q) a) m c.0 o c.1 (ap (λ q. contains (attributes_at schema q) a) c.2 ∙ h)

abbrev plain : Kind → Value
plain IntKind = Int (pos 0)
plain TextKind = Text []

kind_of-plain : (k : Kind) → k ≡ kind_of (plain k)
kind_of-plain IntKind = refl
kind_of-plain TextKind = refl

module _ (schema : SchemaValue) (universe : List (List Value)) (choice : List (List ℕ)) (typed : IsUniverse (attribute_kinds schema) universe) (fit : AreWithin schema) where
  module _ (w : ℕ → Value) (sends : Sent w (raw_rows schema (length choice * width schema) (origins_from 0 choice)) universe) where
    abbrev value_in : ℕ → ℕ → Value
    value_in v a = cond (shows schema (get_or choice v []) a) (w (v * width schema + a)) (plain (get_or (attribute_kinds schema) a IntKind))

    abbrev list_of : ℕ → List Value
    list_of v = map (value_in v) (range_with_len 0 (width schema))

    -- a row of the universe for each variable and object
    row_for : (v : ℕ) → v < length choice → (o : ℕ) → Contains (get_or choice v []) o → IsAt schema w universe (origin v o)
    row_for v l o c =
        AllByRecursion-contains (λ o. IsAt schema w universe (origin v o)) (get_or choice v []) o
        (origins_at (IsAt schema w universe) 0 choice (rows_at schema w universe (length choice * width schema) (origins_from 0 choice) sends) v v (omega arith) l)
        c

    read_in : (v a o : ℕ) (d : Value) → Contains (get_or choice v []) o → contains (attributes_at schema o) a ≡ true → a < width schema → get_or (list_of v) a d ≡ w (v * width schema + a)
    read_in v a o d c h l = get_or-map_range (value_in v) (width schema) a d l ∙ cond-true (shows schema (get_or choice v []) a) _ _ (shows_at schema (get_or choice v []) o a c h)

    lists_within : (v : ℕ) → v < length choice → AllByRecursion (λ o. Contains (cuts schema universe o) (cut (attributes_at schema o) (list_of v))) (get_or choice v [])
    lists_within v l =
        AllByRecursion-members (λ o. Contains (cuts schema universe o) (cut (attributes_at schema o) (list_of v))) (get_or choice v [])
        (λ o c.
        let r = row_for v l o c in
        in_cuts schema universe typed o (list_of v) r.0 (length-map-range_with_len (value_in v) 0 (width schema)) r.1 (λ a d h. let i = fit o a h in read_in v a o d c h i ∙ sym (r.2 a d i h)))

    kind_in : (v : ℕ) → v < length choice → (a : ℕ) → a < width schema → get_or (attribute_kinds schema) a IntKind ≡ kind_of (value_in v a)
    kind_in v l a i =
        cond_both (shows schema (get_or choice v []) a) (w (v * width schema + a)) (plain (get_or (attribute_kinds schema) a IntKind)) (λ x. get_or (attribute_kinds schema) a IntKind ≡ kind_of x)
        (λ yes'.
        let o = Any-from_list_any (λ o. contains (attributes_at schema o) a) (get_or choice v []) yes' in
        let r = row_for v l o.1 (o.0, o.2, o.3) in
        let k = row_kinds schema universe typed r.0 r.1 in
        let same : length r.0 ≡ width schema = row_width schema universe typed r.0 r.1 in
        sym (ap (λ xs. get_or xs a IntKind) k) ∙ get_or-map kind_of r.0 a (Int (pos 0)) IntKind (omega arith) ∙ ap kind_of (r.2 a (Int (pos 0)) i o.4))
        (λ no'. kind_of-plain (get_or (attribute_kinds schema) a IntKind))

    lists_typed : (v : ℕ) → v < length choice → map kind_of (list_of v) ≡ attribute_kinds schema
    lists_typed v l =
        map-map_equal (value_in v) kind_of (λ a. kind_of (value_in v a)) (λ a. refl) (range_with_len 0 (width schema))
        ∙ sym (fill_by_all (λ a. kind_of (value_in v a)) (attribute_kinds schema) (width schema) IntKind refl (λ a i. kind_in v l a i))

    same_values : (x : Sym) → IsShown schema choice x → value_of w x ≡ value_of (pair_value (width schema) list_of) x
    same_values (Const c) h = refl
    same_values (Var p) h =
        let i = fit h.object (p % width schema) h.has in
        sym (read_in (p / width schema) (p % width schema) h.object (Int (pos 0)) h.takes h.has i ∙ ap w (div-add-mod' p (width schema)))

  pub to_lists : (outputs : List Sym) (d : List SymbolComparison) (h : List Value) → AreShown schema choice outputs d → RawAnswer schema universe choice outputs d h → InLists schema universe choice outputs d h
  to_lists outputs d h shown r =
      let v = pair_value (width schema) (list_of r.valuation r.sends) in
      let P : Sym → Type 0 = λ x. value_of r.valuation x ≡ value_of v x in
      let g : (x : Sym) → IsShown schema choice x → P x = same_values r.valuation r.sends in
      record {
        lists = list_of r.valuation r.sends;
        typed = lists_typed r.valuation r.sends;
        within = lists_within r.valuation r.sends;
        holds = truth_moves r.valuation v d (shown_all schema choice (λ c. c.left) P g d shown.in_lefts) (shown_all schema choice (λ c. c.right) P g d shown.in_rights) r.holds;
        gives = sym (values_move r.valuation v outputs (shown_all schema choice (λ x. x) P g outputs shown.in_outputs)) ∙ r.gives;
      }

-- ---- from lists to a valuation

-- below own the one, from own on the other
abbrev joined : ℕ → (ℕ → Value) → (ℕ → Value) → ℕ → Value
joined own g f p = cond (ltb p own) (g p) (f (p - own))

joined_low : (own : ℕ) (g f : ℕ → Value) (p : ℕ) → p < own → joined own g f p ≡ g p
joined_low own g f p h = cond-true (ltb p own) (g p) (f (p - own)) (lt-ltb p own h)

joined_high : (own : ℕ) (g f : ℕ → Value) (p q : ℕ) → p ≡ own + q → joined own g f p ≡ f q
joined_high own g f p q e =
    cond-false (ltb p own) (g p) (f (p - own)) (le-ltb p own (omega arith)) ∙ ap f (omega arith)

turned : (own r a n : ℕ) → own + n + (r * n + a) ≡ own + (suc r * n + a)
turned own r a n = grind arith

module _ (schema : SchemaValue) (universe : List (List Value)) (typed : IsUniverse (attribute_kinds schema) universe) (own0 : ℕ) (g : ℕ → Value) where
  -- the row of the universe that an origin picks
  abbrev Picks : Origin → Type 0
  Picks o = (u : List Value) × Contains universe u × ((a : ℕ) → contains (attributes_at schema o.object) a ≡ true → (o.variable * width schema + a < own0) × (get_or u a (Int (pos 0)) ≡ g (o.variable * width schema + a)))

  abbrev picked : (os : List Origin) → AllByRecursion Picks os → List (List Value)
  picked [] h = []
  picked (o ∷ os) h = h.0.0 ∷ picked os h.1

  module _ (w : ℕ → Value) (low : (p : ℕ) → p < own0 → w p ≡ g p) where
    row_is : (own : ℕ) (o : Origin) (p : Picks o) → ((a : ℕ) → a < width schema → w (own + a) ≡ get_or p.0 a (Int (pos 0))) → p.0 ≡ values_of w (origin_row schema itself own o)
    row_is own o p high =
        let same : length p.0 ≡ width schema = row_width schema universe typed p.0 p.1 in
        fill_by_all (λ a. value_of w (cell_of schema itself own o a)) p.0 (width schema) (Int (pos 0)) same
        (λ a l.
        cond_both (contains (attributes_at schema o.object) a) (Var (o.variable * width schema + a)) (Var (own + a)) (λ x. get_or p.0 a (Int (pos 0)) ≡ value_of w x)
        (λ h. (p.2 a h).1 ∙ sym (low (o.variable * width schema + a) (p.2 a h).0))
        (λ h. sym (high a l)))
        ∙ sym (map-map_equal (cell_of schema itself own o) (value_of w) (λ a. value_of w (cell_of schema itself own o a)) (λ a. refl) (range_with_len 0 (width schema)))

    sends_picked : (own : ℕ) (os : List Origin) (ps : AllByRecursion Picks os) → ((r a : ℕ) → a < width schema → w (own + (r * width schema + a)) ≡ get_or (get_or (picked os ps) r []) a (Int (pos 0))) → Sent w (raw_rows schema own os) universe
    sends_picked own [] ps high = tt
    sends_picked own (o ∷ os) ps high = (
      subst (Contains universe) (row_is own o ps.0 (λ a l. ap w (omega arith) ∙ high 0 a l)) ps.0.1,
      sends_picked (own + width schema) os ps.1 (λ r a l. ap w (turned own r a (width schema)) ∙ high (suc r) a l),
    )

pub pair_at : (n : ℕ) (lists : ℕ → List Value) (v a : ℕ) → a < n → pair_value n lists (v * n + a) ≡ get_or (lists v) a (Int (pos 0))
pair_at n lists v a h =
    ap (λ q. get_or (lists q) ((v * n + a) % n) (Int (pos 0))) (div-mul-add v n a h) ∙ ap (λ q. get_or (lists v) q (Int (pos 0))) (mod-mul-add v n a h)

below_at : (p v k n a : ℕ) → v * n + a ≡ p → v < k → a < n → p < k * n
below_at p v k n a e h l = let b : v * n + a < k * n = digits_lt h l in omega arith

module _ (schema : SchemaValue) (universe : List (List Value)) (choice : List (List ℕ)) (outputs : List Sym) (d : List SymbolComparison) (h : List Value) (typed : IsUniverse (attribute_kinds schema) universe) (fit : AreWithin schema) (e : InLists schema universe choice outputs d h) where
  abbrev own0 : ℕ
  own0 = length choice * width schema

  abbrev g : ℕ → Value
  g = pair_value (width schema) e.lists

  picks_for : (v : ℕ) → v < length choice → AllByRecursion (λ o. Picks schema universe typed own0 g (origin v o)) (get_or choice v [])
  picks_for v l =
      AllByRecursion-members (λ o. Picks schema universe typed own0 g (origin v o)) (get_or choice v [])
      (λ o c.
      let r = of_cuts schema universe typed o (e.lists v) (row_length (attribute_kinds schema) (e.lists v) (e.typed v l)) (AllByRecursion-contains (λ o. Contains (cuts schema universe o) (cut (attributes_at schema o) (e.lists v))) (get_or choice v []) o (e.within v l) c) in (
        r.0,
        r.1,
        λ a i.
            let b = fit o a i in
            (digits_lt l b, sym (r.2 a (Int (pos 0)) i) ∙ sym (pair_at (width schema) e.lists v a b)),
      ))

  picks : AllByRecursion (Picks schema universe typed own0 g) (origins_from 0 choice)
  picks =
      origins_by (Picks schema universe typed own0 g) 0 choice
      (λ i j same l. subst (λ k. AllByRecursion (λ o. Picks schema universe typed own0 g (origin k o)) (get_or choice i [])) (omega arith) (picks_for i l))

  abbrev rows_picked : ℕ → List Value
  rows_picked r = get_or (picked schema universe typed own0 g (origins_from 0 choice) picks) r []

  abbrev w : ℕ → Value
  w = joined own0 g (pair_value (width schema) rows_picked)

  w_same : (x : Sym) → IsShown schema choice x → value_of g x ≡ value_of w x
  w_same (Const c) i = refl
  w_same (Var p) i =
      let b = fit i.object (p % width schema) i.has in
      sym (joined_low own0 g (pair_value (width schema) rows_picked) p (below_at p (p / width schema) (length choice) (width schema) (p % width schema) (div-add-mod' p (width schema)) i.variable_in b))

  pub to_raw : AreShown schema choice outputs d → RawAnswer schema universe choice outputs d h
  to_raw shown =
      let n = width schema in
      let P : Sym → Type 0 = λ x. value_of g x ≡ value_of w x in
      record {
        valuation = w;
        sends = sends_picked schema universe typed own0 g w (joined_low own0 g (pair_value n rows_picked)) own0 (origins_from 0 choice) picks
            (λ r a l. joined_high own0 g (pair_value n rows_picked) (own0 + (r * n + a)) (r * n + a) refl ∙ pair_at n rows_picked r a l);
        holds = truth_moves g w d (shown_all schema choice (λ c. c.left) P w_same d shown.in_lefts) (shown_all schema choice (λ c. c.right) P w_same d shown.in_rights) e.holds;
        gives = sym (values_move g w outputs (shown_all schema choice (λ x. x) P w_same outputs shown.in_outputs)) ∙ e.gives;
      }

-- one choice: the rows' valuations and the lists of values give the same outputs
pub choice_law : (schema : SchemaValue) (universe : List (List Value)) (choice : List (List ℕ)) (outputs : List Sym) (d : List SymbolComparison) (h : List Value) → IsUniverse (attribute_kinds schema) universe → AreWithin schema → AreShown schema choice outputs d → (RawAnswer schema universe choice outputs d h ↔ InLists schema universe choice outputs d h)
choice_law schema universe choice outputs d h typed fit shown =
    (to_lists schema universe choice typed fit outputs d h shown, λ e. to_raw schema universe choice outputs d h typed fit e shown)
