-- Frozen tableaux: values that are read back as the symbols that they were made from.
use Rattle.std.proofs.Common.{◌≡◌, ◌≢◌, ◌↔◌, ℕ, ◌<◌, ◌≤◌, inl, inr, ⊎_elim, true, false, cond, List, [], ◌∷◌, Option, None, Some, MatchOption, map, flat_map, take, length, get_or, Contains, refl, sym, ap, ◌∙◌, subst, arith}
use Rattle.std.proofs.Math.ListN.{get_or-map as map_read}
use Rattle.std.specs.Prelude.{All}
use Rattle.std.specs.Ordering.{nat_cmp}
use Rattle.std.specs.List.Sorted.{IsStrictlySortedBy}
use Rattle.std.proofs.lemmas.Bool.{cases_Bool, cases_lt, cond-true, cond-false}
use Rattle.std.proofs.lemmas.List.{get_or_default, get_or-map, length-map, take_all}
use Rattle.std.proofs.lemmas.List.Elements.{All-map, All-contains, Contains-get_or}
use Rattle.std.proofs.lemmas.Map.Keys.{below_from_sorted}
use Rattle.std.proofs.Math.ListN.{get_or-eq_default}
use Rattle.su_base.specs.declared.values.Kind.{Kind}
use Rattle.su_base.specs.declared.values.Kind.TheVariants.{Int as IntKind}
use Rattle.su_base.specs.declared.values.Value.{Value}
use Rattle.su_base.specs.Value.{kind_of}
use Rattle.su_base.proofs.Items.{Contains-later, Contains-cases, Contains-nil, Contains-map_source, Contains-flat_map, Contains-flat_map_source, map-map_equal, map-equal_at}
use Rattle.su_fd.specs.declared.dependencies.Fd.{Fd}
use Rattle.su_tableau.specs.declared.symbols.Sym.{Sym}
use Rattle.su_tableau.specs.declared.symbols.Sym.TheVariants.{Const, Var}
use Rattle.su_tableau.specs.Tableaux.{Tab, Occurs, IsValid}
use Rattle.su_tableau.specs.Valuations.{Ext, nth, value_of, values_of}
use Rattle.su_tableau.specs.Kinds.{Kinds, sym_kind, IsUniverse, IsTyped}
use Rattle.su_tableau.specs.Mapping.{images_of, Maps}
use Rattle.su_classes.specs.inside.Symbols.{same_value}
use Rattle.su_classes.proofs.ValueOrder.{same_itself, same_is}
use Rattle.su_chase.specs.Chase.{IsClosedPartition}
use Rattle.su_fd.specs.MetDependencies.{Meets}
use Rattle.su_chase.specs.declared.freezing.Frozen.{Frozen}
use Rattle.su_chase.specs.Frozen.{candidate, IsFirstFree, IsFrozen, AreAvoided}
use Rattle.su_chase.specs.inside.Rows.{variable_of, value_in, IsFreeAt}
use Rattle.su_chase.proofs.DistinctCandidates.{kind_candidate}
use Rattle.su_chase.proofs.Searches.{at_place, no_less}

-- ---- the variables of rows

-- the variables of the rows, each as often as it stands there
abbrev pub variables_in : List (List Sym) → List ℕ
variables_in rows = flat_map (λ row. flat_map variable_of row) rows

pub variables_all : (rows : List (List Sym)) (n : ℕ) (found : List ℕ) → length rows ≤ n → found ≡ flat_map (λ row. flat_map variable_of row) (take n rows) → found ≡ variables_in rows
variables_all rows n found l e = e ∙ ap (flat_map (λ row. flat_map variable_of row)) (take_all n rows l)

pub row_occurs : (rows : List (List Sym)) (r : List Sym) (k : ℕ) → Contains rows r → Contains r (Var k) → Occurs rows k
row_occurs rows r k (i, l, e) c = (i, l, subst (λ (q : List Sym). Contains q (Var k)) (sym (get_or_default rows i [] r l ∙ e)) c)

pub variable_in : (rows : List (List Sym)) (k : ℕ) → Occurs rows k → Contains (variables_in rows) k
variable_in rows k (i, l, c) = Contains-flat_map (λ row. flat_map variable_of row) rows (get_or rows i []) k (Contains-get_or rows i [] l) (Contains-flat_map variable_of (get_or rows i []) (Var k) k c (0, omega arith, refl))

symbol_is : (x : Sym) (k : ℕ) → Contains (variable_of x) k → x ≡ Var k
symbol_is (Const c) k h = absurd (Contains-nil k h)
symbol_is (Var j) k h =
    ⊎_elim
    (λ (e : j ≡ k). ap Var e)
    (λ (no : Contains [] k). absurd (Contains-nil k no))
    (Contains-cases j [] k h)

pub variable_occurs : (rows : List (List Sym)) (k : ℕ) → Contains (variables_in rows) k → Occurs rows k
variable_occurs rows k h =
    let w = Contains-flat_map_source (λ row. flat_map variable_of row) rows k h in
    let x = Contains-flat_map_source variable_of w.0 k w.2 in
    row_occurs rows w.0 k w.1 (subst (λ s. Contains w.0 s) (symbol_is x.0 k x.2) x.1)

-- ---- from a value to its symbol

-- the first of the variables that has the value, or the value itself
thaw : (ℕ → Value) → List ℕ → Value → Sym
thaw v [] c = Const c
thaw v (k ∷ ks) c = cond (same_value (v k) c) (Var k) (thaw v ks c)

thaw_none : (v : ℕ → Value) (ks : List ℕ) (c : Value) → ((k : ℕ) → Contains ks k → v k ≢ c) → thaw v ks c ≡ Const c
unfolding thaw
thaw_none v [] c h = refl
thaw_none v (k ∷ ks) c h =
    ⊎_elim
    (λ (t : same_value (v k) c ≡ true). absurd (h k (0, omega arith, refl) (same_is (v k) c t)))
    (λ (f : same_value (v k) c ≡ false). cond-false _ (Var k) (thaw v ks c) f ∙ thaw_none v ks c (λ j l. h j (Contains-later k ks j l)))
    (cases_Bool (same_value (v k) c))

thaw_there : (v : ℕ → Value) (ks : List ℕ) (k : ℕ) → Contains ks k → ((j : ℕ) → Contains ks j → v j ≡ v k → j ≡ k) → thaw v ks (v k) ≡ Var k
unfolding thaw
thaw_there v [] k c h = absurd (Contains-nil k c)
thaw_there v (j ∷ js) k c h =
    ⊎_elim
    (λ (t : same_value (v j) (v k) ≡ true). cond-true _ (Var j) (thaw v js (v k)) t ∙ ap Var (h j (0, omega arith, refl) (same_is (v j) (v k) t)))
    (λ (f : same_value (v j) (v k) ≡ false).
    ⊎_elim
    (λ (e : j ≡ k). absurd (let t : same_value (v j) (v k) ≡ true = ap (λ i. same_value (v j) (v i)) (sym e) ∙ same_itself (v j) in let o : true ≡ false = sym t ∙ f in cc))
    (λ (later : Contains js k). cond-false _ (Var j) (thaw v js (v k)) f ∙ thaw_there v js k later (λ i l. h i (Contains-later j js i l)))
    (Contains-cases j js k c))
    (cases_Bool (same_value (v j) (v k)))

module _ (back : Value → Sym) where
  images_back : (w : ℕ → Value) (xs : List Sym) → ((c : Value) → Contains xs (Const c) → back c ≡ Const c) → images_of (λ k. back (w k)) xs ≡ map back (values_of w xs)
  images_back w [] h = refl
  images_back w (Const c ∷ xs) h =
      let i = images_back w xs (λ d l. h d (Contains-later (Const c) xs (Const d) l)) in
      let j = h c (0, omega arith, refl) in
      cc
  images_back w (Var k ∷ xs) h =
      let i = images_back w xs (λ d l. h d (Contains-later (Var k) xs (Const d) l)) in
      cc

  all_back : (v : ℕ → Value) (xs : List Sym) → ((x : Sym) → Contains xs x → back (value_of v x) ≡ x) → map back (values_of v xs) ≡ xs
  all_back v [] h = refl
  all_back v (x ∷ xs) h =
      let i = all_back v xs (λ y l. h y (Contains-later x xs y l)) in
      let j = h x (0, omega arith, refl) in
      cc

-- ---- a frozen tableau

module _ (kinds : Kinds) (t : Tab) (avoid : List Value) (valid : IsValid t) (var_kind : ℕ → Kind) (fits : All (λ row. map (sym_kind var_kind) row ≡ kinds) t.rows) (v : ℕ → Value) (each : (k : ℕ) → Occurs t.rows k → IsFirstFree t.rows avoid v (var_kind k) k) where
  abbrev universe : List (List Value)
  universe = map (values_of v) t.rows

  frozen_kind : (r : List Sym) → Contains t.rows r → (x : Sym) → Contains r x → kind_of (value_of v x) ≡ sym_kind var_kind x
  frozen_kind r cr (Const c) cx = refl
  frozen_kind r cr (Var k) cx = let f = each k (row_occurs t.rows r k cr cx) in ap kind_of f.is ∙ kind_candidate (var_kind k) f.number

  row_kinds : (r : List Sym) → Contains t.rows r → map kind_of (values_of v r) ≡ kinds
  row_kinds r cr =
      map-map_equal (value_of v) kind_of (λ x. kind_of (value_of v x)) (λ x. refl) r ∙ map-equal_at (λ x. kind_of (value_of v x)) (sym_kind var_kind) r (frozen_kind r cr)
      ∙ All-contains (λ row. map (sym_kind var_kind) row ≡ kinds) t.rows r fits cr

  pub frozen_universe : IsUniverse kinds universe
  frozen_universe = All-map (λ row. map kind_of row ≡ kinds) (values_of v) t.rows (λ i d l. row_kinds (get_or t.rows i d) (Contains-get_or t.rows i d l))

  pub frozen_answer : Ext t universe (values_of v t.head)
  frozen_answer = record {
    valuation = v;
    holds = λ i d l. (i, subst (λ n. i < n) (sym (length-map t.rows (values_of v))) l, get_or-map (values_of v) t.rows i d (values_of v (get_or t.rows i d)) l);
    gives = refl;
  }

  not_avoided : (k : ℕ) → Occurs t.rows k → ¬ Contains avoid (v k)
  not_avoided k occurs c = let f = each k occurs in f.free (inl (subst (Contains avoid) f.is c))

  not_lesser : (j k : ℕ) → Occurs t.rows j → Occurs t.rows k → j < k → v j ≢ v k
  not_lesser j k oj ok l e = let f = each k ok in f.free (inr (j, l, oj, e ∙ f.is))

  distinct : (j k : ℕ) → Occurs t.rows j → Occurs t.rows k → v j ≡ v k → j ≡ k
  distinct j k oj ok e =
      ⊎_elim
      (λ (lt : j < k). absurd (not_lesser j k oj ok lt e))
      (λ (ge : k ≤ j).
      ⊎_elim
      (λ (gt : k < j). absurd (not_lesser k j ok oj gt (sym e)))
      (λ (le : j ≤ k). omega arith)
      (cases_lt k j))
      (cases_lt j k)

  abbrev back : Value → Sym
  back = thaw v (variables_in t.rows)

  back_avoided : (c : Value) → Contains avoid c → back c ≡ Const c
  back_avoided c h = thaw_none v (variables_in t.rows) c (λ k l e. not_avoided k (variable_occurs t.rows k l) (subst (Contains avoid) (sym e) h))

  back_variable : (k : ℕ) → Occurs t.rows k → back (v k) ≡ Var k
  back_variable k occurs = thaw_there v (variables_in t.rows) k (variable_in t.rows k occurs) (λ j l e. distinct j k (variable_occurs t.rows j l) occurs e)

  module _ (own : AreAvoided avoid t) where
    row_constant : (r : List Sym) → Contains t.rows r → (c : Value) → Contains r (Const c) → Contains avoid c
    row_constant r cr = All-contains (λ row. (c : Value) → Contains row (Const c) → Contains avoid c) t.rows r own.rows cr

    row_back : (r : List Sym) → Contains t.rows r → (x : Sym) → Contains r x → back (value_of v x) ≡ x
    row_back r cr (Const c) cx = back_avoided c (row_constant r cr c cx)
    row_back r cr (Var k) cx = back_variable k (row_occurs t.rows r k cr cx)

    head_back : (x : Sym) → Contains t.head x → back (value_of v x) ≡ x
    head_back (Const c) cx = back_avoided c (own.head c cx)
    head_back (Var k) cx = back_variable k (valid.head_occurs k cx)

    pub frozen_maps : (s : Tab) → AreAvoided avoid s → Ext s universe (values_of v t.head) → Maps s t
    frozen_maps s avoided e =
        let w = e.valuation in
        record {
          symbols = λ k. back (w k);
          head = images_back back w s.head (λ c l. back_avoided c (avoided.head c l)) ∙ ap (map back) e.gives ∙ all_back back v t.head head_back;
          rows = λ i d l.
              let row = get_or s.rows i d in
              let sent = Contains-map_source (values_of v) t.rows (values_of w row) (e.holds i d l) in
              let q = sent.0 in
              let image : images_of (λ k. back (w k)) row ≡ q =
              images_back back w row (λ c m. back_avoided c (avoided.rows i d l c m)) ∙ ap (map back) (sym sent.2) ∙ all_back back v q (row_back q sent.1) in
              subst (Contains t.rows) (sym image) sent.1;
        }

    -- rows with one value at an attribute have one symbol there
    same_symbol : (r q : List Sym) (a : ℕ) (d : Sym) → Contains t.rows r → Contains t.rows q → value_of v (get_or r a d) ≡ value_of v (get_or q a d) → get_or r a d ≡ get_or q a d
    same_symbol r q a d cr cq e =
        let wide_r : length r ≡ t.width = All-contains (λ row. length row ≡ t.width) t.rows r valid.widths cr in
        let wide_q : length q ≡ t.width = All-contains (λ row. length row ≡ t.width) t.rows q valid.widths cq in
        ⊎_elim
        (λ (lt : a < t.width).
        sym (row_back r cr (get_or r a d) (Contains-get_or r a d (omega arith))) ∙ ap back e ∙ row_back q cq (get_or q a d) (Contains-get_or q a d (omega arith)))
        (λ (ge : t.width ≤ a). get_or-eq_default r d (omega arith) ∙ sym (get_or-eq_default q d (omega arith)))
        (cases_lt a t.width)

    pub frozen_meets : (fds : List Fd) → IsClosedPartition fds t.rows (λ x. x) → Meets fds universe
    frozen_meets fds closed f x y cf cx cy agree =
        let r = Contains-map_source (values_of v) t.rows x cx in
        let q = Contains-map_source (values_of v) t.rows y cy in
        λ a d m.
        let left : (b : ℕ) (z : Sym) → value_of v (get_or r.0 b z) ≡ get_or x b (value_of v z) = λ b z. sym (map_read (value_of v) r.0 b z) ∙ ap (λ xs. get_or xs b (value_of v z)) r.2 in
        let right : (b : ℕ) (z : Sym) → value_of v (get_or q.0 b z) ≡ get_or y b (value_of v z) = λ b z. sym (map_read (value_of v) q.0 b z) ∙ ap (λ xs. get_or xs b (value_of v z)) q.2 in
        let same = closed f r.0 q.0 cf r.1 q.1 (λ b z n. same_symbol r.0 q.0 b z r.1 q.1 (left b z ∙ agree b (value_of v z) n ∙ sym (right b z))) a (Const d) m in
        sym (left a (Const d)) ∙ ap (value_of v) same ∙ right a (Const d)

-- ---- values in the order of the variables

module _ (t : Tab) (avoid sorted : List Value) (same : (c : Value) → Contains sorted c ↔ Contains avoid c) (var_kind : ℕ → Kind) (ks : List ℕ) (all : (k : ℕ) → Contains ks k ↔ Occurs t.rows k) (ascending : IsStrictlySortedBy nat_cmp ks) (vs : List Value) (each : length vs ≡ length ks) (free : (p : ℕ) → p < length ks → IsFreeAt sorted (get_or (map var_kind ks) p IntKind) vs p) where
  free_at : (p : ℕ) → p < length ks → IsFreeAt sorted (var_kind (get_or ks p 0)) vs p
  free_at p l = subst (λ k. IsFreeAt sorted k vs p) (get_or-map var_kind ks p 0 IntKind l) (free p l)

  first_at : (p : ℕ) → p < length ks → IsFirstFree t.rows avoid (value_in ks vs) (var_kind (get_or ks p 0)) (get_or ks p 0)
  first_at p l =
      let k : ℕ = get_or ks p 0 in
      let f = free_at p l in
      let c : Value = candidate (var_kind k) f.number in
      record {
        number = f.number;
        is = at_place ks vs ascending each p l ∙ f.is;
        free =
            ⊎_elim
            (λ (a : Contains avoid c). f.free ((same c).1 a))
            (λ (w : (j : ℕ) × (j < k) × Occurs t.rows j × (value_in ks vs j ≡ c)).
            let at = (all w.0).1 w.2 in
            let q : ℕ = at.0 in
            let is : get_or ks q 0 ≡ w.0 = get_or_default ks q 0 w.0 at.1 ∙ at.2 in
            ⊎_elim
            (λ (lt : q < p). f.new q lt (sym (at_place ks vs ascending each q at.1) ∙ ap (value_in ks vs) is ∙ w.3))
            (λ (ge : p ≤ q). let b = no_less ks vs ascending each p q ge at.1 in let o = w.1 in absurd (omega arith))
            (cases_lt q p));
        least = λ i li.
            ⊎_elim
            (λ (a : Contains sorted (candidate (var_kind k) i)). inl ((same (candidate (var_kind k) i)).0 a))
            (λ (w : (q : ℕ) × (q < p) × (nth vs q ≡ candidate (var_kind k) i)).
            let lq : w.0 < length ks = (let o = w.1 in omega arith) in
            inr (get_or ks w.0 0, below_from_sorted ks w.0 p 0 ascending w.1 l, (all (get_or ks w.0 0)).0 (Contains-get_or ks w.0 0 lq), at_place ks vs ascending each w.0 lq ∙ w.2))
            (f.least i li);
      }

  pub first_free : (k : ℕ) → Occurs t.rows k → IsFirstFree t.rows avoid (value_in ks vs) (var_kind k) k
  first_free k occurs =
      let at = (all k).1 occurs in
      subst (λ j. IsFirstFree t.rows avoid (value_in ks vs) (var_kind j) j) (get_or_default ks at.0 0 k at.1 ∙ at.2) (first_at at.0 at.1)

-- ---- what `freeze` answers

module _ (kinds : Kinds) (t : Tab) (avoid : List Value) (valid : IsValid t) (typed : IsTyped kinds t) (sorted : List Value) (same : (c : Value) → Contains sorted c ↔ Contains avoid c) (ks : List ℕ) (all : (k : ℕ) → Contains ks k ↔ Occurs t.rows k) (ascending : IsStrictlySortedBy nat_cmp ks) (found : List Kind) (are : (var_kind : ℕ → Kind) → All (λ row. map (sym_kind var_kind) row ≡ kinds) t.rows → found ≡ map var_kind ks) (vs : List Value) (many : length vs ≡ length found) (free : (p : ℕ) → p < length found → IsFreeAt sorted (get_or found p IntKind) vs p) (f : Frozen) (universe_is : f.universe ≡ map (values_of (value_in ks vs)) t.rows) (head_is : f.head ≡ values_of (value_in ks vs) t.head) where
  abbrev v : ℕ → Value
  v = value_in ks vs

  found_is : found ≡ map typed.var_kind ks
  found_is = are typed.var_kind typed.fits

  count_is : length found ≡ length ks
  count_is = ap length found_is ∙ length-map ks typed.var_kind

  free_here : (p : ℕ) → p < length ks → IsFreeAt sorted (get_or (map typed.var_kind ks) p IntKind) vs p
  free_here p l = subst (λ xs. IsFreeAt sorted (get_or xs p IntKind) vs p) found_is (free p (let e = count_is in omega arith))

  first : (k : ℕ) → Occurs t.rows k → IsFirstFree t.rows avoid v (typed.var_kind k) k
  first = first_free t avoid sorted same typed.var_kind ks all ascending vs (many ∙ count_is) free_here

  pub is_frozen : IsFrozen kinds t avoid f
  is_frozen = record { var_kind = typed.var_kind; fits = typed.fits; valuation = v; each = first; universe = universe_is; head = head_is }

  pub is_universe : IsUniverse kinds f.universe
  is_universe = subst (IsUniverse kinds) (sym universe_is) (frozen_universe kinds t avoid valid typed.var_kind typed.fits v first)

  pub answers_head : Ext t f.universe f.head
  answers_head = subst (λ u. Ext t u f.head) (sym universe_is) (subst (Ext t (map (values_of v) t.rows)) (sym head_is) (frozen_answer kinds t avoid valid typed.var_kind typed.fits v first))

  pub meets : (fds : List Fd) → IsClosedPartition fds t.rows (λ x. x) → AreAvoided avoid t → Meets fds f.universe
  meets fds closed own = subst (Meets fds) (sym universe_is) (frozen_meets kinds t avoid valid typed.var_kind typed.fits v first own fds closed)

  pub thawed : (s : Tab) → AreAvoided avoid s → AreAvoided avoid t → Ext s f.universe f.head → Maps s t
  thawed s avoided own ext =
      frozen_maps kinds t avoid valid typed.var_kind typed.fits v first own s avoided
      (subst (λ u. Ext s u (values_of v t.head)) universe_is (subst (Ext s f.universe) head_is ext))

  pub told : IsFrozen kinds t avoid f × (IsUniverse kinds f.universe × Ext t f.universe f.head) × ((fds : List Fd) → IsClosedPartition fds t.rows (λ x. x) → AreAvoided avoid t → Meets fds f.universe) × ((s : Tab) → AreAvoided avoid s → AreAvoided avoid t → Ext s f.universe f.head → Maps s t)
  told = (is_frozen, (is_universe, answers_head), meets, thawed)

-- the same of slices of the lists that were made
pub freeze_told : (kinds : Kinds) (t : Tab) (avoid : List Value) → IsValid t → IsTyped kinds t → (rows : List (List Sym)) → rows ≡ t.rows → (ks variables : List ℕ) → ks ≡ variables → ((k : ℕ) → Contains variables k ↔ Occurs rows k) → IsStrictlySortedBy nat_cmp variables → (found kept : List Kind) → found ≡ kept → ((var_kind : ℕ → Kind) → All (λ row. map (sym_kind var_kind) row ≡ kinds) rows → kept ≡ map var_kind ks) → (sorted copies : List Value) → sorted ≡ copies → ((c : Value) → Contains copies c ↔ Contains avoid c) → (vs values : List Value) → vs ≡ values → length values ≡ length found → ((p : ℕ) → p < length found → IsFreeAt sorted (get_or found p IntKind) values p) → (head : List Sym) → head ≡ t.head → (f : Frozen) → f.universe ≡ map (values_of (value_in ks vs)) rows → f.head ≡ values_of (value_in ks vs) head → IsFrozen kinds t avoid f × (IsUniverse kinds f.universe × Ext t f.universe f.head) × ((fds : List Fd) → IsClosedPartition fds t.rows (λ x. x) → AreAvoided avoid t → Meets fds f.universe) × ((s : Tab) → AreAvoided avoid s → AreAvoided avoid t → Ext s f.universe f.head → Maps s t)
freeze_told kinds t avoid valid typed rows rows_is ks variables ks_is all ascending found kept found_is are sorted copies sorted_is same vs values vs_is many free head head_is f universe_is frozen_head =
    told kinds t avoid valid typed sorted (subst (λ (xs : List Value). (c : Value) → Contains xs c ↔ Contains avoid c) (sym sorted_is) same) ks
    (subst (λ (xs : List ℕ). (k : ℕ) → Contains xs k ↔ Occurs t.rows k) (sym ks_is) (subst (λ (rs : List (List Sym)). (k : ℕ) → Contains variables k ↔ Occurs rs k) rows_is all))
    (subst (IsStrictlySortedBy nat_cmp) (sym ks_is) ascending) found
    (λ var_kind fits. found_is ∙ are var_kind (subst (λ (rs : List (List Sym)). All (λ row. map (sym_kind var_kind) row ≡ kinds) rs) (sym rows_is) fits))
    vs (ap length vs_is ∙ many)
    (λ p l. subst (λ (xs : List Value). IsFreeAt sorted (get_or found p IntKind) xs p) (sym vs_is) (free p l))
    f (universe_is ∙ ap (map (values_of (value_in ks vs))) rows_is) (frozen_head ∙ ap (values_of (value_in ks vs)) head_is)

-- ---- kinds of the variables

pub not_placed : {P : Type 0} (Q : ℕ → Type 0) (r : Option ℕ) → MatchOption r P Q → ((i : ℕ) → r ≡ Some i → ⊥) → P
not_placed Q None h other = h
not_placed Q (Some i) h other = absurd (other i refl)
