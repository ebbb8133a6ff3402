-- Over a universal relation that meets the dependencies a class has one value, so the named tableau answers what the tableau does.
use Rattle.std.proofs.Common.{◌≡◌, ◌≢◌, ◌↔◌, ℕ, Option, None, MatchOption, ◌<◌, ◌≤◌, ⊎_elim, cond, List, [], map, length, get_or, pos, Contains, refl, sym, ap, ◌∙◌, subst, arith}
use Rattle.std.proofs.Math.ListN.{get_or-map as map_read}
use Rattle.std.specs.Prelude.{All, nat_lt}
use Rattle.std.proofs.lemmas.Bool.{cond-true, cond-false, lt-ltb, le-ltb, cases_lt}
use Rattle.std.proofs.lemmas.List.{length-map, get_or_default, get_or_past, get_or-map}
use Rattle.std.proofs.lemmas.List.Elements.{All-contains, All-map}
use Rattle.std.proofs.lemmas.Cmp.{tied_itself}
use Rattle.su_base.specs.declared.values.Kind.{Kind}
use Rattle.su_base.specs.declared.values.Kind.TheVariants.{Int as IntKind, Text as TextKind}
use Rattle.su_base.specs.declared.values.Value.{Value}
use Rattle.su_base.specs.declared.values.Value.TheVariants.{Int, Text}
use Rattle.su_base.specs.Value.{compare_values}
use Rattle.std.specs.declared.cmp.Ordering.TheVariants.{Equal as Same, Greater}
use Rattle.su_base.proofs.Items.{Contains-map, Contains-map_source, map-map_equal}
use Rattle.su_base.proofs.Rows.{values_total, at_most_both}
use Rattle.su_fd.specs.declared.dependencies.Fd.{Fd}
use Rattle.su_tableau.specs.declared.symbols.Sym.{Sym}
use Rattle.su_tableau.specs.declared.symbols.Sym.TheVariants.{Const, Var}
use Rattle.su_tableau.specs.Tableaux.{Tab, IsValid, IsSmall, Occurs, AreBelow}
use Rattle.su_tableau.specs.Valuations.{value_of, values_of, Sends, Ext}
use Rattle.su_tableau.specs.Kinds.{Kinds, sym_kind, IsTyped}
use Rattle.su_tableau.proofs.SymbolParts.{same_const, same_var}
use Rattle.su_fd.specs.MetDependencies.{Agree, Meets}
use Rattle.su_chase.specs.Chase.{SameLabels, IsClosedPartition, InOneClass, IsNoLater, IsClassName, IsConsistent, IsClash}
use Rattle.su_chase.specs.Chased.{IsFdBelow, AreRows, IsChased}
use Rattle.su_chase.specs.inside.Rows.{name_by, named_tab}

-- ---- names are unique

pub one_symbol : (x y : Sym) → IsNoLater x y → IsNoLater y x → x ≡ y
one_symbol (Const a) (Const b) h k = ap Const (at_most_both a b h k)
one_symbol (Const a) (Var k) h l = absurd l
one_symbol (Var j) (Const b) h l = absurd h
one_symbol (Var j) (Var k) h l = ap Var (omega arith)

module _ (fds : List Fd) (rows : List (List Sym)) (name : Sym → Sym) (names : (x : Sym) → IsClassName fds rows x (name x)) where
  pub one_name : (x y : Sym) → InOneClass fds rows x y → name x ≡ name y
  one_name x y c =
      one_symbol (name x) (name y)
      ((names x).least (name y) (λ label p. c label p ∙ (names y).member label p))
      ((names y).least (name x) (λ label p. sym (c label p) ∙ (names x).member label p))

  -- the names are a closed partition themselves
  pub names_closed : IsClosedPartition fds rows name
  names_closed f r q cf cr cq same a d h =
      one_name (get_or r a d) (get_or q a d)
      (λ label p.
      p f r q cf cr cq
      (λ b e g. (names (get_or r b e)).member label p ∙ ap label (same b e g) ∙ sym ((names (get_or q b e)).member label p))
      a d h)

  -- so rows by their names are settled
  pub settled : (width : ℕ) → All (λ row. length row ≡ width) rows → All (IsFdBelow width) fds → IsClosedPartition fds (map (map name) rows) (λ x. x)
  settled width widths below f r q cf cr cq same a d h =
      let u = Contains-map_source (map name) rows r cr in
      let v = Contains-map_source (map name) rows q cq in
      let low = (All-contains (IsFdBelow width) fds f below cf).right a h in
      let r_wide = All-contains (λ (row : List Sym). length row ≡ width) rows u.0 widths u.1 in
      let q_wide = All-contains (λ (row : List Sym). length row ≡ width) rows v.0 widths v.1 in
      let left : SameLabels name f.left u.0 v.0 = λ b e g.
      sym (map_read name u.0 b e) ∙ ap (λ (row : List Sym). get_or row b (name e)) u.2 ∙ same b (name e) g ∙ ap (λ (row : List Sym). get_or row b (name e)) (sym v.2) ∙ map_read name v.0 b e in
      let right = names_closed f u.0 v.0 cf u.1 v.1 left a d h in
      ap (λ (row : List Sym). get_or row a d) (sym u.2) ∙ get_or-map name u.0 a d d (omega arith) ∙ right ∙ sym (get_or-map name v.0 a d d (omega arith)) ∙ ap (λ (row : List Sym). get_or row a d) v.2

-- ---- a class has one value

module _ (fds : List Fd) (rows : List (List Sym)) (universe : List (List Value)) (meets : Meets fds universe) (w : ℕ → Value) (sends : Sends w rows universe) where
  values_closed : IsClosedPartition fds rows (λ x. Const (value_of w x))
  values_closed f r q cf cr cq same a d h =
      let has = λ (row : List Sym) (c : Contains rows row). All-contains (λ row. Contains universe (values_of w row)) rows row sends c in
      let left : Agree f.left (values_of w r) (values_of w q) = λ b e g. map_read (value_of w) r b (Const e) ∙ same_const _ _ (same b (Const e) g) ∙ sym (map_read (value_of w) q b (Const e)) in
      let right = meets f (values_of w r) (values_of w q) cf (has r cr) (has q cq) left a (value_of w d) h in
      ap Const (sym (map_read (value_of w) r a d) ∙ right ∙ map_read (value_of w) q a d)

  pub one_value : (x y : Sym) → InOneClass fds rows x y → value_of w x ≡ value_of w y
  one_value x y c = same_const _ _ (c (λ x. Const (value_of w x)) values_closed)

-- ---- the answers of the named tableau

module _ (fds : List Fd) (t : Tab) (name : Sym → Sym) (own : (c : Value) → name (Const c) ≡ Const c) (are : (x : Sym) → IsClassName fds t.rows x (name x)) where
  -- a valuation of the names is one of the symbols
  named_value : (w : ℕ → Value) (x : Sym) → value_of (λ k. value_of w (name (Var k))) x ≡ value_of w (name x)
  named_value w (Const c) = ap (value_of w) (sym (own c))
  named_value w (Var k) = refl

  pub to_chased : (universe : List (List Value)) (h : List Value) → Meets fds universe → Ext t universe h → Ext (named_tab name t) universe h
  to_chased universe h meets e =
      let w = e.valuation in
      let same : (x : Sym) → value_of w (name x) ≡ value_of w x = λ x. sym (one_value fds t.rows universe meets w e.holds x (name x) (are x).member) in
      record {
        valuation = w;
        holds = All-map (λ row. Contains universe (values_of w row)) (map name) t.rows (λ k d l. subst (Contains universe) (sym (map-map_equal name (value_of w) (value_of w) same (get_or t.rows k d))) (e.holds k d l));
        gives = map-map_equal name (value_of w) (value_of w) same t.head ∙ e.gives;
      }

  pub from_chased : (universe : List (List Value)) (h : List Value) → Ext (named_tab name t) universe h → Ext t universe h
  from_chased universe h e =
      let w = e.valuation in
      let v : ℕ → Value = λ k. value_of w (name (Var k)) in
      let same : (x : Sym) → value_of w (name x) ≡ value_of v x = λ x. sym (named_value w x) in
      record {
        valuation = v;
        holds = λ k d l.
            let row = get_or t.rows k d in
            let c = e.holds k (map name d) (subst (λ (n : ℕ). k < n) (sym (length-map t.rows (map name))) l) in
            subst (Contains universe) (ap (values_of w) (map_read (map name) t.rows k d) ∙ map-map_equal name (value_of w) (value_of v) same row) c;
        gives = sym (map-map_equal name (value_of w) (value_of v) same t.head) ∙ e.gives;
      }

  -- a label for each kind
  abbrev sample : Kind → Sym
  sample IntKind = Const (Int (pos 0))
  sample TextKind = Const (Text [])

  same_sample : (j k : Kind) → sample j ≡ sample k → j ≡ k
  same_sample IntKind IntKind e = refl
  same_sample IntKind TextKind e = absurd (cc)
  same_sample TextKind IntKind e = absurd (cc)
  same_sample TextKind TextKind e = refl

  pub typed : (kinds : Kinds) → IsTyped kinds t → IsTyped kinds (named_tab name t)
  typed kinds is =
      let f = is.var_kind in
      let row_kinds = λ (row : List Sym) (c : Contains t.rows row). All-contains (λ row. map (sym_kind f) row ≡ kinds) t.rows row is.fits c in
      let closed : IsClosedPartition fds t.rows (λ x. sample (sym_kind f x)) = λ g r q cg cr cq same a d h.
      ap sample (sym (map_read (sym_kind f) r a d) ∙ ap (λ (ks : List Kind). get_or ks a (sym_kind f d)) (row_kinds r cr ∙ sym (row_kinds q cq)) ∙ map_read (sym_kind f) q a d) in
      let same : (x : Sym) → sym_kind f (name x) ≡ sym_kind f x = λ x. same_sample _ _ (sym ((are x).member (λ x. sample (sym_kind f x)) closed)) in
      record {
        width = is.width;
        var_kind = f;
        fits = All-map (λ row. map (sym_kind f) row ≡ kinds) (map name) t.rows (λ k d l. map-map_equal name (sym_kind f) (sym_kind f) same (get_or t.rows k d) ∙ is.fits k d l);
      }

-- ---- the named tableau is valid

module _ (t : Tab) (by : Sym → Sym) (own : (c : Value) → by (Const c) ≡ Const c) where
  occurs : IsValid t → (k : ℕ) (x : Sym) → Contains t.head x → by x ≡ Var k → Occurs (map (map by) t.rows) k
  occurs is k (Const c) has e = let f : Const c ≡ Var k = sym (own c) ∙ e in absurd (cc)
  occurs is k (Var j) has e =
      let o = is.head_occurs j has in
      let i = o.0 in
      let c : Contains (map by (get_or t.rows i [])) (Var k) = subst (Contains (map by (get_or t.rows i []))) e (Contains-map by (get_or t.rows i []) (Var j) o.2) in
      (i, subst (λ (n : ℕ). i < n) (sym (length-map t.rows (map by))) o.1, subst (λ (row : List Sym). Contains row (Var k)) (sym (map_read (map by) t.rows i [])) c)

  pub valid : IsValid t → IsValid (named_tab by t)
  valid is = record {
    widths = All-map (λ row. length row ≡ t.width) (map by) t.rows (λ k d l. length-map (get_or t.rows k d) by ∙ is.widths k d l);
    head_length = length-map t.head by ∙ is.head_length;
    head_occurs = λ k c. let x = Contains-map_source by t.head (Var k) c in occurs is k x.0 x.1 x.2;
  }

  pub small : IsSmall t → IsSmall (named_tab by t)
  small is = record { rows = let e = length-map t.rows (map by) in let r = is.rows in omega arith; width = is.width }

-- the head's variables have names, as the rows' have
pub head_below : (t : Tab) → IsValid t → (n : ℕ) → All (AreBelow n) t.rows → AreBelow n t.head
head_below t is n all k c = let o = is.head_occurs k c in all o.0 [] o.1 k o.2

pub rows_are : (fds : List Fd) (t : Tab) → IsValid t → IsSmall t → All (IsFdBelow t.width) fds → AreRows fds t.rows
rows_are fds t is few below = record { width = t.width; few = let r = few.rows in omega arith; narrow = few.width; widths = is.widths; below = below }

-- ---- the names of all symbols, from those of the variables

module _ (fds : List Fd) (rows : List (List Sym)) (names : List Sym) (all : All (AreBelow (length names)) rows) (are : (k : ℕ) → k < length names → IsClassName fds rows (Var k) (get_or names k (Var k))) (consistent : IsConsistent fds rows) where
  -- all symbols but the variables past the names together
  abbrev crowd : Sym → Sym
  crowd (Const c) = Const (Int (pos 0))
  crowd (Var k) = cond (nat_lt k (length names)) (Const (Int (pos 0))) (Var k)

  crowd_low : (x : Sym) → ((k : ℕ) → x ≡ Var k → k < length names) → crowd x ≡ Const (Int (pos 0))
  crowd_low (Const c) h = refl
  crowd_low (Var k) h = cond-true (nat_lt k (length names)) (Const (Int (pos 0))) (Var k) (lt-ltb k (length names) (h k refl))

  crowd_high : (k : ℕ) → length names ≤ k → crowd (Var k) ≡ Var k
  crowd_high k h = cond-false (nat_lt k (length names)) (Const (Int (pos 0))) (Var k) (le-ltb k (length names) h)

  crowd_row : (r : List Sym) (a : ℕ) (d : Sym) → Contains rows r → a < length r → crowd (get_or r a d) ≡ Const (Int (pos 0))
  crowd_row r a d c l =
      crowd_low (get_or r a d) (λ k e. All-contains (AreBelow (length names)) rows r all c k (a, l, get_or_default r a (Var k) d l ∙ e))

  module _ (width : ℕ) (widths : All (λ row. length row ≡ width) rows) where
    crowd_closed : IsClosedPartition fds rows crowd
    crowd_closed f r q cf cr cq same a d h =
        let r_wide = All-contains (λ (row : List Sym). length row ≡ width) rows r widths cr in
        let q_wide = All-contains (λ (row : List Sym). length row ≡ width) rows q widths cq in
        ⊎_elim
        (λ (l : a < width). crowd_row r a d cr (omega arith) ∙ sym (crowd_row q a d cq (omega arith)))
        (λ (g : width ≤ a). ap crowd (get_or_past r a d (omega arith) ∙ sym (get_or_past q a d (omega arith))))
        (cases_lt a width)

    -- a variable past the names is alone
    alone : (k : ℕ) → length names ≤ k → (y : Sym) → InOneClass fds rows (Var k) y → y ≡ Var k
    alone k h (Const c) m = let e : crowd (Var k) ≡ crowd (Const c) = m crowd crowd_closed in let f : Var k ≡ Const (Int (pos 0)) = sym (crowd_high k h) ∙ e in absurd (cc)
    alone k h (Var j) m =
        let e : crowd (Var k) ≡ crowd (Var j) = m crowd crowd_closed in
        ⊎_elim
        (λ (l : j < length names).
        let f : Var k ≡ Const (Int (pos 0)) = sym (crowd_high k h) ∙ e ∙ crowd_low (Var j) (λ i g. let s : j ≡ i = same_var j i g in omega arith) in
        absurd (cc))
        (λ (g : length names ≤ j). sym (crowd_high j g) ∙ sym e ∙ crowd_high k h)
        (cases_lt j (length names))

    itself : (x : Sym) → IsNoLater x x
    itself (Const c) = λ (g : compare_values c c ≡ Greater). let e : Same ≡ Greater = sym (tied_itself values_total c) ∙ g in absurd (cc)
    itself (Var k) = omega arith

    pub are_names : (x : Sym) → IsClassName fds rows x (name_by names x)
    are_names (Const c) = record {
      member = λ label p. refl;
      least = elim [
        | Const b ↦ λ m. subst (λ (y : Value). IsNoLater (Const c) (Const y)) (consistent c b m) (itself (Const c))
        | Var k ↦ λ m. tt
      ];
    }
    are_names (Var k) =
        ⊎_elim
        (λ (l : k < length names). are k l)
        (λ (g : length names ≤ k).
        let e : Var k ≡ get_or names k (Var k) = sym (get_or_past names k (Var k) g) in
        subst (IsClassName fds rows (Var k)) e (record {
          member = λ label p. refl;
          least = λ y m. subst (IsNoLater (Var k)) (sym (alone k g y m)) (itself (Var k));
        }))
        (cases_lt k (length names))

-- ---- a clash leaves no answer

pub no_answer : (fds : List Fd) (t : Tab) (a b : Value) → a ≢ b → InOneClass fds t.rows (Const a) (Const b) → (universe : List (List Value)) (h : List Value) → Meets fds universe → Ext t universe h → ⊥
no_answer fds t a b ne c universe h meets e = ne (one_value fds t.rows universe meets e.valuation e.holds (Const a) (Const b) c)

-- ---- the chased tableau

-- where no two constants meet, a constant is its own name
pub own_name : (fds : List Fd) (rows : List (List Sym)) (name : Sym → Sym) → ((x : Sym) → IsClassName fds rows x (name x)) → IsConsistent fds rows → (c : Value) → name (Const c) ≡ Const c
own_name fds rows name names consistent c =
    elim (name (Const c)) as (λ x. name (Const c) ≡ x → x ≡ Const c) [
      | Const b ↦ λ e. ap Const (sym (consistent c b (subst (InOneClass fds rows (Const c)) e (names (Const c)).member)))
      | Var k ↦ λ e. absurd (subst (λ x. IsNoLater x (Const c)) e ((names (Const c)).least (Const c) (λ label p. refl)))
    ] refl

module _ (fds : List Fd) (t c : Tab) (is : IsChased fds t c) where
  own_here : (v : Value) → is.name (Const v) ≡ Const v
  own_here = own_name fds t.rows is.name is.names is.consistent

  pub chased_answers : (universe : List (List Value)) (h : List Value) → Meets fds universe → Ext t universe h ↔ Ext c universe h
  chased_answers universe h meets = (
    λ e. subst (λ (s : Tab). Ext s universe h) (sym is.is) (to_chased fds t is.name own_here is.names universe h meets e),
    λ e. from_chased fds t is.name own_here is.names universe h (subst (λ (s : Tab). Ext s universe h) is.is e),
  )

  pub chased_typed : (kinds : Kinds) → IsTyped kinds t → IsTyped kinds c
  chased_typed kinds k = subst (IsTyped kinds) (sym is.is) (typed fds t is.name own_here is.names kinds k)

  pub chased_valid : IsValid t → IsValid c
  chased_valid v = subst IsValid (sym is.is) (valid t is.name own_here v)

  pub chased_settled : IsValid t → All (IsFdBelow t.width) fds → IsClosedPartition fds c.rows (λ x. x)
  chased_settled v below = subst (λ (s : Tab). IsClosedPartition fds s.rows (λ x. x)) (sym is.is) (settled fds t.rows is.name is.names t.width v.widths below)

-- the same from what `close` tells of rows that are the tableau's
pub chase_told : (fds : List Fd) (t : Tab) → IsValid t → All (IsFdBelow t.width) fds → (names : List Sym) (rows : List (List Sym)) → rows ≡ t.rows → All (AreBelow (length names)) rows → ((k : ℕ) → k < length names → IsClassName fds rows (Var k) (get_or names k (Var k))) → (clash : Option (Value × Value))
    → MatchOption clash (IsConsistent fds rows) (λ p. IsClash fds rows p.0 p.1) → clash ≡ None → (c : Tab) → c ≡ named_tab (name_by names) t
    → IsChased fds t c × ((universe : List (List Value)) (h : List Value) → Meets fds universe → Ext t universe h ↔ Ext c universe h) × ((kinds : Kinds) → IsTyped kinds t → IsTyped kinds c) × IsClosedPartition fds c.rows (λ x. x)
chase_told fds t valid below names rows rows_is all are clash told none c c_is =
    let all' : All (AreBelow (length names)) t.rows = subst (λ (rs : List (List Sym)). All (AreBelow (length names)) rs) rows_is all in
    let are' : (k : ℕ) → k < length names → IsClassName fds t.rows (Var k) (get_or names k (Var k)) = subst (λ (rs : List (List Sym)). (k : ℕ) → k < length names → IsClassName fds rs (Var k) (get_or names k (Var k))) rows_is are in
    let here : IsConsistent fds rows = subst (λ (o : Option (Value × Value)). MatchOption o (IsConsistent fds rows) (λ p. IsClash fds rows p.0 p.1)) none told in
    let consistent : IsConsistent fds t.rows = subst (λ (rs : List (List Sym)). IsConsistent fds rs) rows_is here in
    let is : IsChased fds t c = record { name = name_by names; names = are_names fds t.rows names all' are' consistent t.width valid.widths; consistent = consistent; is = c_is } in
    (is, chased_answers fds t c is, chased_typed fds t c is, chased_settled fds t c is valid below)

-- a clash leaves no answer
pub clash_answers : (fds : List Fd) (t : Tab) (a b : Value) → a ≢ b → InOneClass fds t.rows (Const a) (Const b) → (universe : List (List Value)) (h : List Value) → Meets fds universe → Ext t universe h ↔ ⊥
clash_answers fds t a b ne c universe h meets = (no_answer fds t a b ne c universe h meets, λ e. absurd e)
