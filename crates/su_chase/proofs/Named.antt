-- Names and the clash, as the table of representatives tells them.
use Rattle.std.proofs.Common.{◌≡◌, ◌≢◌, ℕ, ◌+◌, ◌-◌, ◌<◌, ◌≤◌, ⊎_elim, true, false, None, Some, List, [], length, get_or, sym, ap, ◌∙◌, subst, arith}
use Rattle.std.specs.List.Sorted.{IsStrictlySortedBy}
use Rattle.std.specs.declared.cmp.Ordering.TheVariants.{Less, Equal as Same, Greater}
use Rattle.std.proofs.lemmas.Bool.{cases_Bool, cases_lt, lt-ltb}
use Rattle.std.proofs.lemmas.Map.Keys.{Less-from_sorted}
use Rattle.std.proofs.lemmas.Cmp.{tied_itself}
use Rattle.su_base.specs.declared.values.Value.{Value}
use Rattle.su_base.specs.declared.values.Value.TheVariants.{Text}
use Rattle.su_base.specs.Value.{compare_values}
use Rattle.su_base.proofs.Rows.{values_total}
use Rattle.su_fd.specs.declared.dependencies.Fd.{Fd}
use Rattle.su_tableau.specs.declared.symbols.Sym.{Sym}
use Rattle.su_tableau.specs.declared.symbols.Sym.TheVariants.{Const, Var}
use Rattle.su_tableau.proofs.SymbolParts.{same_const}
use Rattle.su_classes.specs.declared.items.Placed.{Placed}
use Rattle.su_classes.specs.Tables.{rep, IsTable, IsLeastTable}
use Rattle.su_classes.specs.Symbols.{symbol_at}
use Rattle.su_classes.specs.inside.Symbols.{has_constant, constant_place, is_known, symbol_number, name_in}
use Rattle.su_classes.proofs.Places.{place_is, place_at, symbol_low, symbol_high, own_constant}
use Rattle.su_classes.proofs.Named.{name_known, name_unknown, same_rep, known_too, item_class, name_member}
use Rattle.su_chase.specs.Chase.{IsClosedPartition, InOneClass, IsNoLater, IsClassName, IsConsistent, IsClash}
use Rattle.su_chase.specs.inside.Rows.{IsFirstClash}
use Rattle.su_chase.proofs.ItemLabels.{AreNumbered, labels_kept, numbers, names_closed}

-- ---- numbers by the order of symbols

constants_at_most : (vs : List Value) → IsStrictlySortedBy compare_values vs → (i j : ℕ) → i ≤ j → j < length vs → compare_values (get_or vs i (Text [])) (get_or vs j (Text [])) ≢ Greater
constants_at_most vs sorted i j le l g =
    ⊎_elim
    (λ (lt : i < j). let e = Less-from_sorted compare_values vs i j (Text []) sorted lt l in let f : Less ≡ Greater = sym e ∙ g in absurd (cc))
    (λ (ge : j ≤ i).
    let is : i ≡ j = omega arith in
    let e : compare_values (get_or vs i (Text [])) (get_or vs j (Text [])) ≡ Same = ap (λ k. compare_values (get_or vs i (Text [])) (get_or vs k (Text []))) (sym is) ∙ tied_itself values_total (get_or vs i (Text [])) in
    let f : Same ≡ Greater = sym e ∙ g in
    absurd (cc))
    (cases_lt i j)

no_later : (vs : List Value) (limit : ℕ) → IsStrictlySortedBy compare_values vs → (i j : ℕ) → i ≤ j → IsNoLater (symbol_at vs i) (symbol_at vs j)
no_later vs limit sorted i j le =
    ⊎_elim
    (λ (low : j < length vs).
    subst (λ (x : Sym). IsNoLater x (symbol_at vs j)) (sym (symbol_low vs limit i (omega arith)))
    (subst (λ (y : Sym). IsNoLater (Const (get_or vs i (Text []))) y) (sym (symbol_low vs limit j low)) (constants_at_most vs sorted i j le low)))
    (λ (high : length vs ≤ j).
    let q : ℕ = j - length vs in
    let j_is : symbol_at vs j ≡ Var q = symbol_high vs limit j q (omega arith) in
    ⊎_elim
    (λ (low : i < length vs).
    subst (λ (x : Sym). IsNoLater x (symbol_at vs j)) (sym (symbol_low vs limit i low)) (subst (λ (y : Sym). IsNoLater (Const (get_or vs i (Text []))) y) (sym j_is) tt))
    (λ (ge : length vs ≤ i).
    let p : ℕ = i - length vs in
    let i_is : symbol_at vs i ≡ Var p = symbol_high vs limit i p (omega arith) in
    let pq : p ≤ q = omega arith in
    subst (λ (x : Sym). IsNoLater x (symbol_at vs j)) (sym i_is) (subst (λ (y : Sym). IsNoLater (Var p) y) (sym j_is) pq))
    (cases_lt i (length vs)))
    (cases_lt j (length vs))

-- different constants in one class have different places and one representative
pub record Meeting (vs : List Value) (table : List ℕ) (a b : Value) : Type 0 where
  pub a_in : constant_place vs a < length vs
  pub b_in : constant_place vs b < length vs
  pub apart : constant_place vs a ≢ constant_place vs b
  pub one : rep table (constant_place vs a) ≡ rep table (constant_place vs b)
  pub a_is : get_or vs (constant_place vs a) (Text []) ≡ a
  pub b_is : get_or vs (constant_place vs b) (Text []) ≡ b

-- ---- names

module _ (vs : List Value) (limit width : ℕ) (fds : List Fd) (rows : List (List Sym)) (placed : List Placed) (n : AreNumbered vs limit width fds rows placed) (sorted : IsStrictlySortedBy compare_values vs) (table : List ℕ) (size : length table ≡ length vs + limit) (least : IsLeastTable fds placed [] table) where
  abbrev name : Sym → Sym
  name = name_in vs limit table

  abbrev t : IsTable table
  t = least.ordered

  closed : IsClosedPartition fds rows name
  closed = names_closed vs limit width fds rows placed n table size least

  known_name : (x : Sym) → is_known vs limit x ≡ true → name x ≡ symbol_at vs (rep table (symbol_number vs x))
  known_name x k = name_known (length vs) table (is_known vs limit) (symbol_number vs) (symbol_at vs) (numbers vs limit width fds rows placed n table size least) t x k

  reps : (x z : Sym) → is_known vs limit x ≡ true → is_known vs limit z ≡ true → name x ≡ name z → rep table (symbol_number vs x) ≡ rep table (symbol_number vs z)
  reps = same_rep (length vs) table (is_known vs limit) (symbol_number vs) (symbol_at vs) (numbers vs limit width fds rows placed n table size least) t

  too : (x z : Sym) → is_known vs limit x ≡ true → name x ≡ name z → is_known vs limit z ≡ true
  too = known_too (length vs) table (is_known vs limit) (symbol_number vs) (symbol_at vs) (numbers vs limit width fds rows placed n table size least) t

  member : (x : Sym) → InOneClass fds rows x (name x)
  member = name_member (IsClosedPartition fds rows) fds placed [] (length vs) table (is_known vs limit) (symbol_number vs) (symbol_at vs) (numbers vs limit width fds rows placed n table size least) least (labels_kept vs limit width fds rows placed n)

  number_low : (x : Sym) → is_known vs limit x ≡ true → rep table (symbol_number vs x) ≤ symbol_number vs x
  number_low x k = t.below (symbol_number vs x) ((numbers vs limit width fds rows placed n table size least).number_in x k)

  back : (x : Sym) → is_known vs limit x ≡ true → symbol_at vs (symbol_number vs x) ≡ x
  back = (numbers vs limit width fds rows placed n table size least).back

  pub is_name : (k : ℕ) → k < limit → IsClassName fds rows (Var k) (symbol_at vs (rep table (length vs + k)))
  is_name k l =
      let here : is_known vs limit (Var k) ≡ true = lt-ltb k limit l in
      let is = known_name (Var k) here in
      record {
        member = subst (InOneClass fds rows (Var k)) is (member (Var k));
        least = λ y c.
            let e : name (Var k) ≡ name y = c name closed in
            let there = too (Var k) y here e in
            let same = reps (Var k) y here there e in
            let low = number_low y there in
            subst (IsNoLater (symbol_at vs (rep table (length vs + k)))) (back y there) (no_later vs limit sorted (rep table (length vs + k)) (symbol_number vs y) (omega arith));
      }

  -- ---- the clash

  pub consistent : IsFirstClash (length vs) table None → IsConsistent fds rows
  consistent own a b c = same_const a b (sym (own_constant vs limit table a own) ∙ c name closed ∙ own_constant vs limit table b own)

  -- of two constants in one class both have numbers
  both_known : (a b : Value) → a ≢ b → InOneClass fds rows (Const a) (Const b) → has_constant vs a ≡ true
  both_known a b ne c =
      let e : name (Const a) ≡ name (Const b) = c name closed in
      ⊎_elim
      (λ (k : has_constant vs a ≡ true). k)
      (λ (k : has_constant vs a ≡ false).
      let a_is : name (Const a) ≡ Const a = name_unknown (length vs) table (is_known vs limit) (symbol_number vs) (symbol_at vs) (numbers vs limit width fds rows placed n table size least) t (Const a) k in
      ⊎_elim
      (λ (h : has_constant vs b ≡ true). too (Const b) (Const a) h (sym e))
      (λ (h : has_constant vs b ≡ false).
      let b_is : name (Const b) ≡ Const b = name_unknown (length vs) table (is_known vs limit) (symbol_number vs) (symbol_at vs) (numbers vs limit width fds rows placed n table size least) t (Const b) h in
      absurd (ne (same_const a b (sym a_is ∙ e ∙ b_is))))
      (cases_Bool (has_constant vs b)))
      (cases_Bool (has_constant vs a))

  meeting : (a b : Value) → a ≢ b → InOneClass fds rows (Const a) (Const b) → Meeting vs table a b
  meeting a b ne c =
      let a_known = both_known a b ne c in
      let b_known = both_known b a (λ e. ne (sym e)) (λ label p. sym (c label p)) in
      let u = place_is vs a a_known in
      let v = place_is vs b b_known in
      record {
        a_in = u.0;
        b_in = v.0;
        apart = λ e. ne (sym u.1 ∙ ap (λ k. get_or vs k (Text [])) e ∙ v.1);
        one = reps (Const a) (Const b) a_known b_known (c name closed);
        a_is = u.1;
        b_is = v.1;
      }

  low : (i : ℕ) → i < length vs → rep table i ≤ i
  low i l = t.below i (let e = size in omega arith)

  pub is_clash : (g : ℕ) → IsFirstClash (length vs) table (Some g) → IsClash fds rows (get_or vs (rep table g) (Text [])) (get_or vs g (Text []))
  is_clash g found =
      let g_in = found.0 in
      let less_g = found.1 in
      let r : ℕ = rep table g in
      let r_in : r < length vs = omega arith in
      let less : Value = get_or vs r (Text []) in
      let greater : Value = get_or vs g (Text []) in
      let less_at : constant_place vs less ≡ r = place_at vs n.distinct r r_in in
      let greater_at : constant_place vs greater ≡ g = place_at vs n.distinct g g_in in
      record {
        differ = λ e. let p : r ≡ g = sym less_at ∙ ap (constant_place vs) e ∙ greater_at in omega arith;
        together = λ label p.
            let c = item_class (IsClosedPartition fds rows) fds placed [] (length vs) table (is_known vs limit) (symbol_number vs) (symbol_at vs) (numbers vs limit width fds rows placed n table size least) least (labels_kept vs limit width fds rows placed n) g (let e = size in omega arith) label p in
            ap label (sym (symbol_low vs limit r r_in)) ∙ sym c ∙ ap label (symbol_low vs limit g g_in);
        least = λ a b ne c.
            let m = meeting a b ne c in
            let i : ℕ = constant_place vs a in
            let j : ℕ = constant_place vs b in
            let i_low = low i m.a_in in
            let j_low = low j m.b_in in
            let r_le : r ≤ i =
            ⊎_elim
            (λ (lt : rep table i < i). let q = found.2 i m.a_in lt in omega arith)
            (λ (ge : i ≤ rep table i). let o = m.one in let d = m.apart in let q = found.2 j m.b_in (let ne : rep table j ≢ j = λ e. d (omega arith) in omega arith) in omega arith)
            (cases_lt (rep table i) i) in
            subst (λ (x : Value). compare_values less x ≢ Greater) m.a_is (constants_at_most vs sorted r i r_le m.a_in);
        other = λ b ne c.
            let m = meeting less b ne c in
            let j : ℕ = constant_place vs b in
            let j_low = low j m.b_in in
            let one : rep table j ≡ r = sym m.one ∙ ap (rep table) less_at ∙ t.own g (let e = size in omega arith) in
            let j_ne : j ≢ r = λ e. m.apart (less_at ∙ sym e) in
            let j_less : rep table j < j = omega arith in
            let g_le : g ≤ j =
            ⊎_elim
            (λ (lt : j < g). absurd (found.3 j lt j_less one))
            (λ (ge : g ≤ j). ge)
            (cases_lt j g) in
            subst (λ (x : Value). compare_values greater x ≢ Greater) m.b_is (constants_at_most vs sorted g j g_le m.b_in);
      }
