-- The constants of a chased tableau are those of the tableau.
use Rattle.std.proofs.Common.{◌≡◌, ⊎_elim, ℕ, suc, ◌<◌, ◌≤◌, true, false, cond, List, [], ◌∷◌, map, length, get_or, Contains, All, refl, sym, ap, ◌∙◌, subst, arith}
use Rattle.std.proofs.lemmas.Bool.{cases_Bool, cases_lt}
use Rattle.std.proofs.lemmas.List.{get_or_past}
use Rattle.std.proofs.lemmas.List.Elements.{All-contains, All-map, Contains-get_or}
use Rattle.su_base.specs.declared.values.Value.{Value}
use Rattle.su_base.specs.contracts.values.ValuePartialEq.TheImpl.{ghosts}
use Rattle.su_base.proofs.Items.{Contains-cases, Contains-or_not}
use Rattle.su_base.proofs.Rows.{equal_or_not}
use Rattle.su_fd.specs.declared.dependencies.Fd.{Fd}
use Rattle.su_tableau.specs.declared.symbols.Sym.{Sym}
use Rattle.su_tableau.specs.declared.symbols.Sym.TheVariants.{Const, Var}
use Rattle.su_tableau.specs.Tableaux.{Tab}
use Rattle.su_tableau.proofs.Same.{value_same}
use Rattle.su_chase.specs.Chase.{IsClosedPartition, InOneClass}
use Rattle.su_chase.specs.Chased.{IsChased}
use Rattle.su_chase.specs.Frozen.{AreAvoided}

-- the constant has a label of its own, all else has another one
abbrev apart : Value → Sym → Sym
apart c (Const a) = cond (ghosts.eq a c) (Const c) (Var 0)
apart c (Var k) = Var 0

apart_other : (c : Value) (x : Sym) → (x ≡ Const c → ⊥) → apart c x ≡ Var 0
apart_other c (Const a) other =
    ⊎_elim
    (λ (same : ghosts.eq a c ≡ true). absurd (other (ap Const ((value_same a c).0 same))))
    (λ (no : ghosts.eq a c ≡ false). ap (λ b. cond b (Const c) (Var 0)) no)
    (cases_Bool (ghosts.eq a c))
apart_other c (Var k) other = refl

apart_own : (c : Value) → apart c (Const c) ≡ Const c
apart_own c = let e : ghosts.eq c c ≡ true = (value_same c c).1 refl in ap (λ b. cond b (Const c) (Var 0)) e

-- all constants of the rows are among these
abbrev Has : List Value → List Sym → Type 0
Has avoid row = (v : Value) → Contains row (Const v) → Contains avoid v

cell_apart : (avoid : List Value) (c : Value) (rows : List (List Sym)) → All (Has avoid) rows → (Contains avoid c → ⊥) → (row : List Sym) (a : ℕ) (d : Sym) → Contains rows row → a < length row → apart c (get_or row a d) ≡ Var 0
cell_apart avoid c rows all none row a d of low =
    apart_other c (get_or row a d) (λ (e : get_or row a d ≡ Const c).
    none (All-contains (Has avoid) rows row all of c (subst (Contains row) e (Contains-get_or row a d low))))

-- rows of one width without the constant: the labels that set it apart are closed
apart_closed : (fds : List Fd) (rows : List (List Sym)) (n : ℕ) (avoid : List Value) (c : Value) → All (λ row. length row ≡ n) rows → All (Has avoid) rows → (Contains avoid c → ⊥) → IsClosedPartition fds rows (apart c)
apart_closed fds rows n avoid c widths all none f r q cf cr cq same a d in' =
    let lr : length r ≡ n = All-contains (λ row. length row ≡ n) rows r widths cr in
    let lq : length q ≡ n = All-contains (λ row. length row ≡ n) rows q widths cq in
    ⊎_elim
    (λ (low : a < n). cell_apart avoid c rows all none r a d cr (omega arith) ∙ sym (cell_apart avoid c rows all none q a d cq (omega arith)))
    (λ (high : n ≤ a). ap (apart c) (get_or_past r a d (omega arith)) ∙ sym (ap (apart c) (get_or_past q a d (omega arith))))
    (cases_lt a n)

-- a constant in the class of a symbol is the symbol or stands in the rows
class_constant : (fds : List Fd) (rows : List (List Sym)) (n : ℕ) (avoid : List Value) (x : Sym) (c : Value) → All (λ row. length row ≡ n) rows → All (Has avoid) rows
    → (x ≡ Const c → Contains avoid c) → InOneClass fds rows x (Const c) → Contains avoid c
class_constant fds rows n avoid x c widths all own class =
    ⊎_elim
    (λ (has : Contains avoid c). has)
    (λ (none : Contains avoid c → ⊥).
    let one : apart c x ≡ apart c (Const c) = class (apart c) (apart_closed fds rows n avoid c widths all none) in
    let other : apart c x ≡ Var 0 = apart_other c x (λ (e : x ≡ Const c). none (own e)) in
    let clash : Const c ≡ Var 0 = sym (apart_own c) ∙ sym one ∙ other in
    absurd (cc))
    (Contains-or_not equal_or_not avoid c)

-- the constants of named symbols
names_avoided : (fds : List Fd) (rows : List (List Sym)) (n : ℕ) (avoid : List Value) (name : Sym → Sym) → All (λ row. length row ≡ n) rows → All (Has avoid) rows
    → ((x : Sym) → InOneClass fds rows x (name x)) → (xs : List Sym) → Has avoid xs → Has avoid (map name xs)
names_avoided fds rows n avoid name widths all member [] has v in' = let low = in'.1 in absurd (omega arith)
names_avoided fds rows n avoid name widths all member (x ∷ xs) has v in' =
    ⊎_elim
    (λ (e : name x ≡ Const v).
    class_constant fds rows n avoid x v widths all (λ (own : x ≡ Const v). has v (0, omega arith, own)) (subst (InOneClass fds rows x) e (member x)))
    (λ (later : Contains (map name xs) (Const v)).
    names_avoided fds rows n avoid name widths all member xs (λ (w : Value) (k : Contains xs (Const w)). has w (suc k.0, let low = k.1 in omega arith, k.2)) v later)
    (Contains-cases (name x) (map name xs) (Const v) in')

pub chased_constants : (fds : List Fd) (t c : Tab) (avoid : List Value) → All (λ row. length row ≡ t.width) t.rows → IsChased fds t c → AreAvoided avoid t → AreAvoided avoid c
chased_constants fds t c avoid widths is avoided =
    let member : (x : Sym) → InOneClass fds t.rows x (is.name x) = λ x. (is.names x).member in
    let named = names_avoided fds t.rows t.width avoid is.name widths avoided.rows member in
    let chased : Tab = record t { rows = map (map is.name) t.rows; head = map is.name t.head } in
    subst (AreAvoided avoid) (sym is.is) (record {
      rows = All-map (Has avoid) (map is.name) t.rows (λ k d low. named (get_or t.rows k d) (avoided.rows k d low));
      head = named t.head avoided.head;
    })
