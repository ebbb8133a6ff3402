-- Labels that are joined.
use Rattle.std.proofs.Common.{◌≡◌, ◌≢◌, ℕ, ◌+◌, ◌<◌, ◌≤◌, true, false, List, length, Contains, Option, None, Some, slice_get, sym, ap, subst, ◌∙◌, ⊎_elim, arith}
use Rattle.std.specs.Prelude.{cond, nat_eq, min, max, MatchOption}
use Rattle.std.specs.List.{range_with_len}
use Rattle.std.proofs.lemmas.Bool.{cases_lt, cases_eq}
use Rattle.std.proofs.lemmas.Bool.Decides.{nat_tests}
use Rattle.std.proofs.lemmas.List.{get_or-map, length-map}
use Rattle.std.proofs.lemmas.List.FromFn.{length-range_with_len, get_or-range_with_len}
use Rattle.su_exec.specs.declared.tasks.Task.{Task}
use Rattle.su_exec.specs.Tasks.{StandsIn}
use Rattle.su_exec.specs.Components.{AreCompared, AreConnected, shared, compared, IsLabelling}
use Rattle.su_exec.specs.inside.Labels.{label_of, relabelled, AreLabels, IsFirstRow, IsFirstOf, KeepsLabels}
use Rattle.su_exec.specs.declared.tasks.TaskRow.{TaskRow}
use Rattle.su_tableau.specs.declared.symbols.Sym.{Sym}
use Rattle.su_tableau.specs.declared.symbols.Sym.TheVariants.{Var}
use Rattle.std.proofs.lemmas.Option.{slice_get_within, get_or_from_slice_get}
use Rattle.su_reduce.proofs.Places.{one_var}

pub connected_same : (task : Task) (i j : ℕ) → i ≡ j → AreConnected task i j
connected_same task i j e label h = ap label e

module _ (task : Task) (ls : List ℕ) (i j : ℕ) where
  abbrev lo : ℕ
  lo = min (label_of ls i) (label_of ls j)

  abbrev hi : ℕ
  hi = max (label_of ls i) (label_of ls j)

  abbrev on : ℕ → ℕ
  on x = cond (nat_eq x hi) lo x

  on_high : (x : ℕ) → x ≡ hi → on x ≡ lo
  on_high x e = let t : nat_eq x hi ≡ true = grind (arith, nat_tests, e) in ap (λ b. cond b lo x) t

  on_other : (x : ℕ) → x ≢ hi → on x ≡ x
  on_other x e = let t : nat_eq x hi ≡ false = grind (arith, nat_tests, e) in ap (λ b. cond b lo x) t

  new_at : (k : ℕ) → k < length ls → label_of (relabelled ls i j) k ≡ on (label_of ls k)
  new_at k l = get_or-map on ls k 0 0 l

  pub relabelled_keeps : KeepsLabels ls (relabelled ls i j)
  relabelled_keeps a b la lb e = new_at a la ∙ ap on e ∙ sym (new_at b lb)

  on_low : on lo ≡ lo
  on_low = ⊎_elim (λ (e : lo ≡ hi). on_high lo e) (λ (e : lo ≢ hi). on_other lo e) (cases_eq lo hi)

  on_le : (x : ℕ) → on x ≤ x
  on_le x = ⊎_elim (λ (e : x ≡ hi). let f = on_high x e in let g : lo ≤ hi = omega arith in omega arith) (λ (e : x ≢ hi). let f = on_other x e in omega arith) (cases_eq x hi)

  pub relabelled_joins : i < length ls → j < length ls → label_of (relabelled ls i j) i ≡ label_of (relabelled ls i j) j
  relabelled_joins il jl =
      let a = new_at i il in
      let b = new_at j jl in
      let both : on (label_of ls i) ≡ on (label_of ls j) =
      ⊎_elim
      (λ (e : label_of ls i ≡ label_of ls j). ap on e)
      (λ (e : label_of ls i ≢ label_of ls j).
      ⊎_elim
      (λ (l : label_of ls i < label_of ls j). let h : label_of ls j ≡ hi = omega arith in let g : label_of ls i ≢ hi = omega arith in let k : label_of ls i ≡ lo = omega arith in on_other (label_of ls i) g ∙ k ∙ sym (on_high (label_of ls j) h))
      (λ (l : label_of ls j ≤ label_of ls i). let h : label_of ls i ≡ hi = omega arith in let g : label_of ls j ≢ hi = omega arith in let k : label_of ls j ≡ lo = omega arith in on_high (label_of ls i) h ∙ sym k ∙ sym (on_other (label_of ls j) g))
      (cases_lt (label_of ls i) (label_of ls j)))
      (cases_eq (label_of ls i) (label_of ls j)) in
      a ∙ both ∙ sym b

  module _ (il : i < length ls) (jl : j < length ls) (old : AreLabels task ls) (linked : AreConnected task i j) where
    across : (a b : ℕ) → a < length ls → b < length ls → label_of ls a ≡ hi → label_of ls b ≡ lo → AreConnected task a b
    across a b la lb ea eb label h =
        ⊎_elim
        (λ (l : label_of ls i < label_of ls j).
        let x : label_of ls a ≡ label_of ls j = omega arith in
        let y : label_of ls i ≡ label_of ls b = omega arith in
        old.connected a j la jl x label h ∙ sym (linked label h) ∙ old.connected i b il lb y label h)
        (λ (l : label_of ls j ≤ label_of ls i).
        let x : label_of ls a ≡ label_of ls i = omega arith in
        let y : label_of ls j ≡ label_of ls b = omega arith in
        old.connected a i la il x label h ∙ linked label h ∙ old.connected j b jl lb y label h)
        (cases_lt (label_of ls i) (label_of ls j))

    new_connected : (a b : ℕ) → a < length ls → b < length ls → on (label_of ls a) ≡ on (label_of ls b) → AreConnected task a b
    new_connected a b la lb e label h =
        ⊎_elim
        (λ (x : label_of ls a ≡ hi).
        let fx = on_high (label_of ls a) x in
        ⊎_elim
        (λ (y : label_of ls b ≡ hi). old.connected a b la lb (x ∙ sym y) label h)
        (λ (y : label_of ls b ≢ hi). let fy = on_other (label_of ls b) y in across a b la lb x (sym fy ∙ sym e ∙ fx) label h)
        (cases_eq (label_of ls b) hi))
        (λ (x : label_of ls a ≢ hi).
        let fx = on_other (label_of ls a) x in
        ⊎_elim
        (λ (y : label_of ls b ≡ hi). let fy = on_high (label_of ls b) y in sym (across b a lb la y (sym fx ∙ e ∙ fy) label h))
        (λ (y : label_of ls b ≢ hi). let fy = on_other (label_of ls b) y in old.connected a b la lb (sym fx ∙ e ∙ fy) label h)
        (cases_eq (label_of ls b) hi))
        (cases_eq (label_of ls a) hi)

    low_own : label_of ls lo ≡ lo
    low_own =
        ⊎_elim
        (λ (l : label_of ls i < label_of ls j). let e : lo ≡ label_of ls i = omega arith in ap (label_of ls) e ∙ old.own i il ∙ sym e)
        (λ (l : label_of ls j ≤ label_of ls i). let e : lo ≡ label_of ls j = omega arith in ap (label_of ls) e ∙ old.own j jl ∙ sym e)
        (cases_lt (label_of ls i) (label_of ls j))

    low_in : lo < length ls
    low_in = let a = old.least i il in omega arith

    new_own : (k : ℕ) → k < length ls → label_of (relabelled ls i j) (label_of (relabelled ls i j) k) ≡ label_of (relabelled ls i j) k
    new_own k l =
        let at = new_at k l in
        ⊎_elim
        (λ (x : label_of ls k ≡ hi).
        let e : label_of (relabelled ls i j) k ≡ lo = at ∙ on_high (label_of ls k) x in
        ap (label_of (relabelled ls i j)) e ∙ new_at lo low_in ∙ ap on low_own ∙ on_low ∙ sym e)
        (λ (x : label_of ls k ≢ hi).
        let e : label_of (relabelled ls i j) k ≡ label_of ls k = at ∙ on_other (label_of ls k) x in
        let least = old.least k l in
        ap (label_of (relabelled ls i j)) e ∙ new_at (label_of ls k) (omega arith) ∙ ap on (old.own k l) ∙ sym at)
        (cases_eq (label_of ls k) hi)

    pub relabelled_labels : AreLabels task (relabelled ls i j)
    relabelled_labels =
        let len : length (relabelled ls i j) ≡ length ls = length-map ls on in
        record {
          count = len ∙ old.count;
          least = λ k l. let m : k < length ls = omega arith in let a = new_at k m in let b = on_le (label_of ls k) in let d = old.least k m in omega arith;
          own = λ k l. new_own k (omega arith);
          connected = λ a b la lb e. let ma : a < length ls = omega arith in let mb : b < length ls = omega arith in new_connected a b ma mb (sym (new_at a ma) ∙ e ∙ new_at b mb);
        }

-- each row with its own label
pub own_are_labels : (task : Task) (ls : List ℕ) → ls ≡ range_with_len 0 (length task.rows) → AreLabels task ls
own_are_labels task ls e =
    let len : length ls ≡ length task.rows = ap length e ∙ length-range_with_len 0 (length task.rows) in
    let at : (i : ℕ) → i < length ls → label_of ls i ≡ i = λ i l. let zero_more : 0 + i ≡ i = omega arith in ap (λ ls. label_of ls i) e ∙ get_or-range_with_len 0 (length task.rows) i 0 (omega arith) ∙ zero_more in
    record {
      count = len;
      least = λ i l. let a = at i l in omega arith;
      own = λ i l. ap (label_of ls) (at i l);
      connected = λ i j il jl same. connected_same task i j (sym (at i il) ∙ same ∙ at j jl);
    }

-- ---- rows with a variable

pub stands_at : (task : Task) (k i : ℕ) (row : TaskRow) → slice_get task.rows i ≡ Some row → Contains row.cells (Var k) → StandsIn task k i
stands_at task k i row e h = record { row = row; below = slice_get_within task.rows i row e; is = λ d. get_or_from_slice_get task.rows i row d e; cell = h }

pub cell_at : (task : Task) (k i : ℕ) (row : TaskRow) → slice_get task.rows i ≡ Some row → StandsIn task k i → Contains row.cells (Var k)
cell_at task k i row e s = subst (λ (r : TaskRow). Contains r.cells (Var k)) (sym (s.is row) ∙ get_or_from_slice_get task.rows i row row e) s.cell

pub first_same : (task : Task) (k i j : ℕ) → IsFirstRow task k i → IsFirstRow task k j → i ≡ j
first_same task k i j a b = let x = a.least j b.stands in let y = b.least i a.stands in omega arith

pub keeps_same : (ls : List ℕ) → KeepsLabels ls ls
keeps_same ls a b la lb e = e

pub keeps_then : (xs ys zs : List ℕ) → length ys ≡ length xs → KeepsLabels xs ys → KeepsLabels ys zs → KeepsLabels xs zs
keeps_then xs ys zs n first second a b la lb e = second a b (omega arith) (omega arith) (first a b la lb e)

-- rows that are joined have one label, where each has the label of the first row with each of its variables
pub labelling_is :
    (task : Task) (ls : List ℕ) → ((k i : ℕ) → StandsIn task k i → (f : ℕ) × IsFirstRow task k f)
    → ((i k first : ℕ) → StandsIn task k i → IsFirstRow task k first → label_of ls i ≡ label_of ls first)
    → ((k l i j : ℕ) → AreCompared task k l → IsFirstRow task k i → IsFirstRow task l j → label_of ls i ≡ label_of ls j) → IsLabelling task (label_of ls)
labelling_is task ls first same between i j (shared k a b) = let f = first k i a in same i k f.0 a f.1 ∙ sym (same j k f.0 b f.1)
labelling_is task ls first same between i j (compared k l a b e) =
    let f = first k i a in
    let g = first l j b in
    same i k f.0 a f.1 ∙ between k l f.0 g.0 e f.1 g.1 ∙ sym (same j l g.0 b g.1)

pub first_told : (task : Task) (k : ℕ) (symbol : Sym) (r : Option ℕ) → symbol ≡ Var k → MatchOption r ((i : ℕ) → StandsIn task k i → ⊥) (IsFirstRow task k) → MatchOption r ((l i : ℕ) → symbol ≡ Var l → StandsIn task l i → ⊥) (IsFirstOf task symbol)
first_told task k symbol None e h = λ l i f s. h i (subst (λ k. StandsIn task k i) (one_var symbol l k f e) s)
first_told task k symbol (Some i) e h = record { variable = k; is = e; first = h }

-- the first row with a symbol
pub first_is_one : (task : Task) (symbol : Sym) (i k j : ℕ) → IsFirstOf task symbol i → symbol ≡ Var k → IsFirstRow task k j → i ≡ j
first_is_one task symbol i k j a e b = first_same task a.variable i j a.first (subst (λ k. IsFirstRow task k j) (one_var symbol k a.variable e a.is) b)

pub first_linked : (task : Task) (k i j : ℕ) → IsFirstRow task k i → StandsIn task k j → AreConnected task i j
first_linked task k i j first stands label h = h i j (shared k first.stands stands)

pub compared_linked : (task : Task) (k l i j : ℕ) → AreCompared task k l → IsFirstRow task k i → IsFirstRow task l j → AreConnected task j i
compared_linked task k l i j e a b label h = sym (h i j (compared k l a.stands b.stands e))
