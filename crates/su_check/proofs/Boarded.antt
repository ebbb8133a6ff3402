-- Variables and their numbers.
use Rattle.std.proofs.Common.{◌≡◌, ◌≢◌, ◌<◌, ◌≤◌, ◌+◌, ◌⊎◌, ◌↔◌, ℕ, true, false, Bool, List, [], ◌∷◌, ◌++◌, get_or, length, set, Contains, Option, None, inr, sym, ap, subst, ◌∙◌, ⊎_elim, arith, below_more}
use Rattle.std.proofs.lemmas.Bool.{cases_lt, cases_eq}
use Rattle.std.proofs.lemmas.List.{get_or_default, get_or-set_same, get_or-set_other, length-set, get_or_append_left, get_or_push}
use Rattle.std.proofs.lemmas.List.Elements.{Contains-push, Contains-append_left, Contains-append_cases}
use Rattle.su_base.proofs.Items.{Contains-one, get_or-is}
use Rattle.su_tableau.specs.declared.symbols.Sym.{Sym}
use Rattle.su_tableau.specs.declared.symbols.Sym.TheVariants.{Var}
use Rattle.su_tableau.specs.Tableaux.{Occurs}
use Rattle.su_check.specs.declared.certificates.StatedTerm.{StatedTerm}
use Rattle.su_check.specs.Certificate.{lines_of}
use Rattle.su_check.specs.inside.Cells.{cell_at, IsFirstPlace}
use Rattle.su_check.specs.inside.Boards.{AreMarks, IsNumber, AreNumbers, IsBoard}

pub var_row : (row : List Sym) (out out' : List ℕ) (i n : ℕ) (x : Sym) → i < length row → x ≡ get_or row i x → x ≡ Var n → out' ≡ out ++ n ∷ []
    → ((k j : ℕ) → j < i → get_or row j (Var k) ≡ Var k → Contains out k) → (k j : ℕ) → j < i + 1 → get_or row j (Var k) ≡ Var k → Contains out' k
var_row row out out' i n x h is v pushed before k =
    below_more (λ j. get_or row j (Var k) ≡ Var k → Contains out' k) i
    (λ j l e. subst (λ o. Contains o k) (sym pushed) (Contains-append_left out (n ∷ []) k (before k j l e)))
    (λ e.
    let same : Var n ≡ Var k = sym v ∙ sym (get_or-is row i x (Var k) h is) ∙ e in
    let n_k : n ≡ k = cc in
    subst (λ o. Contains o k) (sym pushed) (subst (λ m. Contains (out ++ n ∷ []) m) n_k (Contains-push out n)))

pub var_only : (row : List Sym) (out out' old : List ℕ) (i n : ℕ) (x : Sym) → i < length row → x ≡ get_or row i x → x ≡ Var n → out' ≡ out ++ n ∷ []
    → ((k : ℕ) → Contains out k → Contains old k ⊎ Contains row (Var k)) → (k : ℕ) → Contains out' k → Contains old k ⊎ Contains row (Var k)
var_only row out out' old i n x h is v pushed before k has =
    ⊎_elim
    (λ (a : Contains out k). before k a)
    (λ (b : Contains (n ∷ []) k). inr (i, h, get_or-is row i x (Var k) h is ∙ v ∙ ap Var (Contains-one n k b)))
    (Contains-append_cases out (n ∷ []) k (subst (λ o. Contains o k) pushed has))

pub const_row : (row : List Sym) (i : ℕ) (x : Sym) (out : List ℕ) → i < length row → x ≡ get_or row i x → ((k : ℕ) → x ≡ Var k → ⊥)
    → ((k j : ℕ) → j < i → get_or row j (Var k) ≡ Var k → Contains out k) → (k j : ℕ) → j < i + 1 → get_or row j (Var k) ≡ Var k → Contains out k
const_row row i x out h is none before k = below_more (λ j. get_or row j (Var k) ≡ Var k → Contains out k) i (before k) (λ e. absurd (none k (sym (get_or-is row i x (Var k) h is) ∙ e)))

-- ---- first places

pub first_one : (variables : List ℕ) (k m n : ℕ) → IsFirstPlace variables k m → IsFirstPlace variables k n → m ≡ n
first_one variables k m n a b =
    ⊎_elim
    (λ (lt : m < n). absurd (let u = b.before m lt in let e = a.is in omega arith))
    (λ (le : n ≤ m). ⊎_elim (λ (lt : n < m). absurd (let u = a.before n lt in let e = b.is in omega arith)) (λ (ge : m ≤ n). omega arith) (cases_lt n m))
    (cases_lt m n)

pub first_there : (variables : List ℕ) (k n : ℕ) → IsFirstPlace variables k n → Contains variables k
first_there variables k n a = (n, a.below, get_or_default variables n k 0 a.below ∙ a.is)

-- ---- marks of the head's variables

pub record Marked (variables : List ℕ) (head : List Sym) (i : ℕ) (marks : List Bool) : Type 0 where
  pub one_each : length marks ≡ length variables
  pub marked : (k n : ℕ) → IsFirstPlace variables k n → get_or marks n false ≡ true → Contains head (Var k)
  pub done : (k n j : ℕ) → IsFirstPlace variables k n → j < i → get_or head j (Var k) ≡ Var k → get_or marks n false ≡ true
  pub there : (k j : ℕ) → j < i → get_or head j (Var k) ≡ Var k → Contains variables k

set_stays : (marks marks' : List Bool) (n m : ℕ) → n < length marks → marks' ≡ set marks n true → get_or marks m false ≡ true → get_or marks' m false ≡ true
set_stays marks marks' n m h e was =
    ⊎_elim
    (λ (same : m ≡ n). ap (λ ms. get_or ms m false) e ∙ ap (λ m. get_or (set marks n true) m false) same ∙ get_or-set_same marks n true false h)
    (λ (other : m ≢ n). ap (λ ms. get_or ms m false) e ∙ get_or-set_other marks n m true false other ∙ was)
    (cases_eq m n)

pub mark_var : (variables : List ℕ) (head : List Sym) (i : ℕ) (marks marks' : List Bool) (x : Sym) (k n : ℕ) → Marked variables head i marks → i < length head → x ≡ get_or head i x → x ≡ Var k → IsFirstPlace variables k n → marks' ≡ set marks n true → Marked variables head (i + 1) marks'
mark_var variables head i marks marks' x k n before h is v first e =
    let low : n < length marks = let a = before.one_each in let b = first.below in omega arith in
    record {
      one_each = ap length e ∙ length-set marks n true ∙ before.one_each;
      marked = λ j m f is_set.
          ⊎_elim
          (λ (same : m ≡ n).
          let k_j : k ≡ j = sym first.is ∙ ap (λ m. get_or variables m 0) (sym same) ∙ f.is in
          (i, h, get_or-is head i x (Var j) h is ∙ v ∙ ap Var k_j))
          (λ (other : m ≢ n). before.marked j m f (sym (get_or-set_other marks n m true false other) ∙ ap (λ ms. get_or ms m false) (sym e) ∙ is_set))
          (cases_eq m n);
      done = λ j m a f l at.
          ⊎_elim
          (λ (lt : a < i). set_stays marks marks' n m low e (before.done j m a f lt at))
          (λ (le : i ≤ a).
          let same : a ≡ i = omega arith in
          let both : Var k ≡ Var j = sym v ∙ sym (get_or-is head i x (Var j) h is) ∙ ap (λ a. get_or head a (Var j)) (sym same) ∙ at in
          let k_j : k ≡ j = cc in
          let n_m : n ≡ m = first_one variables j n m (subst (λ k. IsFirstPlace variables k n) k_j first) f in
          ap (λ ms. get_or ms m false) e ∙ ap (λ m. get_or (set marks n true) m false) (sym n_m) ∙ get_or-set_same marks n true false low)
          (cases_lt a i);
      there = λ j.
          below_more (λ a. get_or head a (Var j) ≡ Var j → Contains variables j) i (before.there j)
          (λ at. let same : Var k ≡ Var j = sym v ∙ sym (get_or-is head i x (Var j) h is) ∙ at in let k_j : k ≡ j = cc in subst (Contains variables) k_j (first_there variables k n first));
    }

pub mark_const : (variables : List ℕ) (head : List Sym) (i : ℕ) (marks marks' : List Bool) (x : Sym) → Marked variables head i marks → i < length head → x ≡ get_or head i x → ((k : ℕ) → x ≡ Var k → ⊥) → marks' ≡ marks → Marked variables head (i + 1) marks'
mark_const variables head i marks marks' x before h is none e = subst (Marked variables head (i + 1)) (sym e) (record {
  one_each = before.one_each;
  marked = before.marked;
  done = λ j m a f l at. ⊎_elim (λ (lt : a < i). before.done j m a f lt at) (λ (le : i ≤ a). let same : a ≡ i = omega arith in absurd (none j (sym (get_or-is head i x (Var j) h is) ∙ ap (λ a. get_or head a (Var j)) (sym same) ∙ at))) (cases_lt a i);
  there = λ j. below_more (λ a. get_or head a (Var j) ≡ Var j → Contains variables j) i (before.there j) (λ at. absurd (none j (sym (get_or-is head i x (Var j) h is) ∙ at)));
})

pub marks_done : (variables : List ℕ) (head : List Sym) (i : ℕ) (marks : List Bool) → length head ≤ i → Marked variables head i marks → AreMarks variables head marks × ((k : ℕ) → Contains head (Var k) → Contains variables k)
marks_done variables head i marks end m = (
  record { one_each = m.one_each; tells = λ k n f. (m.marked k n f, λ has. m.done k n has.0 f (let l = has.1 in omega arith) has.2) },
  λ k has. m.there k has.0 (let l = has.1 in omega arith) has.2,
)

-- ---- numbers of cells

pub number_push : (head : List Sym) (variables : List ℕ) (row : List Sym) (numbers numbers' : List (Option ℕ)) (i : ℕ) (x : Sym) (n : Option ℕ) → i < length row → x ≡ get_or row i x → length numbers ≡ i → numbers' ≡ numbers ++ n ∷ []
    → ((c : ℕ) → c < i → IsNumber head variables (cell_at row c) (get_or numbers c None)) → IsNumber head variables x n → (c : ℕ) → c < i + 1 → IsNumber head variables (cell_at row c) (get_or numbers' c None)
number_push head variables row numbers numbers' i x n h is len e before here =
    below_more (λ c. IsNumber head variables (cell_at row c) (get_or numbers' c None)) i
    (λ c l. subst (IsNumber head variables (cell_at row c)) (sym (ap (λ ns. get_or ns c None) e ∙ get_or_append_left numbers (n ∷ []) None c (omega arith))) (before c l))
    (subst (λ y. IsNumber head variables y (get_or numbers' i None)) (sym (get_or-is row i x (Var 0) h is)) (subst (IsNumber head variables x) (sym (ap (λ ns. get_or ns i None) e ∙ get_or_push numbers n None i len)) here))

pub numbers_push : (head : List Sym) (variables : List ℕ) (rows : List (List Sym)) (all all' : List (List (Option ℕ))) (i : ℕ) (numbers : List (Option ℕ)) → length all ≡ i → all' ≡ all ++ numbers ∷ []
    → ((j : ℕ) → j < i → AreNumbers head variables (get_or rows j []) (get_or all j [])) → AreNumbers head variables (get_or rows i []) numbers → (j : ℕ) → j < i + 1 → AreNumbers head variables (get_or rows j []) (get_or all' j [])
numbers_push head variables rows all all' i numbers len e before here =
    below_more (λ j. AreNumbers head variables (get_or rows j []) (get_or all' j [])) i
    (λ j l. subst (AreNumbers head variables (get_or rows j [])) (sym (ap (λ ns. get_or ns j []) e ∙ get_or_append_left all (numbers ∷ []) [] j (omega arith))) (before j l))
    (subst (AreNumbers head variables (get_or rows i [])) (sym (ap (λ ns. get_or ns i []) e ∙ get_or_push all numbers [] i len)) here)

-- ---- the board of a term

abbrev HeadOccurs : List Sym → List (List Sym) → Type 0
HeadOccurs head rows = (k : ℕ) → Contains head (Var k) → Occurs rows k

pub board_good : (x : StatedTerm) (vs vs' vs'' : List ℕ) (head : List Sym) (rows : List (List Sym)) (marks marks' : List Bool) (numbers : List (List (Option ℕ)))
    → vs' ≡ vs → vs'' ≡ vs → head ≡ x.head → rows ≡ x.rows → marks' ≡ marks
    → ((k : ℕ) → Contains vs k ↔ Occurs x.rows k) → AreMarks vs' head marks × ((k : ℕ) → Contains head (Var k) → Contains vs' k)
    → length numbers ≡ length rows → ((h : List Sym) → AreMarks vs'' h marks' → (i : ℕ) → i < length rows → AreNumbers h vs'' (get_or rows i []) (get_or numbers i []))
    → IsBoard (lines_of x) (record { variables = vs; numbers = numbers }) × HeadOccurs x.head x.rows
board_good x vs vs' vs'' head rows marks marks' numbers e1 e2 eh er em all made len each =
    let marks_at = subst (λ h. AreMarks vs h marks) eh (subst (λ v. AreMarks v head marks) e1 made.0) in
    let each' = subst (λ r. (i : ℕ) → i < length r → AreNumbers x.head vs (get_or r i []) (get_or numbers i [])) er
    (λ i h. subst (λ v. AreNumbers x.head v (get_or rows i []) (get_or numbers i [])) e2 (each x.head (subst (λ m. AreMarks vs'' x.head m) (sym em) (subst (λ v. AreMarks v x.head marks) (sym e2) marks_at)) i h)) in (
      record { one_each = len ∙ ap length er; rows = each' },
      λ k has. (all k).0 (subst (λ v. Contains v k) e1 (made.1 k (subst (λ h. Contains h (Var k)) (sym eh) has))),
    )

pub board_none : (x : StatedTerm) (vs vs' : List ℕ) (head : List Sym) → vs' ≡ vs → head ≡ x.head → ((k : ℕ) → Contains vs k ↔ Occurs x.rows k) → (((k : ℕ) → Contains head (Var k) → Contains vs' k) → ⊥) → HeadOccurs x.head x.rows → ⊥
board_none x vs vs' head e eh all none occurs = none (λ k has. subst (λ v. Contains v k) (sym e) ((all k).1 (occurs k (subst (λ h. Contains h (Var k)) eh has))))
