-- The table of the targets that agree.
use Rattle.std.proofs.Common.{◌≡◌, ◌<◌, ◌≤◌, ◌+◌, ◌*◌, ◌↔◌, ◌∙◌, ℕ, List, length, get_or, sym, subst, Option, Some, None, arith, below_more}
use Rattle.std.specs.Int.{bit_at}
use Rattle.su_tableau.specs.declared.symbols.Sym.{Sym}
use Rattle.su_tableau.specs.Tableaux.{Tab}
use Rattle.su_map.specs.Lists.{row_of}
use Rattle.su_map.specs.inside.Netted.{IsTarget}
use Rattle.su_map.specs.inside.Nets.{AgreesAt}
use Rattle.su_map.specs.inside.Targets.{AreTold, IsToldAt, IsTold, AreShared}
use Rattle.su_map.proofs.Cells.{Fits, told_agree}

-- what is told by the columns below n
abbrev pub AreToldTo : Tab → List (Option ℕ) → ℕ → ℕ → ℕ → ℕ → Type 0
AreToldTo t columns p others n set =
    (j : ℕ) → (bit_at set j ≡ 1) ↔ ((bit_at others j ≡ 1) × ((e : ℕ) → e < n → (c : ℕ) (d : Sym) → get_or columns e None ≡ Some c → get_or (row_of t p) c d ≡ get_or (row_of t j) e d))

pub told_none : (t : Tab) (columns : List (Option ℕ)) (p others : ℕ) → AreToldTo t columns p others 0 others
told_none t columns p others j = (λ h. (h, λ e l. absurd (omega arith)), λ h. h.0)

pub told_next : (t : Tab) (columns : List (Option ℕ)) (p others n old new : ℕ) → AreToldTo t columns p others n old → IsToldAt t (get_or columns n None) n p old new → AreToldTo t columns p others (n + 1) new
told_next t columns p others n old new before here j =
    let P = λ (e : ℕ). (c : ℕ) (d : Sym) → get_or columns e None ≡ Some c → get_or (row_of t p) c d ≡ get_or (row_of t j) e d in (
      λ h. let r = (here j).0 h in let s = (before j).0 r.0 in (s.0, below_more P n s.1 r.1),
      λ h. (here j).1 ((before j).1 (h.0, λ e l. h.1 e (omega arith)), h.1 n (omega arith)),
    )

pub told_all : (t : Tab) (columns : List (Option ℕ)) (p others n set : ℕ) → t.width ≤ n → n ≤ t.width → AreToldTo t columns p others n set → AreTold t columns p others set
told_all t columns p others n set le ge f j = (
  λ h. let r = (f j).0 h in (r.0, λ e c d low is. r.1 e (omega arith) c d is),
  λ h. (f j).1 (h.0, λ e low c d is. h.1 e c d (omega arith) is),
)

-- a column that is not shared tells nothing
pub none_told : (t : Tab) (shared : Option ℕ) (column p set : ℕ) → shared ≡ None → IsToldAt t shared column p set set
none_told t shared column p set none j = (λ h. (h, λ c d is. let e : Some c ≡ None = sym is ∙ none in cc), λ h. h.0)

-- what is told of a pair stays where only later entries are written
pub told_kept : (s t : Tab) (base : List ℕ) (i q : ℕ) (old new : List ℕ) (bound : ℕ) → ((x : ℕ) → x < bound → get_or new x 0 ≡ get_or old x 0) → i * 4096 + q * 64 + 64 ≤ bound → length t.rows ≤ 64 → IsTold s t base i q old → IsTold s t base i q new
told_kept s t base i q old new bound same low small told = record {
  columns = told.columns;
  shared = told.shared;
  told = λ p l one. subst (AreTold t told.columns p (get_or base q 0)) (sym (same (i * 4096 + q * 64 + p) (omega arith))) (told.told p l one);
}

pub target_fits : (s t : Tab) (i j : ℕ) → IsTarget s t i j → Fits s.head t.head (row_of s i) (row_of t j)
target_fits s t i j f = record { constants = f.constants; head_symbols = f.head_symbols; itself = f.itself }

-- what is told of a pair are the targets that agree
pub told_agrees : (s t : Tab) (base : List ℕ) (i q p : ℕ) (agree : List ℕ) → length (row_of s q) ≡ t.width → ((j : ℕ) → bit_at (get_or base q 0) j ≡ 1 → IsTarget s t q j) → IsTarget s t i p → p < length t.rows → bit_at (get_or base i 0) p ≡ 1 → IsTold s t base i q agree → AgreesAt s t i q p (get_or base q 0) (get_or agree (i * 4096 + q * 64 + p) 0)
told_agrees s t base i q p agree wide targets target low one told j other =
    let a = told_agree s.head t.head (row_of s i) (row_of t p) (row_of s q) (row_of t j) told.columns t.width wide told.shared (target_fits s t i p target) (target_fits s t q j (targets j other)) in
    let b = told.told p low one j in
    (λ h. a.0 (b.0 h).1, λ h. b.1 (other, a.1 h))

pub shared_is : (head head' xs xs' ys ys' : List Sym) (columns : List (Option ℕ)) → head ≡ head' → xs ≡ xs' → ys ≡ ys' → AreShared head xs ys columns → AreShared head' xs' ys' columns
shared_is head head' xs xs' ys ys' columns e f g h =
    subst (λ head. AreShared head xs' ys' columns) e (subst (λ xs. AreShared head xs ys' columns) f (subst (λ ys. AreShared head xs ys columns) g h))
