-- What is read of a list at a place, and lists that grow by what was read.
use Rattle.std.proofs.Common.{ℕ, ◌≡◌, ◌+◌, ◌<◌, ◌≤◌, ◌↔◌, IsTrue, Bool, List, [], ◌∷◌, ◌++◌, All, map, take, length, get_or, slice_get, Some, sym, ap, subst, ◌∙◌, arith}
use Rattle.std.specs.List.{range_with_len}
use Rattle.std.specs.Ordering.{nat_cmp}
use Rattle.std.specs.FinSet.{FinSet, contains, is_subset}
use Rattle.std.proofs.lemmas.List.{take_more, map-append}
use Rattle.std.proofs.lemmas.List.FromFn.{length-range_with_len}
use Rattle.std.proofs.lemmas.Option.{slice_get-get_or, get_or_from_slice_get}
use Rattle.su_base.proofs.Items.{All-members, Contains-filter_source, Contains-map, Contains-range_below, length-filter}
use Rattle.su_fd.specs.declared.dependencies.Fd.{Fd}
use Rattle.su_fd.specs.Closure.{Determines}
use Rattle.su_advise.specs.Lying.{lies_in, lying_in}
use Rattle.su_advise.specs.NormalForm.{Breaks}
use Rattle.su_reduce.specs.declared.edges.Ear.{Ear}
use Rattle.su_reduce.specs.declared.edges.Edge.{Edge}
use Rattle.su_reduce.specs.Ears.{IsEarOrder, cells_of}
use Rattle.su_schema.specs.SetMembers.{numbers_in}
use Rattle.su_tableau.specs.declared.symbols.Sym.{Sym}

-- what a test says of the dependency that is read, it says of the i-th
pub at_read : (P : Fd → Type 0) (fds : List Fd) (i : ℕ) (f : Fd) → i < length fds → f ≡ get_or fds i f → (b : Bool) → (IsTrue b ↔ P f) → IsTrue b ↔ ((g : Fd) × (slice_get fds i ≡ Some g) × P g)
at_read P fds i f low is b tells = (
  λ h. (f, slice_get-get_or fds i f low ∙ ap Some (sym is), tells.0 h),
  λ w. tells.1 (subst P (sym (is ∙ get_or_from_slice_get fds i w.0 f w.1)) w.2),
)

-- a front, longer by the item that is read
pub front_more : {X : Type 0} (xs front next : List X) (i : ℕ) (x d : X) → i < length xs → slice_get xs i ≡ Some x → front ≡ take i xs → next ≡ front ++ x ∷ [] → next ≡ take (i + 1) xs
front_more xs front next i x d low is so e =
    e ∙ ap (λ z. z ++ x ∷ []) so ∙ ap (λ y. take i xs ++ y ∷ []) (sym (get_or_from_slice_get xs i x d is)) ∙ sym (take_more xs i d low)

-- ---- the members of a set

pub members_low : (s : FinSet nat_cmp) (n : ℕ) → All (λ o. o < n) (numbers_in s n)
members_low s n = All-members (λ o. o < n) (numbers_in s n) (λ o c. Contains-range_below n o (Contains-filter_source (contains s) (range_with_len 0 n) o c).0)

pub members_few : (s : FinSet nat_cmp) (n : ℕ) → length (numbers_in s n) ≤ n
members_few s n = omega (arith, length-filter (contains s) (range_with_len 0 n), length-range_with_len 0 n)

-- ---- edges and ears

pub edges_more : (f : ℕ → List Sym) (members : List ℕ) (list next : List Edge) (e : Edge) (i o : ℕ) → i < length members → o ≡ get_or members i 0 → cells_of list ≡ map f (take i members) → e.cells ≡ f o → next ≡ list ++ e ∷ [] → cells_of next ≡ map f (take (i + 1) members)
edges_more f members list next e i o low is so cells grown =
    ap cells_of grown ∙ map-append (λ (x : Edge). x.cells) list (e ∷ []) ∙ ap (λ z. z ++ e.cells ∷ []) so ∙ ap (λ x. map f (take i members) ++ x ∷ []) (cells ∙ ap f is)
    ∙ sym (ap (map f) (take_more members i 0 low) ∙ map-append f (take i members) (get_or members i 0 ∷ []))

pub ears_low : (edges : List (List Sym)) (order : List Ear) (n : ℕ) → length edges ≡ n → IsEarOrder edges order → All (λ e. e.edge < n) order
ears_low edges order n long ears = All-members (λ (e : Ear). e.edge < n) order (λ e c. omega (arith, long, (ears.all e.edge).1 (Contains-map (λ (x : Ear). x.edge) order e c)))

-- ---- what breaks a form

pub breaks_read : (fds : List Fd) (all : FinSet nat_cmp) (own : List Fd) (i : ℕ) (f : Fd) → i < length fds → f ≡ get_or fds i f → own ≡ lying_in all fds → (b : Bool) → (IsTrue b ↔ IsTrue (lies_in all f) × (IsTrue (is_subset f.right f.left) → ⊥) × (Determines own f.left all → ⊥)) → IsTrue b ↔ ((g : Fd) × (slice_get fds i ≡ Some g) × Breaks fds all g)
breaks_read fds all own i f low is own_is b tells = at_read (Breaks fds all) fds i f low is b (
  λ h. let w = tells.0 h in record { lies = w.0; says = w.1; no_key = subst (λ (l : List Fd). Determines l f.left all → ⊥) own_is w.2 },
  λ breaks. tells.1 (breaks.lies, breaks.says, subst (λ (l : List Fd). Determines l f.left all → ⊥) (sym own_is) breaks.no_key),
)
