-- Taking ears away one after another: what stands after each of them.
use Rattle.std.proofs.Common.{◌≡◌, ◌≢◌, ◌↔◌, ◌<◌, ◌+◌, ℕ, true, false, not, ◌&&◌, cond, List, [], ◌∷◌, ◌++◌, length, get_or, Contains, Option, refl, sym, ap, subst, ◌∙◌, nat_eq, true≢false, append_assoc, append-nil, ⊎_elim, arith}
use Rattle.std.specs.Ordering.{nat_cmp}
use Rattle.std.specs.Cmp.{nat_cmp_total}
use Rattle.std.specs.FinSet.{FinSet, contains, empty, insert, len, len-insert, members, contains-empty, same_set, nat_cmp-IsAntisymmetric}
use Rattle.std.proofs.lemmas.Bool.{cases_eq, cases_Bool}
use Rattle.std.proofs.lemmas.Bool.Decides.{nat_tests}
use Rattle.su_base.proofs.Items.{Contains-cases, Contains-head, Contains-later, Contains-nil}
use Rattle.su_tableau.specs.declared.symbols.Sym.{Sym}
use Rattle.su_reduce.specs.declared.edges.Ear.{Ear}
use Rattle.su_reduce.specs.Ears.{IsParent, numbers, AreEars, IsEarOrder, AreAcyclic}
use Rattle.su_reduce.specs.inside.Partners.{In, without, AreTable, IsParentBy}
use Rattle.su_reduce.proofs.EarOrders.{Order, Without, parent_iff, ear_first}
use Rattle.su_reduce.proofs.Tables.{parent_from, parent_by}

-- ---- sets

contains_without : (s : FinSet nat_cmp) (e i : ℕ) → contains (without s e) i ≡ (contains s i && not (nat_eq i e))
contains_without s e i = grind (arith, nat_tests, members)

kept_without : (s : FinSet nat_cmp) (e i : ℕ) → (i ≡ e → ⊥) → contains (without s e) i ≡ contains s i
kept_without s e i other = let is = contains_without s e i in grind (arith, nat_tests, is, other)

insert_own : (s : FinSet nat_cmp) (e i : ℕ) → i ≡ e → contains (insert s e) i ≡ true
insert_own s e i same = grind (arith, nat_tests, members, same)

insert_other : (s : FinSet nat_cmp) (e i : ℕ) → (i ≡ e → ⊥) → contains (insert s e) i ≡ contains s i
insert_other s e i other = grind (arith, nat_tests, members, other)

pub in_without : (s : FinSet nat_cmp) (e i : ℕ) → In (without s e) i ↔ (In s i × (i ≢ e))
in_without s e i =
    let is = contains_without s e i in
    ⊎_elim
    (λ (same : i ≡ e). let gone : contains (without s e) i ≡ false = grind (arith, nat_tests, is, same) in (λ m. absurd (true≢false (sym m ∙ gone)), λ h. absurd (h.1 same)))
    (λ (other : i ≡ e → ⊥). let kept : contains (without s e) i ≡ contains s i = grind (arith, nat_tests, is, other) in (λ m. (sym kept ∙ m, other), λ h. kept ∙ h.0))
    (cases_eq i e)

pub len_without : (s : FinSet nat_cmp) (e : ℕ) → In s e → len (without s e) < len s
len_without s e has =
    let gone : contains (without s e) e ≡ false = grind (arith, nat_tests, contains_without s e e) in
    let back : insert (without s e) e ≡ s = same_set nat_cmp_total nat_cmp-IsAntisymmetric _ _ (λ q. ⊎_elim
    (λ (same : q ≡ e). insert_own (without s e) e q same ∙ sym (subst (λ (n : ℕ). contains s n ≡ true) (sym same) has))
    (λ (other : q ≡ e → ⊥). insert_other (without s e) e q other ∙ kept_without s e q other)
    (cases_eq q e)) in
    let more : len (insert (without s e) e) ≡ len (without s e) + 1 = len-insert nat_cmp_total (without s e) e ∙ ap (λ b. cond b (len (without s e)) (len (without s e) + 1)) gone in
    let same : len (insert (without s e) e) ≡ len s = ap len back in
    omega (arith, more, same)

none_in : (s : FinSet nat_cmp) → ((i : ℕ) → In s i → ⊥) → s ≡ empty
none_in s none = same_set nat_cmp_total nat_cmp-IsAntisymmetric _ _ (λ q. ⊎_elim
    (λ (is : contains s q ≡ true). absurd (none q is))
    (λ (is : contains s q ≡ false). is ∙ sym (contains-empty nat_cmp q))
    (cases_Bool (contains s q)))

none_member : (i : ℕ) → In empty i → ⊥
none_member i m = true≢false (sym m ∙ contains-empty nat_cmp i)

-- ---- rounds

-- the ears so far, followed by any order of those that are left, are an ear order
abbrev pub IsSoFar : List (List Sym) → FinSet nat_cmp → List Ear → Type 0
IsSoFar edges left order = (rest : List Ear) → AreEars edges rest → ((i : ℕ) → In left i ↔ Contains (numbers rest) i) → IsEarOrder edges (order ++ rest)

-- if the edges have an order, those that are left have one
abbrev pub Reaches : List (List Sym) → FinSet nat_cmp → Type 0
Reaches edges left = AreAcyclic edges → Order edges (In left)

pub so_far_first : (edges : List (List Sym)) (n : ℕ) (left : FinSet nat_cmp) → n ≡ length edges → ((j : ℕ) → In left j ↔ (j < n)) → IsSoFar edges left []
so_far_first edges n left long all = λ rest ears same. record {
  all = λ i. (λ l. (same i).0 ((all i).1 (omega (arith, long, l))), λ c. let l = (all i).0 ((same i).1 c) in omega (arith, long, l));
  ears = ears;
}

pub reaches_first : (edges : List (List Sym)) (n : ℕ) (left : FinSet nat_cmp) → n ≡ length edges → ((j : ℕ) → In left j ↔ (j < n)) → Reaches edges left
reaches_first edges n left long all = λ found. record {
  order = found.0;
  ears = found.1.ears;
  all = λ i. (λ m. (found.1.all i).0 (let l = (all i).0 m in omega (arith, long, l)), λ c. (all i).1 (let l = (found.1.all i).1 c in omega (arith, long, l)));
}

-- an ear among those that are left, by the sets of its cells
abbrev pub IsEar : List (List Sym) → FinSet nat_cmp → Ear → Type 0
IsEar edges left ear = In left ear.edge × IsParent edges ear.edge (In (without left ear.edge)) ear.parent

pub so_far_next : (edges : List (List Sym)) (left : FinSet nat_cmp) (order : List Ear) (ear : Ear) → IsSoFar edges left order → IsEar edges left ear → IsSoFar edges (without left ear.edge) (order ++ ear ∷ [])
so_far_next edges left order ear so_far is_ear = λ rest ears same.
    let e = ear.edge in
    subst (IsEarOrder edges) (sym (append_assoc order (ear ∷ []) rest))
    (so_far (ear ∷ rest)
    (λ c. ((in_without left e e).0 ((same e).1 c)).1 refl, parent_iff edges e (In (without left e)) (Contains (numbers rest)) same ear.parent is_ear.1, ears)
    (λ i. (
      λ m. ⊎_elim
          (λ (here : e ≡ i). subst (Contains (numbers (ear ∷ rest))) here (Contains-head e (numbers rest)))
          (λ (other : e ≡ i → ⊥). Contains-later e (numbers rest) i ((same i).0 ((in_without left e i).1 (m, λ ie. other (sym ie)))))
          (cases_eq e i),
      λ c. ⊎_elim
          (λ (here : e ≡ i). subst (In left) here is_ear.0)
          (λ (there : Contains (numbers rest) i). ((in_without left e i).0 ((same i).1 there)).0)
          (Contains-cases e (numbers rest) i c),
    )))

pub reaches_next : (edges : List (List Sym)) (left : FinSet nat_cmp) (ear : Ear) → Reaches edges left → IsEar edges left ear → Reaches edges (without left ear.edge)
reaches_next edges left ear reaches is_ear = λ found.
    let o = reaches found in
    let e = ear.edge in
    let same : (i : ℕ) → In (without left e) i ↔ Without (Contains (numbers o.order)) e i = λ i. (
      λ m. let w = (in_without left e i).0 m in ((o.all i).0 w.0, w.1),
      λ w. (in_without left e i).1 ((o.all i).1 w.0, w.1),
    ) in
    let rest = ear_first edges o.order e ear.parent o.ears ((o.all e).0 is_ear.0) (parent_iff edges e (In (without left e)) (Without (Contains (numbers o.order)) e) same ear.parent is_ear.1) in
    record {
      order = rest.order;
      ears = rest.ears;
      all = λ i. (λ m. (rest.all i).0 ((same i).0 m), λ c. (same i).1 ((rest.all i).1 c));
    }

pub ear_by : (edges : List (List Sym)) (table : List (List (FinSet nat_cmp))) (left : FinSet nat_cmp) (ear : Ear) → AreTable edges table → ((j : ℕ) → In left j → j < length table) → In left ear.edge → IsParentBy (get_or table ear.edge []) (without left ear.edge) ear.parent → IsEar edges left ear
ear_by edges table left ear t within has h = (has, parent_from edges ear.edge (get_or table ear.edge []) (without left ear.edge) (t.each ear.edge (within ear.edge has)) ear.parent h)

-- an order has a first ear
first_of : (edges : List (List Sym)) (table : List (List (FinSet nat_cmp))) (left : FinSet nat_cmp) (order : List Ear) → AreTable edges table → ((j : ℕ) → In left j → j < length table) → (left ≡ empty → ⊥) → ((e : ℕ) (parent : Option ℕ) → In left e → ¬ IsParentBy (get_or table e []) (without left e) parent) → AreEars edges order → ((i : ℕ) → In left i ↔ Contains (numbers order) i) → ⊥
first_of edges table left [] t within some none ears all = some (none_in left (λ i m. Contains-nil i ((all i).0 m)))
first_of edges table left (ear ∷ rest) t within some none ears all =
    let e = ear.edge in
    let has : In left e = (all e).1 (Contains-head e (numbers rest)) in
    let same : (i : ℕ) → Contains (numbers rest) i ↔ In (without left e) i = λ i. (
      λ c. (in_without left e i).1 ((all i).1 (Contains-later e (numbers rest) i c), λ ie. ears.0 (subst (Contains (numbers rest)) ie c)),
      λ m. let w = (in_without left e i).0 m in ⊎_elim
          (λ (here : e ≡ i). absurd (w.1 (sym here)))
          (λ (there : Contains (numbers rest) i). there)
          (Contains-cases e (numbers rest) i ((all i).0 w.0)),
    ) in
    none e ear.parent has (parent_by edges e (get_or table e []) (without left e) (t.each e (within e has)) ear.parent (parent_iff edges e (Contains (numbers rest)) (In (without left e)) same ear.parent ears.1))

-- where no ear is left, there is no order
pub stuck : (edges : List (List Sym)) (table : List (List (FinSet nat_cmp))) (left : FinSet nat_cmp) → AreTable edges table → ((j : ℕ) → In left j → j < length table) → (left ≡ empty → ⊥) → ((e : ℕ) (parent : Option ℕ) → In left e → ¬ IsParentBy (get_or table e []) (without left e) parent) → Reaches edges left → ¬ AreAcyclic edges
stuck edges table left t within some none reaches = λ found.
    let o = reaches found in
    first_of edges table left o.order t within some none o.ears o.all

pub none_left : (edges : List (List Sym)) (left : FinSet nat_cmp) (order : List Ear) → left ≡ empty → IsSoFar edges left order → IsEarOrder edges order
none_left edges left order gone so_far = subst (IsEarOrder edges) (append-nil order) (so_far [] tt (λ i. (λ m. absurd (none_member i (subst (λ (s : FinSet nat_cmp). In s i) gone m)), λ c. absurd (Contains-nil i c))))
