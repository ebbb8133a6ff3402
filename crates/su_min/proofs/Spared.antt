-- No kept term of a class can be spared: freeze it, find the tableau of the list that gives its head, freeze that one, and find the term of the class that gives its head.
use Rattle.std.proofs.Common.{◌≡◌, ◌<◌, ◌≤◌, ◌+◌, ◌∙◌, ℕ, zero, suc, List, [], ◌∷◌, length, get_or, All, Contains, sym, subst, arith}
use Rattle.std.proofs.lemmas.List.{get_or_default}
use Rattle.std.proofs.lemmas.List.Elements.{All-contains, recursion_from_All}
use Rattle.su_tableau.specs.Tableaux.{Tab, IsValid}
use Rattle.su_tableau.specs.Kinds.{Kinds, IsTyped}
use Rattle.su_tableau.specs.Parts.{part}
use Rattle.su_tableau.specs.Mapping.{Maps}
use Rattle.su_tableau.specs.Equivalent.{IsEquivalent}
use Rattle.su_tableau.specs.FrozenTableaux.{frozen_head, frozen_rows, tab_top}
use Rattle.su_tableau.proofs.Containment.{maps_compose, maps_within}
use Rattle.su_tableau.proofs.FrozenTableaux.{frozen_typed, frozen_answer, frozen_maps, within_maps}
use Rattle.su_tableau.proofs.Sets.{choose}
use Rattle.su_map.proofs.Containment.{list_maps, maps_list}
use Rattle.su_min.specs.Kept.{Minimised, IsMinimised}
use Rattle.su_min.specs.Cover.{AreAlike, Covers}
use Rattle.su_min.specs.Reduction.{term_at, IsKeptTerm, IsReduced}
use Rattle.su_min.specs.declared.reduced.Reduced.{Reduced}
use Rattle.su_min.specs.Needed.{tableau_at, IsInClass, HasAnswersOf, HasMember, AreNeeded}
use Rattle.su_min.proofs.Parts.{part_maps, into_maps}
use Rattle.su_min.proofs.Covers.{alike_back, alike_through}
use Rattle.su_min.proofs.KeptTerms.{kept_back}
use Rattle.su_base.specs.Lists.{AreExactly}
use Rattle.su_base.proofs.Numbers.{pigeonhole}
use Rattle.su_base.proofs.Items.{AllZip-get_or}

-- ---- a bound on all constants

tops : {A : Type 0} → (A → Tab) → List A → ℕ
tops f [] = 0
tops f (x ∷ xs) = tab_top (f x) + tops f xs

tops-le : {A : Type 0} (f : A → Tab) (xs : List A) (i : ℕ) (d : A) → i < length xs → tab_top (f (get_or xs i d)) ≤ tops f xs
unfolding tops
tops-le f [] i d h = absurd (omega arith)
tops-le f (x ∷ xs) zero d h = omega arith
tops-le f (x ∷ xs) (suc i) d h = let r = tops-le f xs i d (omega arith) in omega arith

member_top : (ts : List Tab) (t : Tab) → Contains ts t → tab_top t ≤ tops (λ t. t) ts
member_top ts t c = subst (λ q. tab_top q ≤ tops (λ t. t) ts) c.2 (tops-le (λ t. t) ts c.0 t c.1)

-- ---- whole terms and their kept parts

pub covers_whole : (one other : Minimised) → IsMinimised one → Covers one other → Maps one.tableau other.tableau
covers_whole one other is c =
    let p = part one.tableau one.mask in let q = part other.tableau other.mask in
    let f = list_maps one.tableau other.tableau one.mask other.mask c.list c.maps in
    maps_compose one.tableau p other.tableau (into_maps one.tableau one.mask is.kept.maps) (maps_compose p q other.tableau f (part_maps other.tableau other.mask))

pub whole_covers : (one other : Minimised) → IsMinimised other → AreAlike one.tableau other.tableau → Maps one.tableau other.tableau → Covers one other
whole_covers one other is alike f =
    let p = part one.tableau one.mask in let q = part other.tableau other.mask in
    let g = maps_compose p one.tableau q (part_maps one.tableau one.mask) (maps_compose one.tableau other.tableau q f (into_maps other.tableau other.mask is.kept.maps)) in
    let l = maps_list one.tableau other.tableau one.mask other.mask g in
    record { alike = alike; list = l.0; maps = l.1 }

both_ways : (kinds : Kinds) (s t : Tab) → Maps s t → Maps t s → IsEquivalent kinds s t
both_ways kinds s t f g universe h is = (maps_within kinds t s g universe h is, maps_within kinds s t f universe h is)

module _ (terms : List Minimised) (all_minimised : All IsMinimised terms) (r : Reduced) (reduced : IsReduced terms r) where
  module _ (kinds : Kinds) (typed : All (λ x. IsTyped kinds x.tableau) terms) (c : ℕ) where
    typed_at : (i : ℕ) → i < length terms → IsTyped kinds (tableau_at terms i)
    typed_at i h = typed i (term_at [] 0) h

    class_alike : (i j : ℕ) → IsInClass terms c i → IsInClass terms c j → AreAlike (tableau_at terms i) (tableau_at terms j)
    class_alike i j a b = alike_through (tableau_at terms i) (tableau_at terms c) (tableau_at terms j) (alike_back (tableau_at terms c) (tableau_at terms i) a.alike) b.alike

    minimised : (i : ℕ) → i < length terms → IsMinimised (term_at terms i)
    minimised i h = all_minimised i (term_at [] 0) h

    -- mappings of a term of the class to a kept one go back
    back : (i j : ℕ) → IsKeptTerm terms i → IsInClass terms c i → IsInClass terms c j → Maps (tableau_at terms j) (tableau_at terms i) → Maps (tableau_at terms i) (tableau_at terms j) × (i ≤ j)
    back i j kept ci cj f =
        let covers = whole_covers (term_at terms j) (term_at terms i) (minimised i ci.below) (class_alike j i cj ci) f in
        let b = kept_back terms r reduced i kept j cj.below covers in
        (covers_whole (term_at terms i) (term_at terms j) (minimised i ci.below) b.0, b.1)

    kept_apart : (i j : ℕ) → IsKeptTerm terms i → IsKeptTerm terms j → IsInClass terms c i → IsInClass terms c j → IsEquivalent kinds (tableau_at terms i) (tableau_at terms j) → i ≡ j
    kept_apart i j ki kj ci cj same =
        let s = tableau_at terms i in let t = tableau_at terms j in
        let to = within_maps kinds s t (typed_at i ci.below) (typed_at j cj.below) (λ u h w. (same u h w).1) in
        let from = within_maps kinds t s (typed_at j cj.below) (typed_at i ci.below) (λ u h w. (same u h w).0) in
        let a = (back i j ki ci cj from).1 in
        let b = (back j i kj cj ci to).1 in
        omega arith

    module _ (tableaux : List Tab) (typed_list : All (λ t. IsValid t × IsTyped kinds t) tableaux) (answers : HasAnswersOf kinds terms c tableaux) where
      -- the tableau of the list that has the frozen head of a term
      to_list : (i : ℕ) → IsInClass terms c i → (q : Tab) × Contains tableaux q × Maps q (tableau_at terms i)
      to_list i ci =
          let t = tableau_at terms i in
          let n : ℕ = tab_top t + tops (λ t. t) tableaux in
          let typed_t = typed_at i ci.below in
          let f = typed_t.var_kind in
          let r = (answers (frozen_rows f n t) (frozen_head f n t) (frozen_typed kinds t typed_t n)).0 (record { term = i; in_class = ci; answer = frozen_answer t f n }) in
          (r.tableau, r.member, frozen_maps r.tableau t f n (let a = member_top tableaux r.tableau r.member in omega arith) (omega arith) r.answer)

      -- the term of the class that has the frozen head of a tableau of the list
      to_class : (q : Tab) → Contains tableaux q → (i : ℕ) × IsInClass terms c i × Maps (tableau_at terms i) q
      to_class q member =
          let n : ℕ = tab_top q + tops (λ x. x.tableau) terms in
          let typed_q = (All-contains (λ t. IsValid t × IsTyped kinds t) tableaux q typed_list member).1 in
          let f = typed_q.var_kind in
          let r = (answers (frozen_rows f n q) (frozen_head f n q) (frozen_typed kinds q typed_q n)).1 (record { tableau = q; member = member; answer = frozen_answer q f n }) in
          (r.term, r.in_class, frozen_maps (tableau_at terms r.term) q f n (let a = tops-le (λ (x : Minimised). x.tableau) terms r.term (term_at [] 0) r.in_class.below in omega arith) (omega arith) r.answer)

      kept_member : (i : ℕ) → IsKeptTerm terms i → IsInClass terms c i → HasMember kinds terms tableaux i
      kept_member i ki ci =
          let a = to_list i ci in
          let b = to_class a.0 a.1 in
          let t = tableau_at terms i in let s = tableau_at terms b.0 in
          let turned = (back i b.0 ki ci b.1 (maps_compose s a.0 t b.2 a.2)).0 in
          record { tableau = a.0; member = a.1; same = both_ways kinds t a.0 (maps_compose t s a.0 turned b.2) a.2 }

      -- ---- how many

      -- a kept term of the class, and the place of a member that is equivalent to it
      record Stands (i l : ℕ) : Type 0 where
        kept : IsKeptTerm terms i
        in_class : IsInClass terms c i
        below : l < length tableaux
        same : (d : Tab) → IsEquivalent kinds (tableau_at terms i) (get_or tableaux l d)

      stands_apart : (i j l : ℕ) → Stands i l → Stands j l → i ≡ j
      stands_apart i j l r q =
          kept_apart i j r.kept q.kept r.in_class q.in_class (λ u h w. let x = r.same (tableau_at [] 0) u h w in let y = q.same (tableau_at [] 0) u h w in (λ e. y.1 (x.0 e), λ e. x.1 (y.0 e)))

      kept_count : (numbers : List ℕ) → AreExactly (λ i. (i < length terms) × (IsKeptTerm terms i × IsInClass terms c i)) numbers → length numbers ≤ length tableaux
      kept_count numbers list =
          let each : All (λ i. (l : ℕ) × Stands i l) numbers = λ k d h.
          let i = get_or numbers k d in
          let p = (list.members i).0 (k, h, get_or_default numbers k i d h) in
          let r = kept_member i p.1.0 p.1.1 in (
            r.member.0,
            record {
              kept = p.1.0;
              in_class = p.1.1;
              below = r.member.1;
              same = λ d. subst (IsEquivalent kinds (tableau_at terms i)) (sym (get_or_default tableaux r.member.0 d r.tableau r.member.1 ∙ r.member.2)) r.same;
            },
          ) in
          let ch = choose Stands numbers (recursion_from_All (λ i. (l : ℕ) × Stands i l) numbers each) in
          let at : (a : ℕ) → a < length numbers → Stands (get_or numbers a 0) (get_or ch.0 a 0) = λ a h. AllZip-get_or Stands numbers ch.0 a 0 0 ch.1 h in
          pigeonhole (length tableaux) (length numbers) (λ a. get_or ch.0 a 0) (λ a h. (at a h).below)
          (λ a b lt h e.
          let la : a < length numbers = omega arith in
          let same = stands_apart (get_or numbers a 0) (get_or numbers b 0) (get_or ch.0 b 0) (subst (Stands (get_or numbers a 0)) e (at a la)) (at b h) in
          let up = list.ascends a b lt h in
          absurd (omega arith))

      -- what the list of the kept terms says of the class
      pub needed : AreNeeded kinds terms r.kept c tableaux
      needed = let list = reduced.kept in record {
        members = λ i h ci. kept_member i ((list.members i).0 h).1 ci;
        apart = λ i j hi hj ci cj same. kept_apart i j ((list.members i).0 hi).1 ((list.members j).0 hj).1 ci cj same;
        count = λ numbers l. kept_count numbers (record {
          ascends = l.ascends;
          members = λ i. (
            λ h. let r = (l.members i).0 h in (r.0, (((list.members i).0 r.1.0).1, r.1.1)),
            λ h. (l.members i).1 (h.0, ((list.members i).1 (h.0, h.1.0), h.1.1)),
          );
        });
      }
