-- An ear may be taken first, whichever it is.
use Rattle.std.proofs.Common.{◌≡◌, ◌≢◌, ◌⊎◌, ◌↔◌, ℕ, cond, List, [], ◌∷◌, map, Contains, Option, None, Some, inl, inr, ⊎_elim, refl, sym, ap, subst, ◌∙◌, nat_eq, arith}
use Rattle.std.proofs.lemmas.Bool.{cases_eq}
use Rattle.std.proofs.lemmas.Bool.Decides.{nat_tests}
use Rattle.su_base.proofs.Items.{Contains-cases, Contains-head, Contains-later, Contains-nil}
use Rattle.su_tableau.specs.declared.symbols.Sym.{Sym}
use Rattle.su_reduce.specs.declared.edges.Ear.{Ear}
use Rattle.su_reduce.specs.Ears.{HasVar, Share, IsParent, numbers, AreEars}

-- ---- parents

-- an order of exactly these edges
pub record Order (edges : List (List Sym)) (P : ℕ → Type 0) : Type 0 where
  pub order : List Ear
  pub ears : AreEars edges order
  pub all : (i : ℕ) → P i ↔ Contains (numbers order) i

-- those without e
abbrev pub Without : (ℕ → Type 0) → ℕ → ℕ → Type 0
Without P e i = P i × (i ≢ e)

pub parent_iff : (edges : List (List Sym)) (e : ℕ) (P Q : ℕ → Type 0) → ((j : ℕ) → P j ↔ Q j) → (parent : Option ℕ) → IsParent edges e P parent → IsParent edges e Q parent
parent_iff edges e P Q same None h = λ j k q s. h j k ((same j).1 q) s
parent_iff edges e P Q same (Some p) h = ((same p).0 h.0, λ j k q s. h.1 j k ((same j).1 q) s)

-- where e is gone, an edge whose parent it was takes e's parent
handed : (edges : List (List Sym)) (l e : ℕ) (R : ℕ → Type 0) (q pe : Option ℕ) → IsParent edges l R q → IsParent edges e (Without R e) pe → (r : Option ℕ) × IsParent edges l (Without R e) r
handed edges l e R None pe hq hp = (None, λ j k r s. hq j k r.0 s)
handed edges l e R (Some m) None hq hp =
    ⊎_elim
    (λ (same : m ≡ e). (None, λ j k r s. hp j k r (subst (λ (i : ℕ). HasVar edges i k) same (hq.1 j k r.0 s), s.1)))
    (λ (other : m ≡ e → ⊥). (Some m, ((hq.0, other), λ j k r s. hq.1 j k r.0 s)))
    (cases_eq m e)
handed edges l e R (Some m) (Some p) hq hp =
    ⊎_elim
    (λ (same : m ≡ e). (Some p, (hp.0, λ j k r s. hp.1 j k r (subst (λ (i : ℕ). HasVar edges i k) same (hq.1 j k r.0 s), s.1))))
    (λ (other : m ≡ e → ⊥). (Some m, ((hq.0, other), λ j k r s. hq.1 j k r.0 s)))
    (cases_eq m e)

-- l, or one of these
abbrev pub With : ℕ → (ℕ → Type 0) → ℕ → Type 0
With l R i = (l ≡ i) ⊎ R i

-- where e's parent is l, it shares with the rest what l shares
inherited : (edges : List (List Sym)) (l e : ℕ) (R : ℕ → Type 0) (q : Option ℕ) → IsParent edges l R q → ((j k : ℕ) → Without R e j → Share edges e j k → HasVar edges l k) → ((r : Option ℕ) × IsParent edges e (Without R e) r) ⊎ (q ≡ Some e)
inherited edges l e R None hq has = inl (None, λ j k r s. hq j k r.0 (has j k r s, s.1))
inherited edges l e R (Some m) hq has =
    ⊎_elim
    (λ (same : m ≡ e). inr (ap Some same))
    (λ (other : m ≡ e → ⊥). inl (Some m, ((hq.0, other), λ j k r s. hq.1 j k r.0 (has j k r s, s.1))))
    (cases_eq m e)

-- e is an ear without l too, unless each is the other's parent
inner : (edges : List (List Sym)) (l e : ℕ) (R : ℕ → Type 0) (q pe : Option ℕ) → IsParent edges l R q → IsParent edges e (Without (With l R) e) pe → ((r : Option ℕ) × IsParent edges e (Without R e) r) ⊎ ((pe ≡ Some l) × (q ≡ Some e))
inner edges l e R q None hq hp = inl (None, λ j k r s. hp j k (inr r.0, r.1) s)
inner edges l e R q (Some p) hq hp =
    ⊎_elim
    (λ (is_l : l ≡ p).
    ⊎_elim
    (λ (found : (r : Option ℕ) × IsParent edges e (Without R e) r). inl found)
    (λ (back : q ≡ Some e). inr (ap Some (sym is_l), back))
    (inherited edges l e R q hq (λ j k r s. subst (λ (i : ℕ). HasVar edges i k) (sym is_l) (hp.1 j k (inr r.0, r.1) s))))
    (λ (in_rest : R p). inl (Some p, ((in_rest, hp.0.1), λ j k r s. hp.1 j k (inr r.0, r.1) s)))
    hp.0.0

-- ---- l in the place of e

-- l where it was e
abbrev pub renamed : ℕ → ℕ → ℕ → ℕ
renamed e l i = cond (nat_eq i e) l i

renamed_same : (e l i : ℕ) → i ≡ e → renamed e l i ≡ l
renamed_same e l i same = grind (arith, nat_tests, same)

renamed_other : (e l i : ℕ) → (i ≡ e → ⊥) → renamed e l i ≡ i
renamed_other e l i other = grind (arith, nat_tests, other)

renamed_once : (e l i j : ℕ) → (i ≡ l → ⊥) → (j ≡ l → ⊥) → renamed e l i ≡ renamed e l j → i ≡ j
renamed_once e l i j hi hj same =
    ⊎_elim
    (λ (ie : i ≡ e). ⊎_elim
    (λ (je : j ≡ e). ie ∙ sym je)
    (λ (jn : j ≡ e → ⊥). absurd (hj (sym (renamed_other e l j jn) ∙ sym same ∙ renamed_same e l i ie)))
    (cases_eq j e))
    (λ (in_ : i ≡ e → ⊥). ⊎_elim
    (λ (je : j ≡ e). absurd (hi (sym (renamed_other e l i in_) ∙ same ∙ renamed_same e l j je)))
    (λ (jn : j ≡ e → ⊥). sym (renamed_other e l i in_) ∙ same ∙ renamed_other e l j jn)
    (cases_eq j e))
    (cases_eq i e)

abbrev pub renamed_parent : ℕ → ℕ → Option ℕ → Option ℕ
renamed_parent e l None = None
renamed_parent e l (Some p) = Some (renamed e l p)

abbrev pub renamed_ear : ℕ → ℕ → Ear → Ear
renamed_ear e l ear = record { edge = renamed e l ear.edge; parent = renamed_parent e l ear.parent }

-- e and l share the same with each other edge
abbrev pub Alike : List (List Sym) → ℕ → ℕ → List ℕ → Type 0
Alike edges e l ks = (j k : ℕ) → Contains ks j → (j ≡ e → ⊥) → HasVar edges j k → HasVar edges e k ↔ HasVar edges l k

-- a member that becomes i
abbrev pub Becomes : ℕ → ℕ → List Ear → ℕ → Type 0
Becomes e l order i = (j : ℕ) × Contains (numbers order) j × (renamed e l j ≡ i)

was : (e l : ℕ) (order : List Ear) (i : ℕ) → Contains (numbers (map (renamed_ear e l) order)) i → Becomes e l order i
was e l [] i c = absurd (Contains-nil i c)
was e l (ear ∷ later) i c =
    ⊎_elim
    (λ (here : renamed e l ear.edge ≡ i). (ear.edge, Contains-head ear.edge (numbers later), here))
    (λ (there : Contains (numbers (map (renamed_ear e l) later)) i). let w = was e l later i there in (w.0, Contains-later ear.edge (numbers later) w.0 w.1, w.2))
    (Contains-cases (renamed e l ear.edge) (numbers (map (renamed_ear e l) later)) i c)

becomes : (e l : ℕ) (order : List Ear) (j : ℕ) → Contains (numbers order) j → Contains (numbers (map (renamed_ear e l) order)) (renamed e l j)
becomes e l [] j c = absurd (Contains-nil j c)
becomes e l (ear ∷ later) j c =
    ⊎_elim
    (λ (here : ear.edge ≡ j). subst (λ (i : ℕ). Contains (numbers (map (renamed_ear e l) (ear ∷ later))) (renamed e l i)) here (Contains-head (renamed e l ear.edge) (numbers (map (renamed_ear e l) later))))
    (λ (there : Contains (numbers later) j). Contains-later (renamed e l ear.edge) (numbers (map (renamed_ear e l) later)) (renamed e l j) (becomes e l later j there))
    (Contains-cases ear.edge (numbers later) j c)

-- what the new edges share, the old ones shared
shared_before : (edges : List (List Sym)) (e l x j k : ℕ) (ks : List ℕ) → Alike edges e l (x ∷ ks) → (x ≡ j → ⊥) → Contains ks j → Share edges (renamed e l x) (renamed e l j) k → Share edges x j k
shared_before edges e l x j k ks alike apart c s =
    ⊎_elim
    (λ (xe : x ≡ e). let jn : j ≡ e → ⊥ = λ je. apart (xe ∙ sym je) in
    let has_j : HasVar edges j k = subst (λ (i : ℕ). HasVar edges i k) (renamed_other e l j jn) s.1 in
    let has_l : HasVar edges l k = subst (λ (i : ℕ). HasVar edges i k) (renamed_same e l x xe) s.0 in
    (subst (λ (i : ℕ). HasVar edges i k) (sym xe) ((alike j k (Contains-later x ks j c) jn has_j).1 has_l), has_j))
    (λ (xn : x ≡ e → ⊥).
    let has_x : HasVar edges x k = subst (λ (i : ℕ). HasVar edges i k) (renamed_other e l x xn) s.0 in
    ⊎_elim
    (λ (je : j ≡ e).
    let has_l : HasVar edges l k = subst (λ (i : ℕ). HasVar edges i k) (renamed_same e l j je) s.1 in
    (has_x, subst (λ (i : ℕ). HasVar edges i k) (sym je) ((alike x k (Contains-head x ks) xn has_x).1 has_l)))
    (λ (jn : j ≡ e → ⊥). (has_x, subst (λ (i : ℕ). HasVar edges i k) (renamed_other e l j jn) s.1))
    (cases_eq j e))
    (cases_eq x e)

-- the parent of x stands in for itself
parent_renamed : (edges : List (List Sym)) (e l x : ℕ) (later : List Ear) → Alike edges e l (x ∷ numbers later) → (Contains (numbers later) x → ⊥) → (parent : Option ℕ) → IsParent edges x (Contains (numbers later)) parent → IsParent edges (renamed e l x) (Contains (numbers (map (renamed_ear e l) later))) (renamed_parent e l parent)
parent_renamed edges e l x later alike apart None h = λ i k c s.
    let w = was e l later i c in
    h w.0 k w.1 (shared_before edges e l x w.0 k (numbers later) alike (λ same. apart (subst (Contains (numbers later)) (sym same) w.1)) w.1 (s.0, subst (λ (n : ℕ). HasVar edges n k) (sym w.2) s.1))
parent_renamed edges e l x later alike apart (Some p) h = (
  becomes e l later p h.0,
  λ i k c s.
      let w = was e l later i c in
      let before : Share edges x w.0 k = shared_before edges e l x w.0 k (numbers later) alike (λ same. apart (subst (Contains (numbers later)) (sym same) w.1)) w.1 (s.0, subst (λ (n : ℕ). HasVar edges n k) (sym w.2) s.1) in
      let has_p : HasVar edges p k = h.1 w.0 k w.1 before in
      ⊎_elim
      (λ (pe : p ≡ e).
      let xn : x ≡ e → ⊥ = λ xe. apart (subst (Contains (numbers later)) (pe ∙ sym xe) h.0) in
      subst (λ (n : ℕ). HasVar edges n k) (sym (renamed_same e l p pe)) ((alike x k (Contains-head x (numbers later)) xn before.0).0 (subst (λ (n : ℕ). HasVar edges n k) pe has_p)))
      (λ (pn : p ≡ e → ⊥). subst (λ (n : ℕ). HasVar edges n k) (sym (renamed_other e l p pn)) has_p)
      (cases_eq p e),
)

stand_in : (edges : List (List Sym)) (e l : ℕ) (order : List Ear) → (Contains (numbers order) l → ⊥) → Alike edges e l (numbers order) → AreEars edges order → AreEars edges (map (renamed_ear e l) order)
stand_in edges e l [] out alike ears = tt
stand_in edges e l (ear ∷ later) out alike ears = (
  λ c.
      let w = was e l later (renamed e l ear.edge) c in
      let not_l : (j : ℕ) → Contains (numbers later) j → j ≡ l → ⊥ = λ j cj same. out (Contains-later ear.edge (numbers later) l (subst (Contains (numbers later)) same cj)) in
      let head_not_l : ear.edge ≡ l → ⊥ = λ same. out (subst (Contains (numbers (ear ∷ later))) same (Contains-head ear.edge (numbers later))) in
      ears.0 (subst (Contains (numbers later)) (renamed_once e l w.0 ear.edge (not_l w.0 w.1) head_not_l w.2) w.1),
  parent_renamed edges e l ear.edge later alike ears.0 ear.parent ears.1,
  stand_in edges e l later (λ c. out (Contains-later ear.edge (numbers later) l c)) (λ j k c. alike j k (Contains-later ear.edge (numbers later) j c)) ears.2,
)

-- ---- the theorem

-- l before an order of the rest without e
put : (edges : List (List Sym)) (l : Ear) (rest : List Ear) (e : ℕ) → (Contains (numbers rest) l.edge → ⊥) → (l.edge ≡ e → ⊥) → (r : Option ℕ) → IsParent edges l.edge (Without (Contains (numbers rest)) e) r → Order edges (Without (Contains (numbers rest)) e) → Order edges (Without (Contains (numbers (l ∷ rest))) e)
put edges l rest e apart other r hr o =
    let first : Ear = record { edge = l.edge; parent = r } in
    record {
      order = first ∷ o.order;
      ears = (λ c. apart ((o.all l.edge).1 c).0, parent_iff edges l.edge (Without (Contains (numbers rest)) e) (Contains (numbers o.order)) o.all r hr, o.ears);
      all = λ i. (
        λ h. ⊎_elim
            (λ (here : l.edge ≡ i). subst (Contains (numbers (first ∷ o.order))) here (Contains-head l.edge (numbers o.order)))
            (λ (there : Contains (numbers rest) i). Contains-later l.edge (numbers o.order) i ((o.all i).0 (there, h.1)))
            (Contains-cases l.edge (numbers rest) i h.0),
        λ c. ⊎_elim
            (λ (here : l.edge ≡ i). (subst (Contains (numbers (l ∷ rest))) here (Contains-head l.edge (numbers rest)), λ same. other (here ∙ same)))
            (λ (there : Contains (numbers o.order) i). let m = (o.all i).1 there in (Contains-later l.edge (numbers rest) i m.0, m.1))
            (Contains-cases l.edge (numbers o.order) i c),
      );
    }

-- each is the other's parent: l stands in for e
exchanged : (edges : List (List Sym)) (l : Ear) (rest : List Ear) (e : ℕ) → AreEars edges (l ∷ rest) → (l.edge ≡ e → ⊥) → Contains (numbers rest) e → IsParent edges l.edge (Contains (numbers rest)) (Some e) → IsParent edges e (Without (With l.edge (Contains (numbers rest))) e) (Some l.edge) → Order edges (Without (Contains (numbers (l ∷ rest))) e)
exchanged edges l rest e ears other ce hl he = record {
  order = map (renamed_ear e l.edge) rest;
  ears = stand_in edges e l.edge rest ears.0 (λ j k c jn has. (λ has_e. he.1 j k (inr c, jn) (has_e, has), λ has_l. hl.1 j k c (has_l, has))) ears.2;
  all = λ i. (
    λ h. ⊎_elim
        (λ (here : l.edge ≡ i). subst (Contains (numbers (map (renamed_ear e l.edge) rest))) (renamed_same e l.edge e refl ∙ here) (becomes e l.edge rest e ce))
        (λ (there : Contains (numbers rest) i). subst (Contains (numbers (map (renamed_ear e l.edge) rest))) (renamed_other e l.edge i h.1) (becomes e l.edge rest i there))
        (Contains-cases l.edge (numbers rest) i h.0),
    λ c. let w = was e l.edge rest i c in
        ⊎_elim
        (λ (same : w.0 ≡ e).
        let is_l : l.edge ≡ i = sym (renamed_same e l.edge w.0 same) ∙ w.2 in
        (subst (Contains (numbers (l ∷ rest))) is_l (Contains-head l.edge (numbers rest)), λ ie. other (is_l ∙ ie)))
        (λ (differs : w.0 ≡ e → ⊥).
        let is_w : w.0 ≡ i = sym (renamed_other e l.edge w.0 differs) ∙ w.2 in
        (Contains-later l.edge (numbers rest) i (subst (Contains (numbers rest)) is_w w.1), λ ie. differs (is_w ∙ ie)))
        (cases_eq w.0 e),
  );
}

-- the members of an order, its first one by itself
with_rest : (l : Ear) (rest : List Ear) (e j : ℕ) → Without (Contains (numbers (l ∷ rest))) e j ↔ Without (With l.edge (Contains (numbers rest))) e j
with_rest l rest e j = (
  λ h. (Contains-cases l.edge (numbers rest) j h.0, h.1),
  λ h. (
    ⊎_elim
        (λ (here : l.edge ≡ j). subst (Contains (numbers (l ∷ rest))) here (Contains-head l.edge (numbers rest)))
        (λ (there : Contains (numbers rest) j). Contains-later l.edge (numbers rest) j there)
        h.0,
    h.1,
  ),
)

-- an ear beside the others of an order may be taken first
pub ear_first : (edges : List (List Sym)) (order : List Ear) (e : ℕ) (pe : Option ℕ) → AreEars edges order → Contains (numbers order) e → IsParent edges e (Without (Contains (numbers order)) e) pe → Order edges (Without (Contains (numbers order)) e)
ear_first edges [] e pe ears c h = absurd (Contains-nil e c)
ear_first edges (l ∷ rest) e pe ears c h =
    ⊎_elim
    (λ (same : l.edge ≡ e). record {
      order = rest;
      ears = ears.2;
      all = λ i. (
        λ m. ⊎_elim
            (λ (here : l.edge ≡ i). absurd (m.1 (sym here ∙ same)))
            (λ (there : Contains (numbers rest) i). there)
            (Contains-cases l.edge (numbers rest) i m.0),
        λ there. (Contains-later l.edge (numbers rest) i there, λ ie. ears.0 (subst (Contains (numbers rest)) (ie ∙ sym same) there)),
      );
    })
    (λ (other : l.edge ≡ e → ⊥).
    let ce : Contains (numbers rest) e = ⊎_elim (λ (here : l.edge ≡ e). absurd (other here)) (λ (there : Contains (numbers rest) e). there) (Contains-cases l.edge (numbers rest) e c) in
    let he : IsParent edges e (Without (With l.edge (Contains (numbers rest))) e) pe = parent_iff edges e (Without (Contains (numbers (l ∷ rest))) e) (Without (With l.edge (Contains (numbers rest))) e) (with_rest l rest e) pe h in
    ⊎_elim
    (λ (found : (r : Option ℕ) × IsParent edges e (Without (Contains (numbers rest)) e) r).
    let hand = handed edges l.edge e (Contains (numbers rest)) l.parent found.0 ears.1 found.1 in
    put edges l rest e ears.0 other hand.0 hand.1 (ear_first edges rest e found.0 ears.2 ce found.1))
    (λ (both : (pe ≡ Some l.edge) × (l.parent ≡ Some e)).
    exchanged edges l rest e ears other ce
    (subst (IsParent edges l.edge (Contains (numbers rest))) both.1 ears.1)
    (subst (IsParent edges e (Without (With l.edge (Contains (numbers rest))) e)) both.0 he))
    (inner edges l.edge e (Contains (numbers rest)) l.parent pe ears.1 he))
    (cases_eq l.edge e)
