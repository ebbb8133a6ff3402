-- Trees in a table: shorter paths leave the classes as they are, and a link of two roots joins two classes.
use Rattle.std.proofs.Common.{◌≡◌, ◌≢◌, ◌↔◌, ℕ, zero, suc, ◌+◌, ◌<◌, ◌≤◌, ⊎_elim, cond, List, length, set, refl, sym, ap, ◌∙◌, subst, arith}
use Rattle.std.specs.Prelude.{nat_eq}
use Rattle.std.proofs.lemmas.Bool.{cases_eq, eq-eqb, ne_eqb, cond-true, cond-false}
use Rattle.std.proofs.lemmas.Bool.Decides.{nat_tests}
use Rattle.std.proofs.lemmas.List.{get_or-set_same, get_or-set_other, length-set, set-get_or}
use Rattle.su_tableau.specs.declared.symbols.Sym.{Sym}
use Rattle.su_classes.specs.Tables.{rep, IsTable, IsSound}
use Rattle.su_classes.specs.inside.Tables.{IsForest, roots, class_count, IsJoining, IsShortened}

-- ---- counting roots

same_roots : (old new : List ℕ) (k : ℕ) → ((j : ℕ) → j < k → (rep old j ≡ j) ↔ (rep new j ≡ j)) → roots new k ≡ roots old k
same_roots old new zero h = refl
same_roots old new (suc k) h =
    let i = same_roots old new k (λ j l. h j (omega arith)) in
    let e : (rep old k ≡ k) ↔ (rep new k ≡ k) = h k (omega arith) in
    let same : cond (nat_eq (rep new k) k) 1 0 ≡ cond (nat_eq (rep old k) k) 1 0 =
    ⊎_elim
    (λ (is : rep old k ≡ k). cond-true (nat_eq (rep new k) k) 1 0 (eq-eqb (rep new k) k (e.0 is)) ∙ sym (cond-true (nat_eq (rep old k) k) 1 0 (eq-eqb (rep old k) k is)))
    (λ (no : rep old k ≢ k). cond-false (nat_eq (rep new k) k) 1 0 (ne_eqb (rep new k) k (λ f. no (e.1 f))) ∙ sym (cond-false (nat_eq (rep old k) k) 1 0 (ne_eqb (rep old k) k no)))
    (cases_eq (rep old k) k) in
    ap (λ z. z + roots new k) same ∙ ap (λ z. cond (nat_eq (rep old k) k) 1 0 + z) i

-- ---- shorter paths

pub shortened_count : (old new : List ℕ) → IsShortened old new → class_count new ≡ class_count old
shortened_count old new s = ap (roots new) s.same_length ∙ same_roots old new (length old) s.roots

pub shortened_none : (t : List ℕ) → IsForest t → IsShortened t t
shortened_none t f = record {
  same_length = refl;
  ordered = f;
  exact = λ label. (λ s. s, λ s. s);
  roots = λ k l. (λ e. e, λ e. e);
  flat = λ is. refl;
}

pub shortened_then : (a b c : List ℕ) → IsShortened a b → IsShortened b c → IsShortened a c
shortened_then a b c s r =
    let e = s.same_length in
    record {
      same_length = r.same_length ∙ s.same_length;
      ordered = r.ordered;
      exact = λ label. (λ x. (s.exact label).0 ((r.exact label).0 x), λ x. (r.exact label).1 ((s.exact label).1 x));
      roots = λ k l. let m : k < length b = omega arith in (λ x. (r.roots k m).0 ((s.roots k l).0 x), λ x. (s.roots k l).1 ((r.roots k m).1 x));
      flat = λ is. let same = s.flat is in r.flat (subst IsTable (sym same) is) ∙ same;
    }

-- the item gets its parent's parent
module _ (t : List ℕ) (i : ℕ) (f : IsForest t) (l : i < length t) where
  abbrev above : ℕ
  above = rep t (rep t i)

  abbrev new : List ℕ
  new = set t i above

  here : rep new i ≡ above
  here = get_or-set_same t i above 0 l

  there : (j : ℕ) → j ≢ i → rep new j ≡ rep t j
  there j ne = get_or-set_other t i j above 0 ne

  parent_in : rep t i < length t
  parent_in = let b = f i l in omega arith

  above_le : above ≤ rep t i
  above_le = f (rep t i) parent_in

  step_ordered : (j : ℕ) → j < length new → rep new j ≤ j
  step_ordered j m =
      let e = length-set t i above in
      ⊎_elim
      (λ (is : j ≡ i). let b = f i l in let a = above_le in let h : rep new j ≡ above = ap (rep new) is ∙ here in omega arith)
      (λ (no : j ≢ i). let h = there j no in let b = f j (omega arith) in omega arith)
      (cases_eq j i)

  step_sound : (label : ℕ → Sym) → IsSound t label → IsSound new label
  step_sound label s j m =
      let e = length-set t i above in
      ⊎_elim
      (λ (is : j ≡ i). ap label is ∙ s i l ∙ s (rep t i) parent_in ∙ ap label (sym here) ∙ ap (λ k. label (rep new k)) (sym is))
      (λ (no : j ≢ i). s j (omega arith) ∙ ap label (sym (there j no)))
      (cases_eq j i)

  step_back : (label : ℕ → Sym) → IsSound new label → IsSound t label
  step_back label s j m =
      let e = length-set t i above in
      ⊎_elim
      (λ (is : j ≡ i).
      ⊎_elim
      (λ (own : rep t i ≡ i). ap label (is ∙ sym own) ∙ ap (λ k. label (rep t k)) (sym is))
      (λ (no : rep t i ≢ i).
      let p = parent_in in
      let a : label i ≡ label above = s i (omega arith) ∙ ap label here in
      let b : label (rep t i) ≡ label above = s (rep t i) (omega arith) ∙ ap label (there (rep t i) no) in
      ap label is ∙ a ∙ sym b ∙ ap (λ k. label (rep t k)) (sym is))
      (cases_eq (rep t i) i))
      (λ (no : j ≢ i). s j (omega arith) ∙ ap label (there j no))
      (cases_eq j i)

  step_roots : (k : ℕ) → k < length t → (rep t k ≡ k) ↔ (rep new k ≡ k)
  step_roots k m =
      ⊎_elim
      (λ (is : k ≡ i).
      let b = f i l in
      let a = above_le in
      let h : rep new k ≡ above = ap (rep new) is ∙ here in
      let q : rep t k ≡ rep t i = ap (rep t) is in
      (λ own. let o : rep t i ≡ i = sym q ∙ own ∙ is in let u : above ≡ rep t i = ap (rep t) o in h ∙ u ∙ o ∙ sym is, λ own. omega arith))
      (λ (no : k ≢ i). let h = there k no in (λ own. h ∙ own, λ own. sym h ∙ own))
      (cases_eq k i)

  pub shortened_step : IsShortened t (set t i (rep t (rep t i)))
  shortened_step = record {
    same_length = length-set t i above;
    ordered = step_ordered;
    exact = λ label. (step_back label, step_sound label);
    roots = step_roots;
    flat = λ is. ap (set t i) (is.own i l) ∙ set-get_or t i 0;
  }

  -- the items before i have roots for parents, and then so has i
  pub flat_more : ((k : ℕ) → k < i → rep t (rep t k) ≡ rep t k) → (k : ℕ) → k < i + 1 → rep (set t i (rep t (rep t i))) (rep (set t i (rep t (rep t i))) k) ≡ rep (set t i (rep t (rep t i))) k
  flat_more done k m =
      let b = f i l in
      let a = above_le in
      ⊎_elim
      (λ (is : k ≡ i).
      let h : rep new k ≡ above = ap (rep new) is ∙ here in
      ⊎_elim
      (λ (own : rep t i ≡ i).
      let u : above ≡ i = ap (rep t) own ∙ own in
      ap (rep new) (h ∙ u) ∙ here ∙ sym h)
      (λ (no : rep t i ≢ i).
      let d = done (rep t i) (omega arith) in
      ap (rep new) h ∙ there above (omega arith) ∙ d ∙ sym h)
      (cases_eq (rep t i) i))
      (λ (no : k ≢ i).
      let h = there k no in
      let d = done k (omega arith) in
      let c = f k (omega arith) in
      ap (rep new) h ∙ there (rep t k) (omega arith) ∙ d ∙ sym h)
      (cases_eq k i)

-- ---- linking two roots

module _ (t : List ℕ) (high low : ℕ) (f : IsForest t) (is_high : rep t high ≡ high) (is_low : rep t low ≡ low) (less : low < high) (high_in : high < length t) where
  abbrev linked : List ℕ
  linked = set t high low

  at_high : rep linked high ≡ low
  at_high = get_or-set_same t high low 0 high_in

  at_other : (j : ℕ) → j ≢ high → rep linked j ≡ rep t j
  at_other j ne = get_or-set_other t high j low 0 ne

  link_ordered : (j : ℕ) → j < length linked → rep linked j ≤ j
  link_ordered j m =
      let e = length-set t high low in
      ⊎_elim
      (λ (is : j ≡ high). let h : rep linked j ≡ low = ap (rep linked) is ∙ at_high in omega arith)
      (λ (no : j ≢ high). let h = at_other j no in let b = f j (omega arith) in omega arith)
      (cases_eq j high)

  link_sound : (label : ℕ → Sym) → IsSound t label → label high ≡ label low → IsSound linked label
  link_sound label s p j m =
      let e = length-set t high low in
      ⊎_elim
      (λ (is : j ≡ high). ap label is ∙ p ∙ ap label (sym at_high) ∙ ap (λ k. label (rep linked k)) (sym is))
      (λ (no : j ≢ high). s j (omega arith) ∙ ap label (sym (at_other j no)))
      (cases_eq j high)

  link_back : (label : ℕ → Sym) → IsSound linked label → IsSound t label
  link_back label s j m =
      let e = length-set t high low in
      ⊎_elim
      (λ (is : j ≡ high). ap label (is ∙ sym is_high) ∙ ap (λ k. label (rep t k)) (sym is))
      (λ (no : j ≢ high). s j (omega arith) ∙ ap label (at_other j no))
      (cases_eq j high)

  pub link_joining : IsJoining (λ label. label high ≡ label low) t (set t high low)
  link_joining = record {
    same_length = length-set t high low;
    ordered = link_ordered;
    exact = λ label. (
      λ s. (link_back label s, s high (let e = length-set t high low in omega arith) ∙ ap label at_high),
      λ s. link_sound label s.0 s.1,
    );
  }

  root_kept : (k : ℕ) → rep linked k ≡ k → rep t k ≡ k
  root_kept k e =
      ⊎_elim
      (λ (is : k ≡ high). ap (rep t) is ∙ is_high ∙ sym is)
      (λ (no : k ≢ high). sym (at_other k no) ∙ e)
      (cases_eq k high)

  roots_le : (k : ℕ) → roots linked k ≤ roots t k
  roots_le zero = omega arith
  roots_le (suc k) = let i = roots_le k in let b = root_kept k in grind (arith, nat_tests, i, b)

  roots_less : (k : ℕ) → high < k → suc (roots linked k) ≤ roots t k
  roots_less zero h = absurd (omega arith)
  roots_less (suc k) h =
      ⊎_elim
      (λ (e : k ≡ high).
      let i = roots_le k in
      let o : rep t k ≡ k = ap (rep t) e ∙ is_high ∙ sym e in
      let a : rep linked k ≡ low = ap (rep linked) e ∙ at_high in
      grind (arith, nat_tests, i, o, a))
      (λ (e : k ≢ high).
      let i = roots_less k (omega arith) in
      let b = root_kept k in
      grind (arith, nat_tests, i, b))
      (cases_eq k high)

  pub link_fewer : class_count (set t high low) < class_count t
  link_fewer = let i = roots_less (length t) high_in in let e : roots linked (length linked) ≡ roots linked (length t) = ap (roots linked) (length-set t high low) in omega arith
