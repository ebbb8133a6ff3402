-- Domains that shrink and lose no choice.
use Rattle.std.proofs.Common.{◌≡◌, ◌≢◌, ℕ, ◌^◌, ◌<◌, ◌≤◌, ◌↔◌, List, length, get_or, set, refl, sym, ap, subst, ◌∙◌, ⊎_elim, arith, get_or-set_other, get_or-set_same}
use Rattle.std.specs.Int.{bit_at}
use Rattle.std.proofs.lemmas.Bool.{cases_eq}
use Rattle.std.proofs.lemmas.Nat.Bits.{bit_at-pow_same, bit_at-pow_other, bit_at-lt, bit_at-zero, same_from_bits}
use Rattle.su_map.specs.inside.Netted.{Netted, HasRoom, agree_of}
use Rattle.su_map.specs.inside.Choices.{IsChoice, Shrinks, IsAssigned}

pub pow_member : (m k x : ℕ) → m ≡ 2 ^ k → (bit_at m x ≡ 1) ↔ (x ≡ k)
pow_member m k x e = (
  λ h.
      ⊎_elim
      (λ (same : x ≡ k). same)
      (λ (ne : x ≢ k). absurd (let z = bit_at-pow_other k x ne in let f = ap (λ m. bit_at m x) e in omega arith))
      (cases_eq x k),
  λ same. ap (λ m. bit_at m x) e ∙ ap (bit_at (2 ^ k)) same ∙ bit_at-pow_same k,
)

pub less_room : (a b : ℕ) (net : Netted) → a ≤ b → HasRoom b net → HasRoom a net
less_room a b net h r = record { base = let x = r.base in omega arith; near = let x = r.near in omega arith; agree = let x = r.agree in omega arith }

-- ---- one domain shrinks

pub set_choice : (net : Netted) (n m q v : ℕ) (domains : List ℕ) (choice : ℕ → ℕ) → q < length domains → bit_at v (choice q) ≡ 1 → IsChoice net n m domains choice → IsChoice net n m (set domains q v) choice
set_choice net n m q v domains choice low has c = record {
  within = λ r hr br.
      ⊎_elim
      (λ (e : r ≡ q). ap (λ r. bit_at (get_or (set domains q v) r 0) (choice r)) e ∙ ap (λ d. bit_at d (choice q)) (get_or-set_same domains q v 0 low) ∙ has)
      (λ (ne : r ≢ q). ap (λ d. bit_at d (choice r)) (get_or-set_other domains q r v 0 ne) ∙ c.within r hr br)
      (cases_eq r q);
  fit = c.fit;
}

pub set_shrinks : (n q v : ℕ) (old domains : List ℕ) → q < length domains → ((x : ℕ) → bit_at v x ≡ 1 → bit_at (get_or domains q 0) x ≡ 1) → Shrinks n old domains → Shrinks n old (set domains q v)
set_shrinks n q v old domains low less s r x hr one =
    ⊎_elim
    (λ (e : r ≡ q).
    let here : get_or (set domains q v) r 0 ≡ v = ap (λ r. get_or (set domains q v) r 0) e ∙ get_or-set_same domains q v 0 low in
    s r x hr (ap (λ r. bit_at (get_or domains r 0) x) e ∙ less x (ap (λ d. bit_at d x) (sym here) ∙ one)))
    (λ (ne : r ≢ q). s r x hr (ap (λ d. bit_at d x) (sym (get_or-set_other domains q r v 0 ne)) ∙ one))
    (cases_eq r q)

pub set_alive : (q v : ℕ) (domains : List ℕ) → q < length domains → 0 < v → (r : ℕ) → 0 < get_or domains r 0 → 0 < get_or (set domains q v) r 0
set_alive q v domains low pos r h =
    ⊎_elim
    (λ (e : r ≡ q). subst (λ d. 0 < d) (sym (ap (λ r. get_or (set domains q v) r 0) e ∙ get_or-set_same domains q v 0 low)) pos)
    (λ (ne : r ≢ q). subst (λ d. 0 < d) (sym (get_or-set_other domains q r v 0 ne)) h)
    (cases_eq r q)

-- a set that is not empty and has no other member than t has t
pub positive_has : (v t : ℕ) → 0 < v → ((x : ℕ) → bit_at v x ≡ 1 → x ≡ t) → bit_at v t ≡ 1
positive_has v t pos only =
    ⊎_elim
    (λ (one : bit_at v t ≡ 1). one)
    (λ (none : bit_at v t ≢ 1).
    let empty : v ≡ 0 = same_from_bits v 0 (λ x.
    let z = bit_at-zero x in
    ⊎_elim
    (λ (one : bit_at v x ≡ 1). absurd (none (ap (bit_at v) (sym (only x one)) ∙ one)))
    (λ (other : bit_at v x ≢ 1). let l = bit_at-lt v x in let r : bit_at v x ≡ bit_at 0 x = omega arith in r)
    (cases_eq (bit_at v x) 1)) in
    absurd (omega arith))
    (cases_eq (bit_at v t) 1)

pub shrinks_twice : (n : ℕ) (a b c : List ℕ) → Shrinks n a b → Shrinks n b c → Shrinks n a c
shrinks_twice n a b c f g q x h one = f q x h (g q x h one)

-- ---- a row that goes to a target

pub positive : (v x : ℕ) → bit_at v x ≡ 1 → 0 < v
positive v x one =
    ⊎_elim
    (λ (e : v ≡ 0). absurd (let z = ap (λ m. bit_at m x) e ∙ bit_at-zero x in omega arith))
    (λ (ne : v ≢ 0). let l : 0 < v = omega arith in l)
    (cases_eq v 0)

-- the row has the target alone, and the other domains are as before
pub record IsBegun (net : Netted) (n m row target : ℕ) (old new : List ℕ) : Type 0 where
  pub shrinks : Shrinks n old new
  pub only : (x : ℕ) → bit_at (get_or new row 0) x ≡ 1 → x ≡ target
  pub alive : (q : ℕ) → 0 < get_or old q 0 → 0 < get_or new q 0
  pub all : (choice : ℕ → ℕ) → IsChoice net n m old choice → choice row ≡ target → IsChoice net n m new choice

begun : (net : Netted) (n m row target v : ℕ) (domains : List ℕ) → row < length domains → v ≡ 2 ^ target → bit_at (get_or domains row 0) target ≡ 1 → IsBegun net n m row target domains (set domains row v)
begun net n m row target v domains low is has = record {
  shrinks = set_shrinks n row v domains domains low (λ x one. subst (λ x. bit_at (get_or domains row 0) x ≡ 1) (sym ((pow_member v target x is).0 one)) has) (λ q x h one. one);
  only = λ x one. (pow_member v target x is).0 (ap (λ d. bit_at d x) (sym (get_or-set_same domains row v 0 low)) ∙ one);
  alive = set_alive row v domains low (positive v target ((pow_member v target target is).1 refl));
  all = λ choice ch e. set_choice net n m row v domains choice low ((pow_member v target (choice row) is).1 e) ch;
}

pub begun_by : (net : Netted) (n m row target v : ℕ) (domains copied : List ℕ) → copied ≡ domains → row < length domains → v ≡ 2 ^ target → bit_at (get_or domains row 0) target ≡ 1 → IsBegun net n m row target domains (set copied row v)
begun_by net n m row target v domains copied e low is has = subst (λ l. IsBegun net n m row target domains (set l row v)) (sym e) (begun net n m row target v domains low is has)

pub agreed : (net : Netted) (row q target : ℕ) (choice : ℕ → ℕ) → choice row ≡ target → bit_at (agree_of net row q (choice row)) (choice q) ≡ 1 → bit_at (agree_of net row q target) (choice q) ≡ 1
agreed net row q target choice e h = subst (λ p. bit_at (agree_of net row q p) (choice q) ≡ 1) e h

-- domains that shrink further and lose no choice
pub assigned_then : (net : Netted) (n m row target : ℕ) (old mid new : List ℕ) → row < n → ((q : ℕ) → bit_at m q ≡ 1 → q < n) → Shrinks n mid new → ((q : ℕ) → 0 < get_or mid q 0 → 0 < get_or new q 0) → ((choice : ℕ → ℕ) → IsChoice net n m mid choice → IsChoice net n m new choice) → IsAssigned net n m row target old mid → IsAssigned net n m row target old new
assigned_then net n m row target old mid new low within shrinks alive all a = record {
  shrinks = shrinks_twice n old mid new a.shrinks shrinks;
  only = λ x one. a.only x (shrinks row x low one);
  fits = λ q x ne op near h. a.fits q x ne op near (shrinks q x (within q op) h);
  alive = λ q h. alive q (a.alive q h);
  all = λ choice ch is. all choice (a.all choice ch is);
}
