-- A node and its branches, one after another.
use Rattle.std.proofs.Common.{◌≡◌, ◌↔◌, ℕ, Bool, true, ◌<◌, ◌≤◌, ◌+◌, List, map, length, get_or, Contains, sym, ap, subst, ◌∙◌, ⊎_elim, arith}
use Rattle.std.proofs.lemmas.Bool.{cases_lt}
use Rattle.std.proofs.lemmas.List.{length-map, get_or-map, get_or_default}
use Rattle.su_base.specs.Lists.{AreExactly, IsAscending}
use Rattle.su_check.specs.declared.nodes.Node.{Node}
use Rattle.su_check.specs.declared.nodes.Branch.{Branch}
use Rattle.su_check.specs.declared.sending.Sent.{Sent}
use Rattle.su_check.specs.SentRows.{Lines, sent_too}
use Rattle.su_check.specs.Refutations.{IsOpen, IsFitting, Refutes, refuting, row_named, branches_of, target_of, node_of}
use Rattle.su_check.proofs.Exactly.{Front, front_more, front_all, front_next, front_end}

pub is_open : (t : Lines) (r : ℕ) (n : Node) (p : List Sent) → Refutes t r n p → IsOpen t p (row_named n)
is_open t r n p (refuting _ _ open' _ exact each) = open'

pub are_exact : (t : Lines) (r : ℕ) (n : Node) (p : List Sent) → Refutes t r n p → AreExactly (IsFitting t r p (row_named n)) (map target_of (branches_of n))
are_exact t r n p (refuting _ _ open' _ exact each) = exact

pub refute_all : (t : Lines) (r : ℕ) (n : Node) (p : List Sent) → Refutes t r n p → (b : Branch) → Contains (branches_of n) b → Refutes t r (node_of b) (sent_too p (row_named n) (target_of b))
refute_all t r n p (refuting _ _ open' _ exact each) = each

-- the branches that are passed, of the first i kept rows
abbrev pub Passed : Lines → ℕ → Node → List Sent → ℕ → ℕ → Type 0
Passed t r n p i q = Front (IsFitting t r p (row_named n)) t.kept (map target_of (branches_of n)) i q

abbrev pub AreRefuted : Lines → ℕ → Node → List Sent → ℕ → Type 0
AreRefuted t r n p q = (a : ℕ) (d : Branch) → a < q → Refutes t r (node_of (get_or (branches_of n) a d)) (sent_too p (row_named n) (target_of (get_or (branches_of n) a d)))

members : (t : Lines) (r : ℕ) (n : Node) (p : List Sent) (j : ℕ) → IsFitting t r p (row_named n) j → Contains t.kept j
members t r n p j fit = fit.member

-- a target that fits has no branch left
pub too_few : (t : Lines) (r : ℕ) (n : Node) (p : List Sent) (i q : ℕ) → IsAscending t.kept → i < length t.kept → Passed t r n p i q → IsFitting t r p (row_named n) (get_or t.kept i 0) → q ≡ length (branches_of n) → Refutes t r n p → ⊥
too_few t r n p i q ready hi front fit e h =
    let next = front_next (IsFitting t r p (row_named n)) t.kept (map target_of (branches_of n)) i q ready hi (members t r n p) front fit (are_exact t r n p h) in
    let l = length-map (branches_of n) target_of in
    let low = next.0 in
    absurd (omega arith)

-- the next branch is not as it has to be
pub wrong_branch : (t : Lines) (r : ℕ) (n : Node) (p : List Sent) (i q : ℕ) (b : Branch) → IsAscending t.kept → i < length t.kept → Passed t r n p i q → IsFitting t r p (row_named n) (get_or t.kept i 0) → q < length (branches_of n) → b ≡ get_or (branches_of n) q b
    → ((target_of b ≡ get_or t.kept i 0) × Refutes t r (node_of b) (sent_too p (row_named n) (get_or t.kept i 0)) → ⊥) → Refutes t r n p → ⊥
wrong_branch t r n p i q b ready hi front fit hq is none h =
    let next = front_next (IsFitting t r p (row_named n)) t.kept (map target_of (branches_of n)) i q ready hi (members t r n p) front fit (are_exact t r n p h) in
    let same : target_of b ≡ get_or t.kept i 0 = ap target_of is ∙ sym (get_or-map target_of (branches_of n) q b 0 hq) ∙ next.1 in
    let below = refute_all t r n p h b (q, hq, sym is) in
    none (same, subst (λ j. Refutes t r (node_of b) (sent_too p (row_named n) j)) same below)

-- the next branch is as it has to be
pub one_passed : (t : Lines) (r : ℕ) (n : Node) (p : List Sent) (i q : ℕ) (b : Branch) → IsAscending t.kept → i < length t.kept → Passed t r n p i q → IsFitting t r p (row_named n) (get_or t.kept i 0) → q < length (branches_of n) → b ≡ get_or (branches_of n) q b
    → target_of b ≡ get_or t.kept i 0 → Passed t r n p (i + 1) (q + 1)
one_passed t r n p i q b ready hi front fit hq is same =
    let l = length-map (branches_of n) target_of in
    front_more (IsFitting t r p (row_named n)) t.kept (map target_of (branches_of n)) i q ready hi front (omega arith) fit (get_or-map target_of (branches_of n) q b 0 hq ∙ ap target_of (sym is) ∙ same)

pub one_refuted : (t : Lines) (r : ℕ) (n : Node) (p : List Sent) (q j : ℕ) (b : Branch) → AreRefuted t r n p q → q < length (branches_of n) → b ≡ get_or (branches_of n) q b → target_of b ≡ j → Refutes t r (node_of b) (sent_too p (row_named n) j) → AreRefuted t r n p (q + 1)
one_refuted t r n p q j b before hq is same here a d h =
    let P : Branch → Type 0 = λ b. Refutes t r (node_of b) (sent_too p (row_named n) (target_of b)) in
    ⊎_elim
    (λ (lt : a < q). before a d lt)
    (λ (le : q ≤ a).
    let e : q ≡ a = omega arith in
    subst (λ a. P (get_or (branches_of n) a d)) e (subst P (is ∙ get_or_default (branches_of n) q b d hq) (subst (λ j. Refutes t r (node_of b) (sent_too p (row_named n) j)) (sym same) here)))
    (cases_lt a q)

-- all branches are passed, or one is left over
pub all_passed : (t : Lines) (r : ℕ) (n : Node) (p : List Sent) (i q : ℕ) → IsOpen t p (row_named n) → length t.kept ≤ i → Passed t r n p i q → AreRefuted t r n p q → q ≡ length (branches_of n) → Refutes t r n p
all_passed t r n p i q open' hi front good e =
    let l = length-map (branches_of n) target_of in
    refuting n p open' tt (front_all (IsFitting t r p (row_named n)) t.kept (map target_of (branches_of n)) i q hi (omega arith) front (members t r n p))
    (λ b has. subst (λ b. Refutes t r (node_of b) (sent_too p (row_named n) (target_of b))) has.2 (good has.0 b (let h = has.1 in omega arith)))

pub none_left : (t : Lines) (r : ℕ) (n : Node) (p : List Sent) (i q : ℕ) → length t.kept ≤ i → Passed t r n p i q → Refutes t r n p → q ≡ length (branches_of n)
none_left t r n p i q hi front h =
    front_end (IsFitting t r p (row_named n)) t.kept (map target_of (branches_of n)) i q hi (members t r n p) front (are_exact t r n p h) ∙ length-map (branches_of n) target_of

-- ---- what the test reads

pub fit_as : (t : Lines) (r s i : ℕ) (p p' : List Sent) (ks : List ℕ) → p' ≡ p → ks ≡ t.kept → IsFitting t r p' s (get_or ks i 0) → IsFitting t r p s (get_or t.kept i 0)
fit_as t r s i p p' ks ep ek h = subst (λ p. IsFitting t r p s (get_or t.kept i 0)) ep (subst (λ ks. IsFitting t r p' s (get_or ks i 0)) ek h)

pub fit_from : (t : Lines) (r s i : ℕ) (p p' : List Sent) (ks : List ℕ) → p' ≡ p → ks ≡ t.kept → IsFitting t r p s (get_or t.kept i 0) → IsFitting t r p' s (get_or ks i 0)
fit_from t r s i p p' ks ep ek h = subst (λ ks. IsFitting t r p' s (get_or ks i 0)) (sym ek) (subst (λ p. IsFitting t r p s (get_or t.kept i 0)) (sym ep) h)

pub branch_tells : (t : Lines) (r s i : ℕ) (b : Branch) (p p' : List Sent) (ks : List ℕ) (v : Bool) → p' ≡ p → ks ≡ t.kept
    → ((v ≡ true) ↔ ((target_of b ≡ get_or ks i 0) × Refutes t r (node_of b) (sent_too p' s (get_or ks i 0))))
    → ((v ≡ true) ↔ ((target_of b ≡ get_or t.kept i 0) × Refutes t r (node_of b) (sent_too p s (get_or t.kept i 0))))
branch_tells t r s i b p p' ks v ep ek tells =
    subst (λ p. (v ≡ true) ↔ ((target_of b ≡ get_or t.kept i 0) × Refutes t r (node_of b) (sent_too p s (get_or t.kept i 0)))) ep
    (subst (λ ks. (v ≡ true) ↔ ((target_of b ≡ get_or ks i 0) × Refutes t r (node_of b) (sent_too p' s (get_or ks i 0)))) ek tells)
