-- Whether a target fits can be found out.
use Rattle.std.proofs.Common.{◌≡◌, ◌≢◌, ℕ, zero, suc, ◌<◌, ◌≤◌, ◌⊎◌, Bool, true, List, [], ◌∷◌, length, All, Contains, inl, inr, sym, ap, subst, ◌∙◌, ⊎_elim, true≢false, arith}
use Rattle.std.proofs.lemmas.Bool.{cases_eq, cases_lt, cases_Bool}
use Rattle.std.proofs.lemmas.List.Elements.{All-nil, All-cons, All-head, All-tail, All-contains}
use Rattle.su_base.specs.contracts.values.ValuePartialEq.TheImpl.{ghosts}
use Rattle.su_base.proofs.Items.{Contains-cases, Contains-head, Contains-later, Contains-nil}
use Rattle.su_tableau.specs.declared.symbols.Sym.{Sym}
use Rattle.su_tableau.specs.declared.symbols.Sym.TheVariants.{Const, Var}
use Rattle.su_tableau.proofs.Same.{value_same}
use Rattle.su_check.specs.declared.sending.Sent.{Sent}
use Rattle.su_check.specs.inside.Cells.{cell_at, is_const}
use Rattle.su_check.specs.inside.Agreement.{KeepsConstants, IsSentTo, GoAlike, Goes}
use Rattle.su_check.specs.SentRows.{Lines, numbered_row, AreSent, sent_too}
use Rattle.su_check.specs.Refutations.{IsOpen, IsFitting}
use Rattle.su_refute.specs.inside.Positions.{IsReady}
use Rattle.su_check.proofs.TargetsTogether.{sent_more, sent_less, AgreesWith}

abbrev pub Decided : Type 0 → Type 0
Decided P = P ⊎ (P → ⊥)

decided_symbols : (x y : Sym) → Decided (x ≡ y)
decided_symbols (Const v) (Const w) =
    let same = value_same v w in
    ⊎_elim
    (λ (t : ghosts.eq v w ≡ true). inl (ap Const (same.0 t)))
    (λ f. inr (λ e. let ev : v ≡ w = cc in true≢false (sym (same.1 ev) ∙ f)))
    (cases_Bool (ghosts.eq v w))
decided_symbols (Var j) (Var k) =
    ⊎_elim
    (λ (e : j ≡ k). inl (ap Var e))
    (λ (ne : j ≢ k). inr (λ e. let ek : j ≡ k = cc in ne ek))
    (cases_eq j k)
decided_symbols (Const v) (Var k) = inr (λ e. cc)
decided_symbols (Var k) (Const v) = inr (λ e. cc)

decided_below : (P : ℕ → Type 0) (n : ℕ) → ((i : ℕ) → i < n → Decided (P i)) → Decided ((i : ℕ) → i < n → P i)
decided_below P zero f = inl (λ i h. absurd (omega arith))
decided_below P (suc n) f =
    ⊎_elim
    (λ (all : (i : ℕ) → i < n → P i).
    ⊎_elim
    (λ (here : P n).
    inl (λ i h.
    ⊎_elim
    (λ (lt : i < n). all i lt)
    (λ (le : n ≤ i). let e : n ≡ i = omega arith in subst P e here)
    (cases_lt i n)))
    (λ (none : P n → ⊥). inr (λ all. none (all n (omega arith))))
    (f n (omega arith)))
    (λ (none : ((i : ℕ) → i < n → P i) → ⊥). inr (λ all. none (λ i h. all i (omega arith))))
    (decided_below P n (λ i h. f i (omega arith)))

decided_implies : (P Q : Type 0) → Decided P → Decided Q → Decided (P → Q)
decided_implies P Q (inr none) q = inl (λ p. absurd (none p))
decided_implies P Q (inl p) (inl q) = inl (λ x. q)
decided_implies P Q (inl p) (inr none) = inr (λ f. none (f p))

pub decided_both : (P Q : Type 0) → Decided P → Decided Q → Decided (P × Q)
decided_both P Q (inr none) q = inr (λ x. none x.0)
decided_both P Q (inl p) (inr none) = inr (λ x. none x.1)
decided_both P Q (inl p) (inl q) = inl (p, q)

pub decided_all : {X : Type 0} (P : X → Type 0) (xs : List X) → ((x : X) → Decided (P x)) → Decided (All P xs)
decided_all P [] f = inl (All-nil P)
decided_all P (x ∷ xs) f = both (f x) (decided_all P xs f)
  where
    both : Decided (P x) → Decided (All P xs) → Decided (All P (x ∷ xs))
    both (inl here) (inl rest) = inl (All-cons P x xs here rest)
    both (inl here) (inr none) = inr (λ all. none (All-tail P x xs all))
    both (inr none) rest = inr (λ all. none (All-head P x xs all))

pub decided_contains : (xs : List ℕ) (j : ℕ) → Decided (Contains xs j)
decided_contains [] j = inr (λ h. Contains-nil j h)
decided_contains (x ∷ xs) j =
    ⊎_elim
    (λ (e : x ≡ j). inl (subst (Contains (x ∷ xs)) e (Contains-head x xs)))
    (λ (ne : x ≢ j).
    ⊎_elim
    (λ (has : Contains xs j). inl (Contains-later x xs j has))
    (λ (none : Contains xs j → ⊥). inr (λ h. ⊎_elim (λ (e : x ≡ j). ne e) (λ (r : Contains xs j). none r) (Contains-cases x xs j h)))
    (decided_contains xs j))
    (cases_eq x j)

decided_agree : (xs us ys vs : List Sym) → Decided (GoAlike xs us ys vs)
decided_agree xs us ys vs =
    decided_below (λ c. IsSentTo (cell_at xs c) (cell_at us c) ys vs) (length xs) (λ c hc.
    decided_below (λ e. cell_at xs c ≡ cell_at ys e → cell_at us c ≡ cell_at vs e) (length ys) (λ e he.
    decided_implies (cell_at xs c ≡ cell_at ys e) (cell_at us c ≡ cell_at vs e) (decided_symbols (cell_at xs c) (cell_at ys e)) (decided_symbols (cell_at us c) (cell_at vs e))))

decided_keeps : (xs us : List Sym) → Decided (KeepsConstants xs us)
decided_keeps xs us =
    decided_below (λ c. is_const (cell_at xs c) ≡ true → cell_at xs c ≡ cell_at us c) (length xs) (λ c hc.
    decided_implies (is_const (cell_at xs c) ≡ true) (cell_at xs c ≡ cell_at us c) (decided_true (is_const (cell_at xs c))) (decided_symbols (cell_at xs c) (cell_at us c)))
  where
    decided_true : (b : Bool) → Decided (b ≡ true)
    decided_true b = ⊎_elim (λ (t : b ≡ true). inl t) (λ f. inr (λ t. true≢false (sym t ∙ f))) (cases_Bool b)

decided_goes : (head row target : List Sym) → Decided (Goes head row target)
decided_goes head row target =
    ⊎_elim
    (λ (x : KeepsConstants row target × (GoAlike row target row target × GoAlike head head row target)). inl (record { constants = x.0; itself = x.1.0; head_symbols = x.1.1 }))
    (λ (none : KeepsConstants row target × (GoAlike row target row target × GoAlike head head row target) → ⊥). inr (λ g. none (g.constants, (g.itself, g.head_symbols))))
    (decided_both (KeepsConstants row target) (GoAlike row target row target × GoAlike head head row target) (decided_keeps row target)
    (decided_both (GoAlike row target row target) (GoAlike head head row target) (decided_agree row target row target) (decided_agree head head row target)))

decided_sent : (t : Lines) (p : List Sent) (s j : ℕ) → IsReady t p → s < length t.rows → j < length t.rows → Decided (AreSent t (sent_too p s j))
decided_sent t p s j ready hs hj =
    let R : Sent → Type 0 = AgreesWith t (numbered_row t s) (numbered_row t j) in
    ⊎_elim
    (λ (x : Goes t.head (numbered_row t s) (numbered_row t j) × All R p). inl (sent_more t p s j (ready.wide s j hs hj) ready.sent x.0 x.1))
    (λ (none : Goes t.head (numbered_row t s) (numbered_row t j) × All R p → ⊥). inr (λ sent. none (sent_less t p s j sent)))
    (decided_both (Goes t.head (numbered_row t s) (numbered_row t j)) (All R p) (decided_goes t.head (numbered_row t s) (numbered_row t j)) (decided_all R p (λ x. decided_agree (numbered_row t x.row) (numbered_row t x.target) (numbered_row t s) (numbered_row t j))))

pub decided_fitting : (t : Lines) (r : ℕ) (p : List Sent) (s j : ℕ) → IsReady t p → s < length t.rows → Decided (IsFitting t r p s j)
decided_fitting t r p s j ready hs =
    ⊎_elim
    (λ (has : Contains t.kept j).
    ⊎_elim
    (λ (e : j ≡ r). inr (λ fit. fit.other e))
    (λ (ne : j ≢ r).
    ⊎_elim
    (λ (sent : AreSent t (sent_too p s j)). inl (record { member = has; other = ne; sent = sent }))
    (λ (none : AreSent t (sent_too p s j) → ⊥). inr (λ fit. none fit.sent))
    (decided_sent t p s j ready hs (All-contains (λ k. k < length t.rows) t.kept j ready.kept has)))
    (cases_eq j r))
    (λ (none : Contains t.kept j → ⊥). inr (λ fit. none fit.member))
    (decided_contains t.kept j)

pub decided_open : (t : Lines) (p : List Sent) (s : ℕ) → Decided (IsOpen t p s)
decided_open t p s =
    ⊎_elim
    (λ (x : Contains t.kept s × All (λ x. x.row ≢ s) p). inl (record { member = x.0; free = x.1 }))
    (λ (none : Contains t.kept s × All (λ x. x.row ≢ s) p → ⊥). inr (λ o. none (o.member, o.free)))
    (decided_both (Contains t.kept s) (All (λ x. x.row ≢ s) p) (decided_contains t.kept s) (decided_all (λ x. x.row ≢ s) p (λ x. decided_not x.row s)))
  where
    decided_not : (a b : ℕ) → Decided (a ≢ b)
    decided_not a b = ⊎_elim (λ (e : a ≡ b). inr (λ ne. ne e)) (λ (ne : a ≢ b). inl ne) (cases_eq a b)
