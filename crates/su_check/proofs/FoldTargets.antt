-- A fold as the rows with their targets, one after another.
use Rattle.std.proofs.Common.{◌≡◌, ℕ, zero, suc, ◌<◌, ◌≤◌, ◌+◌, List, [], ◌∷◌, length, get_or, All, Contains, refl, subst, ⊎_elim, arith}
use Rattle.std.proofs.lemmas.Bool.{cases_lt}
use Rattle.std.proofs.lemmas.List.{get_or_default}
use Rattle.std.proofs.lemmas.List.Elements.{All-nil, All-push}
use Rattle.su_base.proofs.Items.{All-append_left, All-middle}
use Rattle.su_tableau.specs.declared.symbols.Sym.TheVariants.{Var}
use Rattle.su_tableau.specs.Mapping.{images_of}
use Rattle.su_tableau.proofs.Containment.{images_of-Var}
use Rattle.su_check.specs.declared.sending.Sent.{Sent}
use Rattle.su_check.specs.SentRows.{Lines, numbered_row, AreSent, sent_too}
use Rattle.su_check.specs.inside.Widths.{IsWithin}
use Rattle.su_check.specs.Certificate.{IsFoldInto}

-- the first n rows with their targets
abbrev pub fold_sent : List ℕ → ℕ → List Sent
fold_sent fold zero = []
fold_sent fold (suc n) = sent_too (fold_sent fold n) n (get_or fold n 0)

-- the first n targets are kept
abbrev pub IntoKept : Lines → List ℕ → ℕ → Type 0
IntoKept t fold n = (i : ℕ) → i < n → Contains t.kept (get_or fold i 0)

-- the empty list is sent
pub none_sent : (t : Lines) → AreSent t []
none_sent t = record { symbols = Var; head = images_of-Var t.head; rows = All-nil (λ x. images_of Var (numbered_row t x.row) ≡ numbered_row t x.target) }

-- what a mapping gives
pub fold_front : (t : Lines) (fold : List ℕ) (f : IsFoldInto t fold) (n : ℕ) → n ≤ length t.rows → AreSent t (fold_sent fold n)
fold_front t fold f n h = record { symbols = f.symbols; head = f.head; rows = go n h }
  where
    go : (n : ℕ) → n ≤ length t.rows → All (λ x. images_of f.symbols (numbered_row t x.row) ≡ numbered_row t x.target) (fold_sent fold n)
    go zero h = All-nil (λ x. images_of f.symbols (numbered_row t x.row) ≡ numbered_row t x.target)
    go (suc n) h = All-push (λ x. images_of f.symbols (numbered_row t x.row) ≡ numbered_row t x.target) (fold_sent fold n) (record { row = n; target = get_or fold n 0 }) (go n (omega arith)) (f.rows n (omega arith))

all_rows : (P : Sent → Type 0) (fold : List ℕ) (n : ℕ) → All P (fold_sent fold n) → (i : ℕ) → i < n → P (record { row = i; target = get_or fold i 0 })
all_rows P fold zero all i h = absurd (omega arith)
all_rows P fold (suc n) all i h =
    ⊎_elim
    (λ (lt : i < n). all_rows P fold n (All-append_left P (fold_sent fold n) (record { row = n; target = get_or fold n 0 } ∷ []) all) i lt)
    (λ (le : n ≤ i).
    let e : n ≡ i = omega arith in
    subst (λ i. P (record { row = i; target = get_or fold i 0 })) e (All-middle P (fold_sent fold n) (record { row = n; target = get_or fold n 0 }) [] all))
    (cases_lt i n)

-- what gives a mapping
pub fold_from : (t : Lines) (fold : List ℕ) (n : ℕ) (p : List Sent) → length fold ≡ length t.rows → length t.rows ≤ n → p ≡ fold_sent fold n → AreSent t p → IntoKept t fold n → IsFoldInto t fold
fold_from t fold n p len le e sent into =
    let P : Sent → Type 0 = λ x. images_of sent.symbols (numbered_row t x.row) ≡ numbered_row t x.target in
    record {
      symbols = sent.symbols;
      one_each = len;
      head = sent.head;
      rows = λ i h. all_rows P fold n (subst (All P) e sent.rows) i (omega arith);
      into = λ i d h. subst (Contains t.kept) (get_or_default fold i 0 d h) (into i (omega arith));
    }

-- the rows are within the tableau
pub fold_within : (t : Lines) (fold : List ℕ) (n : ℕ) → All (λ k. k < length t.rows) t.kept → n ≤ length t.rows → IntoKept t fold n → All (IsWithin t) (fold_sent fold n)
fold_within t fold zero kept le into = All-nil (IsWithin t)
fold_within t fold (suc n) kept le into =
    All-push (IsWithin t) (fold_sent fold n) (record { row = n; target = get_or fold n 0 }) (fold_within t fold n kept (omega arith) (λ i h. into i (omega arith)))
    (record { row = omega arith; target = let c = into n (omega arith) in subst (λ j. j < length t.rows) c.2 (kept c.0 (get_or fold n 0) c.1) })

-- ---- as the test reads them

pub fold_keeps : (t : Lines) (fold ks ks' : List ℕ) (i : ℕ) → ks ≡ fold → ks' ≡ t.kept → IsFoldInto t fold → i < length t.rows → Contains ks' (get_or ks i 0)
fold_keeps t fold ks ks' i e e' f h = let l = f.one_each in rw (e, e') (f.into i 0 (omega arith))

pub fits_next : (t : Lines) (fold ks : List ℕ) (p : List Sent) (i : ℕ) → ks ≡ fold → p ≡ fold_sent fold i → IsFoldInto t fold → i < length t.rows → AreSent t (sent_too p i (get_or ks i 0))
fits_next t fold ks p i ek ep f h = rw (ek, ep) (fold_front t fold f (suc i) (omega arith))

pub fold_more : (fold ks : List ℕ) (p : List Sent) (i : ℕ) → ks ≡ fold → p ≡ fold_sent fold i → sent_too p i (get_or ks i 0) ≡ fold_sent fold (i + 1)
fold_more fold ks p i ek ep = let e : suc i ≡ i + 1 = omega arith in subst (λ n. sent_too p i (get_or ks i 0) ≡ fold_sent fold n) e (rw (ek, ep) refl)
