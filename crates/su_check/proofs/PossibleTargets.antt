-- Which rows come into question as targets.
use Rattle.std.proofs.Common.{◌≡◌, ◌<◌, ◌+◌, ℕ, List, [], ◌∷◌, length, get_or, sym, ap, subst, ◌∙◌, arith, below_more}
use Rattle.std.specs.Int.{bit_at}
use Rattle.std.proofs.lemmas.List.Elements.{All-push}
use Rattle.su_base.proofs.Items.{All-append_left, All-middle}
use Rattle.su_tableau.specs.declared.symbols.Sym.{Sym}
use Rattle.su_tableau.specs.Mapping.{image_of, images_of}
use Rattle.su_check.specs.declared.sending.Sent.{Sent}
use Rattle.su_check.specs.declared.sending.StepColumn.{StepColumn}
use Rattle.su_check.specs.inside.Cells.{cell_at}
use Rattle.su_check.specs.SentRows.{Lines, numbered_row, AreSent, sent_too}
use Rattle.su_check.specs.inside.Boards.{no_pair, IsImage}
use Rattle.su_check.proofs.TargetsTogether.{image_cell}

-- a target of the row has the image of the row's symbol
pub image_told : (t : Lines) (p : List Sent) (s j c : ℕ) (place : StepColumn) (x y : Sym) → c < length (numbered_row t s) → x ≡ cell_at (numbered_row t s) c → IsImage t p place x y → AreSent t (sent_too p s j) → cell_at (numbered_row t j) c ≡ y
image_told t p s j c place x y h ex m a =
    let f = a.symbols in
    let o = get_or p place.step no_pair in
    let P : Sent → Type 0 = λ x. images_of f (numbered_row t x.row) ≡ numbered_row t x.target in
    let w : Sent = record { row = s; target = j } in
    let last : images_of f (numbered_row t s) ≡ numbered_row t j = All-middle P p w [] a.rows in
    let front : images_of f (numbered_row t o.row) ≡ numbered_row t o.target = All-append_left P p (w ∷ []) a.rows place.step no_pair m.step in
    image_cell f (numbered_row t s) (numbered_row t j) c last h ∙ ap (image_of f) (sym ex ∙ sym m.symbol) ∙ sym (image_cell f (numbered_row t o.row) (numbered_row t o.target) place.column front m.column) ∙ m.image

-- a row that goes somewhere beside others goes there alone
pub sent_alone : (t : Lines) (p : List Sent) (s j : ℕ) → AreSent t (sent_too p s j) → AreSent t (sent_too [] s j)
sent_alone t p s j a =
    let P : Sent → Type 0 = λ x. images_of a.symbols (numbered_row t x.row) ≡ numbered_row t x.target in
    let w : Sent = record { row = s; target = j } in
    record { symbols = a.symbols; head = a.head; rows = All-push P [] w (λ k d h. absurd (omega arith)) (All-middle P p w [] a.rows) }

-- ---- one target after another

-- the set has those of the first n kept rows to which row s goes alone
abbrev pub HasTried : Lines → ℕ → ℕ → ℕ → Type 0
HasTried t s n set = (k : ℕ) → k < n → AreSent t (sent_too [] s (get_or t.kept k 0)) → bit_at set (get_or t.kept k 0) ≡ 1

pub tried_in : (t : Lines) (s n set more j : ℕ) → j ≡ get_or t.kept n 0 → HasTried t s n set → ((i : ℕ) → bit_at set i ≡ 1 → bit_at more i ≡ 1) → bit_at more j ≡ 1 → HasTried t s (n + 1) more
tried_in t s n set more j is before stays member =
    below_more (λ k. AreSent t (sent_too [] s (get_or t.kept k 0)) → bit_at more (get_or t.kept k 0) ≡ 1) n (λ k h sent. stays (get_or t.kept k 0) (before k h sent)) (λ sent. subst (λ i. bit_at more i ≡ 1) is member)

pub tried_out : (t : Lines) (s n set j : ℕ) (p : List Sent) → j ≡ get_or t.kept n 0 → p ≡ [] → HasTried t s n set → (AreSent t (sent_too p s j) → ⊥) → HasTried t s (n + 1) set
tried_out t s n set j p is none before out =
    below_more (λ k. AreSent t (sent_too [] s (get_or t.kept k 0)) → bit_at set (get_or t.kept k 0) ≡ 1) n before (λ sent.
    absurd (out (subst (λ i. AreSent t (sent_too p s i)) (sym is) (subst (λ p. AreSent t (sent_too p s (get_or t.kept n 0))) (sym none) sent))))
