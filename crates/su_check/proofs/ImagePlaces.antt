-- The places of images, as rows go to their targets one after another.
use Rattle.std.proofs.Common.{◌≡◌, ◌<◌, ◌+◌, ℕ, true, List, [], ◌∷◌, ◌++◌, get_or, length, Contains, Option, Some, None, inl, inr, refl, sym, ap, subst, ◌∙◌, arith, below_more}
use Rattle.std.proofs.lemmas.Bool.{true≢false}
use Rattle.std.proofs.lemmas.List.{get_or_default, get_or_append_left, length-append}
use Rattle.std.proofs.lemmas.List.Elements.{All-push}
use Rattle.su_tableau.specs.declared.symbols.Sym.{Sym}
use Rattle.su_tableau.specs.declared.symbols.Sym.TheVariants.{Var}
use Rattle.su_check.specs.declared.boards.Board.{Board}
use Rattle.su_check.specs.declared.sending.Sent.{Sent}
use Rattle.su_check.specs.declared.sending.StepColumn.{StepColumn}
use Rattle.su_check.specs.inside.Cells.{cell_at, is_const, IsFirstPlace}
use Rattle.su_check.specs.SentRows.{Lines, numbered_row, AreSent, sent_too}
use Rattle.su_check.specs.inside.Boards.{no_pair, no_place, IsFixed, IsFree, IsNumber, IsImage, Sends, SendsRow, Covers, Keeps, IsReady}
use Rattle.su_check.proofs.Boarded.{first_one}
use Rattle.su_check.proofs.TargetsTogether.{sent_more}
use Rattle.su_check.specs.inside.Agreement.{GoAlike}

-- ---- a symbol has one number, and a number one symbol

free_one : (head : List Sym) (variables : List ℕ) (x z : Sym) (n : ℕ) → IsFree head variables x n → IsFree head variables z n → z ≡ x
free_one head variables x z n a b = b.is ∙ ap Var (sym b.first.is ∙ a.first.is) ∙ sym a.is

not_both : (head : List Sym) (variables : List ℕ) (x : Sym) (n : ℕ) → IsFixed head x → IsFree head variables x n → ⊥
not_both head variables x n (inl const) f = let e : is_const (Var f.number) ≡ true = ap is_const (sym f.is) ∙ const in absurd (true≢false (sym e))
not_both head variables x n (inr has) f = f.free has

number_one : (head : List Sym) (variables : List ℕ) (x : Sym) (m n : Option ℕ) → IsNumber head variables x m → IsNumber head variables x n → m ≡ n
number_one head variables x None None a b = refl
number_one head variables x None (Some n) a b = absurd (not_both head variables x n a b)
number_one head variables x (Some m) None a b = absurd (not_both head variables x m b a)
number_one head variables x (Some m) (Some n) a b =
    let v : Var a.number ≡ Var b.number = sym a.is ∙ b.is in
    let k : a.number ≡ b.number = cc in
    ap Some (first_one variables b.number m n (subst (λ k. IsFirstPlace variables k m) k a.first) b.first)

number_same : (head : List Sym) (variables : List ℕ) (x y : Sym) (m n : Option ℕ) → x ≡ y → IsNumber head variables x m → IsNumber head variables y n → m ≡ n
number_same head variables x y m n e a b = number_one head variables y m n (subst (λ x. IsNumber head variables x m) e a) b

-- ---- images

sends_one : (t : Lines) (p : List Sent) (places : List StepColumn) (x y z : Sym) (n : Option ℕ) → Sends t p places x y n → Sends t p places x z n → y ≡ z
sends_one t p places x y z None a b = sym a ∙ b
sends_one t p places x y z (Some n) a b = sym a.image ∙ b.image

pub image_grows : (t : Lines) (q : List Sent) (w : Sent) (place : StepColumn) (x y : Sym) → IsImage t q place x y → IsImage t (q ++ w ∷ []) place x y
image_grows t q w place x y m =
    let e = sym (get_or_append_left q (w ∷ []) no_pair place.step m.step) in
    record {
      step = let l = length-append q (w ∷ []) in let s = m.step in omega arith;
      column = subst (λ (o : Sent). place.column < length (numbered_row t o.row)) e m.column;
      symbol = subst (λ (o : Sent). cell_at (numbered_row t o.row) place.column ≡ x) e m.symbol;
      image = subst (λ (o : Sent). cell_at (numbered_row t o.target) place.column ≡ y) e m.image;
    }

sends_grows : (t : Lines) (q : List Sent) (w : Sent) (places : List StepColumn) (x y : Sym) (n : Option ℕ) → Sends t q places x y n → Sends t (q ++ w ∷ []) places x y n
sends_grows t q w places x y None s = s
sends_grows t q w places x y (Some n) s = image_grows t q w (get_or places n no_place) x y s

pub sends_kept : (t : Lines) (b : Board) (p : List Sent) (old new : List StepColumn) (x y : Sym) (n : Option ℕ) → Keeps t b p old new → IsNumber t.head b.variables x n → Sends t p old x y n → Sends t p new x y n
sends_kept t b p old new x y None keeps is s = s
sends_kept t b p old new x y (Some n) keeps is s = subst (λ place. IsImage t p place x y) (sym (keeps.stays n x y is s)) s

-- ---- places that stay

pub keeps_all : (t : Lines) (b : Board) (p : List Sent) (places : List StepColumn) → Keeps t b p places places
keeps_all t b p places = record { one_each = refl; stays = λ n x y is m. refl }

pub keeps_more : (t : Lines) (b : Board) (p : List Sent) (old mid new : List StepColumn) → Keeps t b p old mid → Keeps t b p mid new → Keeps t b p old new
keeps_more t b p old mid new f g = record {
  one_each = g.one_each ∙ f.one_each;
  stays = λ n x y is m. let e = f.stays n x y is m in g.stays n x y is (subst (λ place. IsImage t p place x y) (sym e) m) ∙ e;
}

pub keeps_less : (t : Lines) (b : Board) (q : List Sent) (w : Sent) (old new : List StepColumn) → Keeps t b (q ++ w ∷ []) old new → Keeps t b q old new
keeps_less t b q w old new f = record { one_each = f.one_each; stays = λ n x y is m. f.stays n x y is (image_grows t q w (get_or old n no_place) x y m) }

-- one cell's place is written
pub keeps_cell : (t : Lines) (b : Board) (p : List Sent) (old new : List StepColumn) (x : Sym) (number : Option ℕ) → IsNumber t.head b.variables x number → length new ≡ length old
    → ((n : ℕ) (z w : Sym) → (number ≡ Some n → z ≡ x) → IsImage t p (get_or old n no_place) z w → get_or new n no_place ≡ get_or old n no_place) → Keeps t b p old new
keeps_cell t b p old new x number is len stays = record {
  one_each = len;
  stays = λ n z w free m. stays n z w (λ e. free_one t.head b.variables x z n (subst (IsNumber t.head b.variables x) e is) free) m;
}

-- ---- the last row has gone to its target

numbers_at : (t : Lines) (b : Board) (p : List Sent) (places : List StepColumn) → IsReady t b p places → (i c : ℕ) → i < length t.rows → c < length (numbered_row t i) → IsNumber t.head b.variables (cell_at (numbered_row t i) c) (get_or (get_or b.numbers i []) c None)
numbers_at t b p places ready i c hi hc = (ready.board.rows i hi).cells c hc

pub covers_more : (t : Lines) (b : Board) (q : List Sent) (s j : ℕ) (old new : List StepColumn) → IsReady t b q old → Keeps t b (sent_too q s j) old new → SendsRow t b (sent_too q s j) new s j → Covers t b (sent_too q s j) new
covers_more t b q s j old new ready keeps here =
    let w : Sent = record { row = s; target = j } in
    All-push (λ x. SendsRow t b (sent_too q s j) new x.row x.target) q w
    (λ k d h c l.
    let x = get_or q k d in
    let low = ready.within k d h in
    let at = numbers_at t b q old ready x.row c low.row l in
    sends_kept t b (sent_too q s j) old new (cell_at (numbered_row t x.row) c) (cell_at (numbered_row t x.target) c) (get_or (get_or b.numbers x.row []) c None) keeps at
    (sends_grows t q w old (cell_at (numbered_row t x.row) c) (cell_at (numbered_row t x.target) c) (get_or (get_or b.numbers x.row []) c None) (ready.covers k d h c l)))
    here

-- where two rows have one symbol, their targets have one
agree : (t : Lines) (b : Board) (q p : List Sent) (old new : List StepColumn) (i u s j : ℕ) → IsReady t b q old → i < length t.rows → s < length t.rows → SendsRow t b p new i u → SendsRow t b p new s j → GoAlike (numbered_row t i) (numbered_row t u) (numbered_row t s) (numbered_row t j)
agree t b q p old new i u s j ready hi hs first second c hc e he same =
    let a = numbers_at t b q old ready i c hi hc in
    let d = numbers_at t b q old ready s e hs he in
    let n = number_same t.head b.variables _ _ _ _ same a d in
    sends_one t p new (cell_at (numbered_row t s) e) (cell_at (numbered_row t u) c) (cell_at (numbered_row t j) e) (get_or (get_or b.numbers s []) e None)
    (subst (λ n. Sends t p new (cell_at (numbered_row t s) e) (cell_at (numbered_row t u) c) n) n (subst (λ x. Sends t p new x (cell_at (numbered_row t u) c) (get_or (get_or b.numbers i []) c None)) same (first c hc))) (second e he)

-- a fixed symbol has no number, and goes to itself
fixed_goes : (t : Lines) (b : Board) (p : List Sent) (places : List StepColumn) (x y : Sym) (n : Option ℕ) → IsFixed t.head x → IsNumber t.head b.variables x n → Sends t p places x y n → x ≡ y
fixed_goes t b p places x y None fixed is s = s
fixed_goes t b p places x y (Some n) fixed is s = absurd (not_both t.head b.variables x n fixed is)

pub all_sent : (t : Lines) (b : Board) (q : List Sent) (s j : ℕ) (old new : List StepColumn) → IsReady t b q old → s < length t.rows → j < length t.rows → Keeps t b (sent_too q s j) old new → SendsRow t b (sent_too q s j) new s j → AreSent t (sent_too q s j)
all_sent t b q s j old new ready hs hj keeps here =
    let p = sent_too q s j in
    let all = covers_more t b q s j old new ready keeps here in
    sent_more t q s j (ready.wide s j hs hj) ready.sent
    (record {
      constants = λ c h const. fixed_goes t b p new (cell_at (numbered_row t s) c) (cell_at (numbered_row t j) c) (get_or (get_or b.numbers s []) c None) (inl const) (numbers_at t b q old ready s c hs h) (here c h);
      itself = agree t b q p old new s j s j ready hs hs here here;
      head_symbols = λ c h e l same.
          let has : Contains t.head (cell_at (numbered_row t s) e) = subst (Contains t.head) same (c, h, get_or_default t.head c (cell_at t.head c) (Var 0) h) in
          same ∙ fixed_goes t b p new (cell_at (numbered_row t s) e) (cell_at (numbered_row t j) e) (get_or (get_or b.numbers s []) e None) (inr has) (numbers_at t b q old ready s e hs l) (here e l);
    })
    (λ k d h. let low = ready.within k d h in agree t b q p old new (get_or q k d).row (get_or q k d).target s j ready low.row hs (before k d h all) here)
  where
    before : (k : ℕ) (d : Sent) → k < length q → Covers t b (sent_too q s j) new → SendsRow t b (sent_too q s j) new (get_or q k d).row (get_or q k d).target
    before k d h all =
        let l = length-append q (record { row = s; target = j } ∷ []) in
        subst (λ (x : Sent). SendsRow t b (sent_too q s j) new x.row x.target) (get_or_append_left q (record { row = s; target = j } ∷ []) d k h) (all k d (omega arith))

-- ---- column by column

-- the first c columns
abbrev pub SendsTo : Lines → Board → List Sent → List StepColumn → ℕ → ℕ → ℕ → Type 0
SendsTo t b p places s j n = (c : ℕ) → c < n → Sends t p places (cell_at (numbered_row t s) c) (cell_at (numbered_row t j) c) (get_or (get_or b.numbers s []) c None)

pub column_keeps : (t : Lines) (b : Board) (q p : List Sent) (start mid new : List StepColumn) (s c : ℕ) (x : Sym) (number : Option ℕ) → IsReady t b q start → s < length t.rows → c < length (numbered_row t s)
    → x ≡ cell_at (numbered_row t s) c → number ≡ get_or (get_or b.numbers s []) c None → Keeps t b p start mid → length new ≡ length mid
    → ((n : ℕ) (z w : Sym) → (number ≡ Some n → z ≡ x) → IsImage t p (get_or mid n no_place) z w → get_or new n no_place ≡ get_or mid n no_place) → Keeps t b p mid new
column_keeps t b q p start mid new s c x number ready hs hc ex en keeps len stays =
    let at = numbers_at t b q start ready s c hs hc in
    keeps_cell t b p mid new x number (subst (IsNumber t.head b.variables x) (sym en) (subst (λ x. IsNumber t.head b.variables x (get_or (get_or b.numbers s []) c None)) (sym ex) at)) len stays

pub column_done : (t : Lines) (b : Board) (q p : List Sent) (start mid new : List StepColumn) (s j c : ℕ) (x y : Sym) (number : Option ℕ) → IsReady t b q start → s < length t.rows → c < length (numbered_row t s)
    → x ≡ cell_at (numbered_row t s) c → y ≡ cell_at (numbered_row t j) c → number ≡ get_or (get_or b.numbers s []) c None → Keeps t b p mid new → SendsTo t b p mid s j c → Sends t p new x y number → SendsTo t b p new s j (c + 1)
column_done t b q p start mid new s j c x y number ready hs hc ex ey en keeps before here =
    below_more (λ c. Sends t p new (cell_at (numbered_row t s) c) (cell_at (numbered_row t j) c) (get_or (get_or b.numbers s []) c None)) c
    (λ a h. sends_kept t b p mid new (cell_at (numbered_row t s) a) (cell_at (numbered_row t j) a) (get_or (get_or b.numbers s []) a None) keeps (numbers_at t b q start ready s a hs (omega arith)) (before a h))
    (subst (λ x. Sends t p new x (cell_at (numbered_row t j) c) (get_or (get_or b.numbers s []) c None)) ex
    (subst (λ y. Sends t p new x y (get_or (get_or b.numbers s []) c None)) ey (subst (Sends t p new x y) en here)))

-- ---- what stays as the tests go on

pub keeps_step : (t : Lines) (b : Board) (p p' : List Sent) (old mid new : List StepColumn) → Keeps t b p old mid → p' ≡ p → Keeps t b p' mid new → Keeps t b p old new
keeps_step t b p p' old mid new f e g = keeps_more t b p old mid new f (subst (λ p. Keeps t b p mid new) e g)

pub ready_kept : (t : Lines) (b : Board) (p p' : List Sent) (old new : List StepColumn) → IsReady t b p old → Keeps t b p old new → p' ≡ p → IsReady t b p' new
ready_kept t b p p' old new ready keeps e = subst (λ p. IsReady t b p new) (sym e) (record {
  wide = ready.wide;
  ascending = ready.ascending;
  kept = ready.kept;
  within = ready.within;
  sent = ready.sent;
  board = ready.board;
  one_each = keeps.one_each ∙ ready.one_each;
  covers = λ k d h c l.
      let x = get_or p k d in
      let low = ready.within k d h in
      sends_kept t b p old new (cell_at (numbered_row t x.row) c) (cell_at (numbered_row t x.target) c) (get_or (get_or b.numbers x.row []) c None) keeps (numbers_at t b p old ready x.row c low.row l) (ready.covers k d h c l);
})

pub ready_none : (t : Lines) (b : Board) (p : List Sent) (places : List StepColumn) → IsReady t b p places → IsReady t b [] places
ready_none t b p places ready = record {
  wide = ready.wide;
  ascending = ready.ascending;
  kept = ready.kept;
  within = λ k d h. absurd (omega arith);
  sent = record { symbols = ready.sent.symbols; head = ready.sent.head; rows = λ k d h. absurd (omega arith) };
  board = ready.board;
  one_each = ready.one_each;
  covers = λ k d h. absurd (omega arith);
}

pub ready_as : (t : Lines) (b : Board) (p p' : List Sent) (places : List StepColumn) → p ≡ p' → IsReady t b p places → IsReady t b p' places
ready_as t b p p' places e ready = subst (λ p. IsReady t b p places) e ready
