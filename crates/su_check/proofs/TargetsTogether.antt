-- A row can go to a target exactly where it goes there by itself and agrees with each row that has a target.
-- t: the head, the rows and the kept rows of a term; sent: a row and its target, by their numbers
use Rattle.std.proofs.Common.{◌≡◌, ℕ, ◌<◌, ◌⊎◌, true, List, [], ◌∷◌, length, get_or, All, inl, inr, refl, sym, ap, ◌∙◌, arith}
use Rattle.std.proofs.lemmas.Bool.{false≢true}
use Rattle.std.proofs.lemmas.List.{length-map, get_or-map, get_or_default, same_lists}
use Rattle.std.proofs.lemmas.List.Elements.{All-push}
use Rattle.su_base.proofs.Items.{All-append_left, All-middle}
use Rattle.su_tableau.specs.declared.symbols.Sym.{Sym}
use Rattle.su_tableau.specs.declared.symbols.Sym.TheVariants.{Const, Var}
use Rattle.su_tableau.specs.Mapping.{image_of, images_of}
use Rattle.su_tableau.proofs.ChangedValuations.{InRow, in_row}
use Rattle.su_check.specs.declared.sending.Sent.{Sent}
use Rattle.su_check.specs.inside.Cells.{cell_at, is_const}
use Rattle.su_check.specs.SentRows.{Lines, numbered_row, AreSent, sent_too}
use Rattle.su_check.specs.inside.Agreement.{KeepsConstants, GoAlike, Goes}

-- a row that has a target agrees with the row and its target
abbrev pub AgreesWith : Lines → List Sym → List Sym → Sent → Type 0
AgreesWith t row target x = GoAlike (numbered_row t x.row) (numbered_row t x.target) row target

-- ---- what images tell

pub image_cell : (f : ℕ → Sym) (xs us : List Sym) (c : ℕ) → images_of f xs ≡ us → c < length xs → cell_at us c ≡ image_of f (cell_at xs c)
image_cell f xs us c e h = ap (λ r. cell_at r c) (sym e) ∙ get_or-map (image_of f) xs c (Var 0) (Var 0) h

pub const_image : (f : ℕ → Sym) (x : Sym) → is_const x ≡ true → image_of f x ≡ x
const_image f (Const v) e = refl
const_image f (Var k) e = absurd (false≢true e)

pub images_keep : (f : ℕ → Sym) (xs us : List Sym) → images_of f xs ≡ us → KeepsConstants xs us
images_keep f xs us e c h const = sym (image_cell f xs us c e h ∙ const_image f (cell_at xs c) const)

pub images_agree : (f : ℕ → Sym) (xs us ys vs : List Sym) → images_of f xs ≡ us → images_of f ys ≡ vs → GoAlike xs us ys vs
images_agree f xs us ys vs e g c h b l same = image_cell f xs us c e h ∙ ap (image_of f) same ∙ sym (image_cell f ys vs b g l)

-- ---- symbols that send one row more

-- what the row's target has at the variable, or what there was
abbrev found : (f : ℕ → Sym) (xs us : List Sym) (k : ℕ) → InRow xs k ⊎ (InRow xs k → ⊥) → Sym
found f xs us k (inl r) = cell_at us r.column
found f xs us k (inr none) = f k

abbrev joined : (ℕ → Sym) → List Sym → List Sym → ℕ → Sym
joined f xs us k = found f xs us k (in_row xs k)

images_by : (g : ℕ → Sym) (ys vs : List Sym) → length ys ≡ length vs → ((e : ℕ) → e < length ys → image_of g (cell_at ys e) ≡ cell_at vs e) → images_of g ys ≡ vs
images_by g ys vs len same =
    let l = length-map ys (image_of g) in
    same_lists (images_of g ys) vs (l ∙ len) (λ e d h.
    let low : e < length ys = omega arith in
    get_or-map (image_of g) ys e (Var 0) d low ∙ same e low ∙ get_or_default vs e (Var 0) d (omega arith))

own_cell : (f : ℕ → Sym) (xs us : List Sym) (c : ℕ) (x : Sym) → x ≡ cell_at xs c → c < length xs → KeepsConstants xs us → GoAlike xs us xs us → image_of (joined f xs us) x ≡ cell_at us c
own_cell f xs us c (Const v) e h keeps agree = e ∙ keeps c h (ap is_const (sym e))
own_cell f xs us c (Var k) e h keeps agree = go (in_row xs k)
  where
    go : (r : InRow xs k ⊎ (InRow xs k → ⊥)) → found f xs us k r ≡ cell_at us c
    go (inl r) = agree r.column r.below c h (r.is (Var 0) ∙ e)
    go (inr none) = absurd (none (record { column = c; below = h; is = λ d. get_or_default xs c d (Var 0) h ∙ sym e }))

other_cell : (f : ℕ → Sym) (xs us ys vs : List Sym) (b : ℕ) (y : Sym) → y ≡ cell_at ys b → b < length ys → images_of f ys ≡ vs → GoAlike ys vs xs us → image_of (joined f xs us) y ≡ cell_at vs b
other_cell f xs us ys vs b (Const v) e h images agree = sym (image_cell f ys vs b images h ∙ ap (image_of f) (sym e))
other_cell f xs us ys vs b (Var k) e h images agree = go (in_row xs k)
  where
    go : (r : InRow xs k ⊎ (InRow xs k → ⊥)) → found f xs us k r ≡ cell_at vs b
    go (inl r) = sym (agree b h r.column r.below (sym e ∙ sym (r.is (Var 0))))
    go (inr none) = sym (image_cell f ys vs b images h ∙ ap (image_of f) (sym e))

own_images : (f : ℕ → Sym) (xs us : List Sym) → length xs ≡ length us → KeepsConstants xs us → GoAlike xs us xs us → images_of (joined f xs us) xs ≡ us
own_images f xs us len keeps agree = images_by (joined f xs us) xs us len (λ c h. own_cell f xs us c (cell_at xs c) refl h keeps agree)

other_images : (f : ℕ → Sym) (xs us ys vs : List Sym) → images_of f ys ≡ vs → GoAlike ys vs xs us → images_of (joined f xs us) ys ≡ vs
other_images f xs us ys vs images agree =
    images_by (joined f xs us) ys vs (sym (length-map ys (image_of f)) ∙ ap length images) (λ b h. other_cell f xs us ys vs b (cell_at ys b) refl h images agree)

-- ---- one row more

pub sent_more : (t : Lines) (p : List Sent) (s j : ℕ) → length (numbered_row t s) ≡ length (numbered_row t j) → AreSent t p → Goes t.head (numbered_row t s) (numbered_row t j) → All (AgreesWith t (numbered_row t s) (numbered_row t j)) p → AreSent t (sent_too p s j)
sent_more t p s j len sent goes agree =
    let xs = numbered_row t s in let us = numbered_row t j in
    let g = joined sent.symbols xs us in
    record {
      symbols = g;
      head = other_images sent.symbols xs us t.head t.head sent.head goes.head_symbols;
      rows =
          All-push (λ x. images_of g (numbered_row t x.row) ≡ numbered_row t x.target) p (record { row = s; target = j })
          (λ k d h. other_images sent.symbols xs us (numbered_row t (get_or p k d).row) (numbered_row t (get_or p k d).target) (sent.rows k d h) (agree k d h))
          (own_images sent.symbols xs us len goes.constants goes.itself);
    }

pub sent_less : (t : Lines) (p : List Sent) (s j : ℕ) → AreSent t (sent_too p s j) → Goes t.head (numbered_row t s) (numbered_row t j) × All (AgreesWith t (numbered_row t s) (numbered_row t j)) p
sent_less t p s j sent =
    let f = sent.symbols in
    let P : Sent → Type 0 = λ x. images_of f (numbered_row t x.row) ≡ numbered_row t x.target in
    let xs = numbered_row t s in let us = numbered_row t j in
    let here : images_of f xs ≡ us = All-middle P p (record { row = s; target = j }) [] sent.rows in
    let before : All P p = All-append_left P p (record { row = s; target = j } ∷ []) sent.rows in (
      record {
        constants = images_keep f xs us here;
        itself = images_agree f xs us xs us here here;
        head_symbols = images_agree f t.head t.head xs us sent.head here;
      },
      λ k d h. images_agree f (numbered_row t (get_or p k d).row) (numbered_row t (get_or p k d).target) xs us (before k d h) here,
    )
