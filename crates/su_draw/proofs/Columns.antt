-- Symbols of two columns don't overlap.
-- The idea: a column is as wide as its widest cell, and the next one begins behind it.
use Rattle.std.proofs.Common.{◌≡◌, ◌≢◌, ◌≤◌, ◌⊎◌, ⊎_elim, ℕ, Bool, true, false, cond, List, [], ◌∷◌, map, refl, sym, ap, ◌∙◌, subst, inl, inr, arith}
use Rattle.std.specs.Prelude.{◌-◌, ◌^◌, max, Contains}
use Rattle.std.specs.Str.{bytes_eq}
use Rattle.std.proofs.lemmas.Slice.Eq.{bytes_eq-Decides}
use Rattle.su_base.proofs.Items.{Contains-nil, Contains-cases}
use Rattle.su_draw.specs.declared.cells.Cell.{Cell}
use Rattle.su_draw.specs.Cutting.{is_long, front_from as front_of_text}
use Rattle.su_draw.specs.Widths.{plus, byte_width, width_from, width_of, shown_width}
use Rattle.su_draw.specs.inside.Lay.{room_of, room_from, column_of, column_from}

-- ---- the room of a column

width_limit : (w : ℕ) (text : List ℕ) → w ≤ 2 ^ 32 - 1 → width_from w text ≤ 2 ^ 32 - 1
width_limit w [] h = h
width_limit w (b ∷ bs) h = let next : plus w (byte_width b) ≤ 2 ^ 32 - 1 = omega arith in width_limit (plus w (byte_width b)) bs next

shown_by : (b : Bool) (text : List ℕ) → cond b (plus (width_of (front_of_text 11 text)) 8) (width_of text) ≤ 2 ^ 32 - 1
shown_by true text = omega arith
shown_by false text = let low : 0 ≤ 2 ^ 32 - 1 = omega arith in width_limit 0 text low

shown_limit : (text : List ℕ) → shown_width text ≤ 2 ^ 32 - 1
shown_limit text = shown_by (is_long text) text

room_bound : (n s : ℕ) → s ≤ 2 ^ 32 - 1 → s ≤ plus (max n (plus s 16)) 16
room_bound n s h = omega arith

symbol_room : (c : Cell) → shown_width c.symbol ≤ room_of c
symbol_room c = room_bound (shown_width c.name) (shown_width c.symbol) (shown_limit c.symbol)

through : (a b c : ℕ) → a ≤ b → b ≤ c → a ≤ c
through a b c h k = omega arith

pub plus_less : (x s w y : ℕ) → s ≤ w → plus x w ≤ y → plus x s ≤ y
plus_less x s w y h k = omega arith

grown_by : (b : Bool) (w x : ℕ) → w ≤ cond b (max w x) w
grown_by true w x = omega arith
grown_by false w x = omega arith

most_up : (w x : ℕ) → x ≤ max w x
most_up w x = omega arith

room_grows : (w : ℕ) (cs : List Cell) (name : List ℕ) → w ≤ room_from w cs name
room_grows w [] name = omega arith
room_grows w (c ∷ cs) name =
    let next = cond (bytes_eq c.name name) (max w (room_of c)) w in
    let here : w ≤ next = grown_by (bytes_eq c.name name) w (room_of c) in
    through w next (room_from next cs name) here (room_grows next cs name)

pub symbol_fits : (w : ℕ) (cs : List Cell) (c : Cell) → Contains cs c → shown_width c.symbol ≤ room_from w cs c.name
symbol_fits w [] c h = absurd (Contains-nil c h)
symbol_fits w (x ∷ xs) c h =
    ⊎_elim
    (λ (e : x ≡ c).
    let same : bytes_eq x.name c.name ≡ true = (bytes_eq-Decides x.name c.name).1 (ap (λ (z : Cell). z.name) e) in
    let room : shown_width c.symbol ≤ room_of x = subst (λ (z : Cell). shown_width z.symbol ≤ room_of x) e (symbol_room x) in
    let most = max w (room_of x) in
    let all : shown_width c.symbol ≤ room_from most xs c.name =
    through (shown_width c.symbol) (room_of x) (room_from most xs c.name) room (through (room_of x) most (room_from most xs c.name) (most_up w (room_of x)) (room_grows most xs c.name)) in
    subst (λ b. shown_width c.symbol ≤ room_from (cond b (max w (room_of x)) w) xs c.name) (sym same) all)
    (λ (later : Contains xs c). symbol_fits (cond (bytes_eq x.name c.name) (max w (room_of x)) w) xs c later) (Contains-cases x xs c h)

-- ---- one column behind the other

module _ (cells : List Cell) where
  abbrev at : ℕ → List (List ℕ) → List ℕ → ℕ
  at x names name = column_from x (map (column_of cells) names) name

  up_by : (b : Bool) (x y : ℕ) → x ≤ y → x ≤ cond b x y
  up_by true x y h = omega arith
  up_by false x y h = h

  low_by : (b : Bool) (x y : ℕ) → x ≤ 2 ^ 32 - 1 → y ≤ 2 ^ 32 - 1 → cond b x y ≤ 2 ^ 32 - 1
  low_by true x y h k = h
  low_by false x y h k = k

  pub column_up : (x : ℕ) (names : List (List ℕ)) (name : List ℕ) → x ≤ 2 ^ 32 - 1 → (x ≤ at x names name) × (at x names name ≤ 2 ^ 32 - 1)
  column_up x [] name h = let same : x ≤ x = omega arith in (same, h)
  column_up x (n ∷ ns) name h =
      let next = plus x (room_from 0 cells n) in
      let far : x ≤ next = omega arith in
      let below : next ≤ 2 ^ 32 - 1 = omega arith in
      let rest = column_up next ns name below in
      let up : x ≤ at next ns name = through x next (at next ns name) far rest.0 in
      (up_by (bytes_eq n name) x (at next ns name) up, low_by (bytes_eq n name) x (at next ns name) h rest.1)

  abbrev IsBehind : ℕ → List (List ℕ) → List ℕ → List ℕ → Type 0
  IsBehind x names a b = plus (at x names a) (room_from 0 cells a) ≤ at x names b

  first_is : (x : ℕ) (n : List ℕ) (ns : List (List ℕ)) (a b : List ℕ) → x ≤ 2 ^ 32 - 1 → n ≡ a → bytes_eq n b ≡ false → IsBehind x (n ∷ ns) a b
  first_is x n ns a b h e other =
      let next = plus x (room_from 0 cells n) in
      let below : next ≤ 2 ^ 32 - 1 = omega arith in
      let here : at x (n ∷ ns) a ≡ x = ap (λ t. cond t x (at next ns a)) ((bytes_eq-Decides n a).1 e) in
      let there : at x (n ∷ ns) b ≡ at next ns b = ap (λ t. cond t x (at next ns b)) other in
      let width : room_from 0 cells n ≡ room_from 0 cells a = ap (room_from 0 cells) e in
      let up = (column_up next ns b below).0 in
      subst (λ z. plus z (room_from 0 cells a) ≤ at x (n ∷ ns) b) (sym here)
      (subst (λ z. plus x (room_from 0 cells a) ≤ z) (sym there) (subst (λ z. plus x z ≤ at next ns b) width up))

  differs_by : (t : Bool) (n a b : List ℕ) → a ≢ b → n ≡ a → bytes_eq n b ≡ t → bytes_eq n b ≡ false
  differs_by true n a b other e h = absurd (other (sym e ∙ (bytes_eq-Decides n b).0 h))
  differs_by false n a b other e h = h

  tail : (n : List ℕ) (ns : List (List ℕ)) (name : List ℕ) → bytes_eq n name ≡ false → Contains (n ∷ ns) name → Contains ns name
  tail n ns name unlike c = ⊎_elim (λ (e : n ≡ name). absurd (let bad : true ≡ false = sym ((bytes_eq-Decides n name).1 e) ∙ unlike in cc)) (λ later. later) (Contains-cases n ns name c)

  moved : (x : ℕ) (n : List ℕ) (ns : List (List ℕ)) (name : List ℕ) → bytes_eq n name ≡ false → at x (n ∷ ns) name ≡ at (plus x (room_from 0 cells n)) ns name
  moved x n ns name unlike = ap (λ t. cond t x (at (plus x (room_from 0 cells n)) ns name)) unlike

  behind_both : (x : ℕ) (n : List ℕ) (ns : List (List ℕ)) (c d : List ℕ) → bytes_eq n c ≡ false → bytes_eq n d ≡ false → IsBehind (plus x (room_from 0 cells n)) ns c d → IsBehind x (n ∷ ns) c d
  behind_both x n ns c d no_c no_d k =
      let next = plus x (room_from 0 cells n) in
      subst (λ z. plus z (room_from 0 cells c) ≤ at x (n ∷ ns) d) (sym (moved x n ns c no_c)) (subst (λ z. plus (at next ns c) (room_from 0 cells c) ≤ z) (sym (moved x n ns d no_d)) k)

  apart_by : (p q : Bool) (x : ℕ) (n : List ℕ) (ns : List (List ℕ)) (a b : List ℕ) → x ≤ 2 ^ 32 - 1 → a ≢ b → bytes_eq n a ≡ p → bytes_eq n b ≡ q
      → (bytes_eq n a ≡ false → bytes_eq n b ≡ false → IsBehind (plus x (room_from 0 cells n)) ns a b ⊎ IsBehind (plus x (room_from 0 cells n)) ns b a) → IsBehind x (n ∷ ns) a b ⊎ IsBehind x (n ∷ ns) b a
  apart_by true q x n ns a b h other e f rest = let is : n ≡ a = (bytes_eq-Decides n a).0 e in inl (first_is x n ns a b h is (differs_by (bytes_eq n b) n a b other is refl))
  apart_by false true x n ns a b h other e f rest = let is : n ≡ b = (bytes_eq-Decides n b).0 f in inr (first_is x n ns b a h is e)
  apart_by false false x n ns a b h other e f rest = ⊎_elim (λ k. inl (behind_both x n ns a b e f k)) (λ k. inr (behind_both x n ns b a f e k)) (rest e f)

  pub apart_in : (x : ℕ) (names : List (List ℕ)) (a b : List ℕ) → x ≤ 2 ^ 32 - 1 → a ≢ b → Contains names a → Contains names b → IsBehind x names a b ⊎ IsBehind x names b a
  apart_in x [] a b h other in_a in_b = absurd (Contains-nil a in_a)
  apart_in x (n ∷ ns) a b h other in_a in_b =
      let below : plus x (room_from 0 cells n) ≤ 2 ^ 32 - 1 = omega arith in
      apart_by (bytes_eq n a) (bytes_eq n b) x n ns a b h other refl refl (λ e f. apart_in (plus x (room_from 0 cells n)) ns a b below other (tail n ns a e in_a) (tail n ns b f in_b))
