-- Sums that stop at the limit: lanes and heights that lie apart.
use Rattle.std.proofs.Common.{◌≡◌, ◌≤◌, ◌<◌, ◌⊎◌, ℕ, zero, suc, ◌+◌, Bool, true, false, cond, List, [], ◌∷◌, Some, None, take, drop, slice_get, refl, sym, ap, ◌∙◌, subst, inl, inr, arith}
use Rattle.std.specs.Prelude.{◌^◌, ◌-◌, nat_le}
use Rattle.std.proofs.lemmas.Bool.{leb-true, leb-false}
use Rattle.su_explained.specs.declared.reading.Line.{Line}
use Rattle.su_draw.specs.Terms.{is_light}
use Rattle.su_draw.specs.Widths.{plus}
use Rattle.su_draw.specs.inside.Lay.{is_arrow, lane_from, step_to, room_below, heights_from, height_in, lights_from}

-- the element behind others
pub slice_get-drop : {X : Type 0} (n : ℕ) (xs : List X) (k : ℕ) → slice_get (drop n xs) k ≡ slice_get xs (n + k)
slice_get-drop zero xs k = let e : k ≡ 0 + k = omega arith in ap (slice_get xs) e
slice_get-drop (suc n) [] k = refl
slice_get-drop (suc n) (x ∷ xs) k = let e : suc (n + k) ≡ suc n + k = omega arith in slice_get-drop n xs k ∙ ap (slice_get (x ∷ xs)) e

-- what lies apart, or at the limit
apart_by : (t : Bool) (a b d : ℕ) → nat_le (a + d) (2 ^ 32 - 1) ≡ t → plus a d ≤ b → b ≤ 2 ^ 32 - 1 → (a + d ≤ b) ⊎ (b ≡ 2 ^ 32 - 1)
apart_by true a b d e h l = let f = leb-true (a + d) (2 ^ 32 - 1) e in inl (omega arith)
apart_by false a b d e h l = let f = leb-false (a + d) (2 ^ 32 - 1) e in inr (omega arith)

pub apart : (a b d : ℕ) → plus a d ≤ b → b ≤ 2 ^ 32 - 1 → (a + d ≤ b) ⊎ (b ≡ 2 ^ 32 - 1)
apart a b d h l = apart_by (nat_le (a + d) (2 ^ 32 - 1)) a b d refl h l

next_lane : (b : Bool) (x : ℕ) → x ≤ 2 ^ 32 - 1 → (x ≤ cond b (plus x 18) x) × (cond b (plus x 18) x ≤ 2 ^ 32 - 1)
next_lane true x h = (omega arith, omega arith)
next_lane false x h = (omega arith, h)

pub lane_up : (x j : ℕ) (ws : List (List ℕ)) → x ≤ 2 ^ 32 - 1 → (x ≤ lane_from x j ws) × (lane_from x j ws ≤ 2 ^ 32 - 1)
lane_up x j [] h = (omega arith, h)
lane_up x j (w ∷ ws) h =
    let next = next_lane (is_arrow j w) x h in
    let rest = lane_up (cond (is_arrow j w) (plus x 18) x) (j + 1) ws next.1 in
    (omega (arith, next.0, rest.0), rest.1)

pub lane_apart : (x j k m : ℕ) (ws : List (List ℕ)) (w : List ℕ) → x ≤ 2 ^ 32 - 1 → slice_get ws k ≡ Some w → is_arrow (j + k) w ≡ true → k < m
    → plus (lane_from x j (take k ws)) 18 ≤ lane_from x j (take m ws)
lane_apart x j k zero ws w h at is lt = absurd (omega arith)
lane_apart x j zero (suc m) [] w h at is lt = absurd (let e : None ≡ Some w = at in cc)
lane_apart x j (suc k) (suc m) [] w h at is lt = absurd (let e : None ≡ Some w = at in cc)
lane_apart x j zero (suc m) (v ∷ vs) w h at is lt =
    let same : w ≡ v = cc in
    let here : j + 0 ≡ j = omega arith in
    let b : is_arrow j v ≡ true = ap (λ n. is_arrow n v) (sym here) ∙ ap (λ z. is_arrow (j + 0) z) (sym same) ∙ is in
    let P : Bool → Type 0 = λ c. plus x 18 ≤ lane_from (cond c (plus x 18) x) (j + 1) (take m vs) in
    let below : plus x 18 ≤ 2 ^ 32 - 1 = omega arith in
    subst P (sym b) ((lane_up (plus x 18) (j + 1) (take m vs) below).0)
lane_apart x j (suc k) (suc m) (v ∷ vs) w h at is lt =
    let e : j + suc k ≡ (j + 1) + k = omega arith in
    let less : k < m = omega arith in
    lane_apart (cond (is_arrow j v) (plus x 18) x) (j + 1) k m vs w (next_lane (is_arrow j v) x h).1 at (ap (λ n. is_arrow n w) (sym e) ∙ is) less

pub height_below : (y : ℕ) (ls : List Line) (n : ℕ) → height_in (heights_from y ls) n ≤ 2 ^ 32 - 1
height_below y [] n = omega arith
height_below y (l ∷ ls) zero = let h : plus y (step_to l.kind) ≤ 2 ^ 32 - 1 = omega arith in h
height_below y (l ∷ ls) (suc n) = height_below (plus (plus y (step_to l.kind)) (room_below l.kind)) ls n

-- a line that is so far below the one before it
height_up : (y d : ℕ) (ls : List Line) (n : ℕ) (line : Line) → y ≤ 2 ^ 32 - 1 → slice_get ls n ≡ Some line → step_to line.kind ≡ d → plus y d ≤ height_in (heights_from y ls) n
height_up y d [] n line h at is = absurd (let e : None ≡ Some line = at in cc)
height_up y d (l ∷ ls) zero line h at is =
    let same : l ≡ line = cc in
    let e : step_to l.kind ≡ d = ap (λ z. step_to z.kind) same ∙ is in
    let P : ℕ → Type 0 = λ z. plus y z ≤ plus y (step_to l.kind) in
    let r : plus y (step_to l.kind) ≤ plus y (step_to l.kind) = omega arith in
    subst P e r
height_up y d (l ∷ ls) (suc n) line h at is =
    let y1 = plus y (step_to l.kind) in
    let y2 = plus y1 (room_below l.kind) in
    let a : y ≤ y1 = omega arith in
    let b : y1 ≤ y2 = omega arith in
    let c : y2 ≤ 2 ^ 32 - 1 = omega arith in
    let rest : plus y2 d ≤ height_in (heights_from y2 ls) n = height_up y2 d ls n line c at is in
    let m : plus y d ≤ plus y2 d = omega (arith, a, b) in
    omega (arith, m, rest)

pub height_apart : (y d : ℕ) (ls : List Line) (i j : ℕ) (line : Line) → y ≤ 2 ^ 32 - 1 → slice_get ls j ≡ Some line → step_to line.kind ≡ d → i < j
    → plus (height_in (heights_from y ls) i) d ≤ height_in (heights_from y ls) j
height_apart y d [] i j line h at is lt = absurd (let e : None ≡ Some line = at in cc)
height_apart y d (l ∷ ls) i zero line h at is lt = absurd (omega arith)
height_apart y d (l ∷ ls) zero (suc j) line h at is lt =
    let y1 = plus y (step_to l.kind) in
    let y2 = plus y1 (room_below l.kind) in
    let a : y1 ≤ 2 ^ 32 - 1 = omega arith in
    let b : y1 ≤ y2 = omega arith in
    let c : y2 ≤ 2 ^ 32 - 1 = omega arith in
    let rest : plus y2 d ≤ height_in (heights_from y2 ls) j = height_up y2 d ls j line c at is in
    let m : plus y1 d ≤ plus y2 d = omega (arith, b) in
    let r : plus y1 d ≤ height_in (heights_from y2 ls) j = omega (arith, m, rest) in
    r
height_apart y d (l ∷ ls) (suc i) (suc j) line h at is lt =
    let less : i < j = omega arith in
    let c : plus (plus y (step_to l.kind)) (room_below l.kind) ≤ 2 ^ 32 - 1 = omega arith in
    height_apart (plus (plus y (step_to l.kind)) (room_below l.kind)) d ls i j line c at is less

pub light_at : (ls : List Line) (i : ℕ) (line : Line) → slice_get ls i ≡ Some line → slice_get (lights_from ls) i ≡ Some (is_light line (drop (i + 1) ls))
light_at [] i line at = absurd (let e : None ≡ Some line = at in cc)
light_at (l ∷ ls) zero line at =
    let same : l ≡ line = cc in
    ap (λ z. Some (is_light z ls)) same
light_at (l ∷ ls) (suc i) line at =
    let e : suc (i + 1) ≡ suc i + 1 = omega arith in
    light_at ls i line at ∙ ap (λ n. Some (is_light line (drop n (l ∷ ls)))) e
