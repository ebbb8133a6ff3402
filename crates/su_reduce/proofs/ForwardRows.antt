-- Rows that are brought to the front, one after another.
use Rattle.std.proofs.Common.{◌≡◌, ℕ, ◌+◌, ◌-◌, ◌*◌, ◌<◌, ◌≤◌, Bool, true, false, List, [], ◌++◌, length, get_or, take, drop, refl, sym, ap, ◌∙◌, ⊎_elim, arith, length-drop, mul-le-mul_right}
use Rattle.std.specs.List.{CopiedTo, SameBelow, SameFrom}
use Rattle.std.proofs.lemmas.Bool.{cases_lt}
use Rattle.std.proofs.lemmas.List.{drop-drop, get_or-append-add, get_or-drop, get_or-take, get_or_append_left, get_or_default, length-append, length-take-le, same_lists, take-append-le, take_all}
use Rattle.su_reduce.specs.Left.{marked}
use Rattle.su_reduce.specs.Sheets.{cut}
use Rattle.su_reduce.proofs.EarSteps.{marked_in, marked_out}
use Rattle.su_reduce.proofs.ListPieces.{cut_at, cut_more, length-cut}

-- ---- one move

module _ (xs ys : List ℕ) (from to w : ℕ) (order : to ≤ from) (within : from + w ≤ length xs) (long : length ys ≡ length xs) where
  pub front_moved : CopiedTo xs ys from to w → SameBelow xs ys to → take (to + w) ys ≡ take to xs ++ take w (drop from xs)
  front_moved copied below =
      let first = take to xs in
      let second = take w (drop from xs) in
      let a : length (take (to + w) ys) ≡ to + w = length-take-le (to + w) ys (omega (arith, order, within, long)) in
      let b : length first ≡ to = length-take-le to xs (omega (arith, order, within)) in
      let d : length (drop from xs) ≡ length xs - from = length-drop from xs in
      let c : length second ≡ w = length-take-le w (drop from xs) (omega (arith, d, within)) in
      let e = length-append first second in
      same_lists (take (to + w) ys) (first ++ second) (omega (arith, a, b, c, e)) (λ k x l.
      let low : k < to + w = omega (arith, l, a) in
      get_or-take (to + w) ys k x low
      ∙ ⊎_elim
      (λ (m : k < to). below k x m ∙ sym (get_or-take to xs k x m) ∙ sym (get_or_append_left first second x k (omega (arith, m, b))))
      (λ (m : to ≤ k).
      let at : length first + (k - to) ≡ k = omega (arith, b, m) in
      copied k x m low ∙ sym (get_or-drop from xs (k - to) x) ∙ sym (get_or-take w (drop from xs) (k - to) x (omega (arith, low, m)))
      ∙ sym (get_or-append-add first second (k - to) x) ∙ ap (λ i. get_or (first ++ second) i x) at)
      (cases_lt k to))

  pub behind_stays : SameFrom xs ys (to + w) → drop (from + w) ys ≡ drop (from + w) xs
  behind_stays behind =
      let a = length-drop (from + w) xs in
      let b = length-drop (from + w) ys in
      same_lists (drop (from + w) ys) (drop (from + w) xs) (omega (arith, a, b, long)) (λ k x l. get_or-drop (from + w) ys k x ∙ behind (from + w + k) x (omega (arith, order)) ∙ sym (get_or-drop (from + w) xs k x))

-- ---- so far

-- of the first i rows the marked ones stand at the front, and those behind them are as they were
pub record AreForward (old : List ℕ) (w : ℕ) (marks : List Bool) (i kept : ℕ) (cells : List ℕ) : Type 0 where
  pub long : length cells ≡ length old
  pub few : kept ≤ i
  pub front : cut w kept (take (kept * w) cells) ≡ marked (take i marks) (take i (cut w (length marks) old))
  pub behind : drop (i * w) cells ≡ drop (i * w) old

pub none_forward : (old : List ℕ) (w : ℕ) (marks : List Bool) → AreForward old w marks 0 0 old
none_forward old w marks = record { long = refl; few = omega arith; front = refl; behind = refl }

module _ (old : List ℕ) (w : ℕ) (marks : List Bool) (i kept : ℕ) (cells : List ℕ) (so_far : AreForward old w marks i kept cells) (whole : length old ≡ length marks * w) (low : i < length marks) where
  abbrev rows : List (List ℕ)
  rows = cut w (length marks) old

  count : length rows ≡ length marks
  count = length-cut w (length marks) old

  -- the row at i
  abbrev row : List ℕ
  row = take w (drop (i * w) cells)

  row_is : row ≡ get_or rows i []
  row_is = ap (take w) so_far.behind ∙ sym (cut_at w (length marks) old i low)

  pub row_fits : i * w + w ≤ length cells
  row_fits =
      let e : (i + 1) * w ≤ length marks * w = mul-le-mul_right w (omega (arith, low)) in
      let f : (i + 1) * w ≡ i * w + w = grind arith in
      let l = so_far.long in
      omega (arith, e, f, l, whole)

  pub before_it : kept * w ≤ i * w
  before_it = mul-le-mul_right w so_far.few

  wide : length row ≡ w
  wide = let f = row_fits in let d = length-drop (i * w) cells in length-take-le w (drop (i * w) cells) (omega (arith, f, d))

  behind_next : (xs : List ℕ) → drop (i * w + w) xs ≡ drop (i * w + w) cells → drop ((i + 1) * w) xs ≡ drop ((i + 1) * w) old
  behind_next xs same =
      let f : (i + 1) * w ≡ i * w + w = grind arith in
      ap (λ n. drop n xs) f ∙ same ∙ sym (drop-drop w (i * w) cells) ∙ ap (drop w) so_far.behind ∙ drop-drop w (i * w) old ∙ ap (λ n. drop n old) (sym f)

  low_row : i < length rows
  low_row = let c = count in omega (arith, low, c)

  same_default : get_or rows i [] ≡ get_or rows i row
  same_default = sym (get_or_default rows i row [] low_row)

  pub forward_in : (new : List ℕ) → get_or marks i false ≡ true → length new ≡ length cells → take (kept * w + w) new ≡ take (kept * w) cells ++ row → drop (i * w + w) new ≡ drop (i * w + w) cells → AreForward old w marks (i + 1) (kept + 1) new
  forward_in new marked_here long front behind =
      let f : (kept + 1) * w ≡ kept * w + w = grind arith in
      let a = before_it in
      let b = row_fits in
      let first : length (take (kept * w) cells) ≡ kept * w = length-take-le (kept * w) cells (omega (arith, a, b)) in
      record {
        long = long ∙ so_far.long;
        few = (let l = so_far.few in omega (arith, l));
        front = ap (λ n. cut w (kept + 1) (take n new)) f ∙ ap (cut w (kept + 1)) front ∙ cut_more w kept (take (kept * w) cells) row first wide
            ∙ marked_in marks rows i (cut w kept (take (kept * w) cells)) low_row (sym count) so_far.front row (row_is ∙ same_default) marked_here;
        behind = behind_next new behind;
      }

  pub forward_out : get_or marks i false ≡ false → AreForward old w marks (i + 1) kept cells
  forward_out none = record {
    long = so_far.long;
    few = (let l = so_far.few in omega (arith, l));
    front = marked_out marks rows i (cut w kept (take (kept * w) cells)) low_row (sym count) so_far.front row (row_is ∙ same_default) none;
    behind = behind_next cells refl;
  }

-- at the end
pub forward_all : (old : List ℕ) (w : ℕ) (marks : List Bool) (i kept : ℕ) (cells : List ℕ) → AreForward old w marks i kept cells → i ≡ length marks → cut w kept (take (kept * w) cells) ≡ marked marks (cut w (length marks) old)
forward_all old w marks i kept cells done all =
    let rows = cut w (length marks) old in
    let count = length-cut w (length marks) old in
    done.front ∙ ap (λ n. marked (take n marks) (take n rows)) all ∙ ap (λ ms. marked ms (take (length marks) rows)) (take_all (length marks) marks (omega arith)) ∙ ap (marked marks) (take_all (length marks) rows (omega (arith, count)))

-- what stands in a vector whose slice was written
pub written_back : (n m : ℕ) (new old : List ℕ) → m ≡ length new → take n (take m (new ++ drop (length new) old)) ≡ take n new
written_back n m new old all = ap (take n) (take-append-le m new (drop (length new) old) (omega (arith, all)) ∙ take_all m new (omega (arith, all)))
