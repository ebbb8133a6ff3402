-- What the layout has keeps what a picture promises.
-- The idea: a row's height is that of its line, which stands behind its term's by its number and one; an arrow takes the heights of these lines.
use Rattle.std.proofs.Common.{◌≡◌, ◌≢◌, ◌≤◌, ◌<◌, ◌⊎◌, ⊎_elim, ℕ, ◌+◌, Bool, true, false, cond, List, [], ◌++◌, Option, Some, None, take, drop, slice_get, refl, sym, inl, inr, ap, ◌∙◌, subst, arith}
use Rattle.std.specs.Prelude.{◌^◌, ◌-◌, ◌==◌, nat_lt, All, Contains}
use Rattle.std.proofs.lemmas.List.Elements.{All-contains, Contains-append_left}
use Rattle.std.proofs.lemmas.Bool.{eqb-true, ne_eqb, le-ltb, ltb-true, ltb-false}
use Rattle.su_base.proofs.Items.{Contains-map}
use Rattle.su_explained.specs.declared.reading.Line.{Line}
use Rattle.su_explained.specs.Numbers.{number_in}
use Rattle.su_explained.specs.Checks.{is_decimal, some_is}
use Rattle.su_draw.specs.declared.explaining.Layout.{Layout}
use Rattle.su_draw.specs.declared.tables.Table.{Table}
use Rattle.su_draw.specs.declared.things.What.TheVariants as what
use Rattle.su_draw.specs.declared.shapes.Shape.{Shape}
use Rattle.su_draw.specs.declared.shapes.Help.{Help}
use Rattle.su_draw.specs.declared.shapes.Help.TheVariants.{Heading}
use Rattle.su_draw.specs.Things.{name_of, symbol_of, text_shown}
use Rattle.su_draw.specs.Once.{things_in_shapes, StandOnce}
use Rattle.su_draw.specs.Terms.{is_row, is_light, or_else, word_or_none, word_in, term_at, RowsStandBehind, words_or_none, words_at}
use Rattle.su_draw.specs.Promises.{IsRowOf, ArrowsJoin, AreOfOneTerm, MarksTell, SharedAreMarked, KeptAreDark, LanesDiffer, RowsDiffer, KeepsPromises, attribute_at, HeadingsStand, EndsBefore, ColumnsDiffer, SourcesStand}
use Rattle.su_draw.specs.Widths.{plus, shown_width}
use Rattle.su_draw.specs.inside.Lay.{heights_from, height_in, row_height, lights_from, or_false, mark_from, is_arrow, lane_from, table_of, in_row, fold_place, StandsAs, IsLayoutOf, IsLaid, IsLaidOver, step_to, cells_from, count_from, row_x, column_from, headings_from, cell_of, names_with, room_from, source_place, row_from, front_from}
use Rattle.su_draw.proofs.Origins.{IsOfWord, is_of_word}
use Rattle.su_draw.proofs.DrawnWords.{row_drawn, symbol_drawn, fold_drawn}
use Rattle.su_draw.proofs.Headed.{cell_named, cell_of_term, cell_of_row, term_above, heading_of_cell, row_found}
use Rattle.su_draw.proofs.Columns.{plus_less, symbol_fits, column_up, apart_in}
use Rattle.su_draw.proofs.Marks.{mark_tells}
use Rattle.su_draw.proofs.RowLines.{is_row-Row}
use Rattle.su_draw.proofs.Shared.{counted_is_marked, one_of_row, two_of_row, one_line, two_lines}
use Rattle.su_draw.proofs.Sums.{slice_get-drop, apart, lane_up, lane_apart, height_below, height_apart, light_at}

-- over the lines in place of the layout
laid_over : (lines : List Line) (l : Layout) (s : Shape) → IsLayoutOf lines l → IsLaid l s → IsLaidOver lines l.left s
laid_over lines l s is laid =
    let Q : List Line → List ℕ → List Bool → List ℕ → Type 0 = λ ls hs gs ts. StandsAs s.thing.what ls hs gs l.left (table_of l.left ls (or_else 0 (slice_get ts s.thing.line))) s.thing s.place in
    let a : Q lines l.heights l.lights l.terms = subst (λ ls. Q ls l.heights l.lights l.terms) is.of_lines laid in
    let b : Q lines (heights_from 10 lines) l.lights l.terms = subst (λ hs. Q lines hs l.lights l.terms) is.heights a in
    let c : Q lines (heights_from 10 lines) (lights_from lines) l.terms = subst (λ gs. Q lines (heights_from 10 lines) gs l.terms) is.lights b in
    subst (λ ts. Q lines (heights_from 10 lines) (lights_from lines) ts) is.terms c

decimal_number : (o : Option ℕ) (n : ℕ) → some_is (λ m. m == n) o ≡ true → or_else 0 o ≡ n
decimal_number None n e = absurd (let f : false ≡ true = e in cc)
decimal_number (Some m) n e = eqb-true m n e

told_number : (word : List ℕ) (n : ℕ) → is_decimal n word ≡ true → or_else 0 (number_in word) ≡ n
unfolding is_decimal
told_number word n e = decimal_number (number_in word) n e

below_by : (t : Bool) (m n : ℕ) → nat_lt n m ≡ t → (n < m) ⊎ (m ≤ n)
below_by true m n e = inl (ltb-true n m e)
below_by false m n e = inr (ltb-false n m e)

below_or : (m n : ℕ) → (n < m) ⊎ (m ≤ n)
below_or m n = below_by (nat_lt n m) m n refl

later : (n : ℕ) → 6 ≤ n → nat_lt n 6 ≡ false
later n h = le-ltb n 6 h

row_step : (line : Line) → is_row line.kind ≡ true → step_to line.kind ≡ 20
row_step line is = ap step_to (is_row-Row line.kind is)

module _ (lines : List Line) (left : ℕ) (shapes : List Shape) (laid : (s : Shape) → Contains shapes s → IsLaidOver lines left s) (once : StandOnce lines (things_in_shapes shapes)) where
  origin : (s : Shape) → Contains shapes s → IsOfWord lines s.thing
  origin s c = is_of_word lines (things_in_shapes shapes) s.thing once (Contains-map (λ (z : Shape). z.thing) shapes s c)

  abbrev table_at : Shape → Table
  table_at s = table_of left lines (term_at lines s.thing.line)

  word_of : (s : Shape) (o : IsOfWord lines s.thing) → word_in (words_at lines s.thing.line) s.thing.word ≡ o.word
  word_of s o = ap (λ z. word_in (words_or_none z) s.thing.word) o.at ∙ ap word_or_none o.stands

  -- where each kind stands
  row_at : (s : Shape) → Contains shapes s → s.thing.what ≡ what.Row
      → s.place ≡ in_row left (table_at s) s.thing.word (words_at lines s.thing.line) (height_in (heights_from 10 lines) s.thing.line) (or_false (slice_get (lights_from lines) s.thing.line))
  row_at s c is = subst (λ w. StandsAs w lines (heights_from 10 lines) (lights_from lines) left (table_at s) s.thing s.place) is (laid s c)

  symbol_at : (s : Shape) → Contains shapes s → s.thing.what ≡ what.Symbol
      → s.place ≡ in_row left (table_at s) s.thing.word (words_at lines s.thing.line) (height_in (heights_from 10 lines) s.thing.line) (or_false (slice_get (lights_from lines) s.thing.line))
  symbol_at s c is = subst (λ w. StandsAs w lines (heights_from 10 lines) (lights_from lines) left (table_at s) s.thing s.place) is (laid s c)

  fold_at : (s : Shape) → Contains shapes s → s.thing.what ≡ what.Fold → s.place ≡ fold_place (table_at s) (heights_from 10 lines) s.thing.word (words_at lines s.thing.line)
  fold_at s c is = subst (λ w. StandsAs w lines (heights_from 10 lines) (lights_from lines) left (table_at s) s.thing s.place) is (laid s c)

  -- the line of a row
  row_line : RowsStandBehind lines → (i r : ℕ) (s : Shape) → Contains shapes s → IsRowOf lines i r s → s.thing.line ≡ term_at lines i + 1 + r
  row_line behind i r s c is =
      let o = origin s c in
      let d : (is_row o.line.kind ≡ true) × (s.thing.word ≡ 3) = row_drawn o.line.kind _ s.thing.word o.word (o.drawn ∙ ap (λ z. Some z) is.is) in
      let shows : s.thing.text ≡ o.word = o.shows ∙ ap (λ z. text_shown z o.word) is.is in
      let third : word_in o.line.words 3 ≡ s.thing.text = ap (word_in o.line.words) (sym d.1) ∙ ap word_or_none o.stands ∙ sym shows in
      behind s.thing.line r o.line o.at d.0 (ap (is_decimal r) third ∙ is.tells) ∙ ap (λ t. t + 1 + r) is.of_term

  row_stands : RowsStandBehind lines → (i r : ℕ) (s : Shape) → Contains shapes s → IsRowOf lines i r s → row_height (heights_from 10 lines) (term_at lines i) r ≡ s.place.y
  row_stands behind i r s c is =
      ap (or_else 0) (slice_get-drop (term_at lines i + 1) (heights_from 10 lines) r) ∙ ap (height_in (heights_from 10 lines)) (sym (row_line behind i r s c is)) ∙ sym (ap (λ p. p.y) (row_at s c is.is))

  arrows : RowsStandBehind lines → ArrowsJoin lines shapes
  arrows behind a c is =
      let o = origin a c in
      let place = fold_at a c is in
      let shows : a.thing.text ≡ o.word = o.shows ∙ ap (λ z. text_shown z o.word) is in record {
        begins = λ s d row. ap (λ p. p.y) place ∙ row_stands behind a.thing.line (a.thing.word - 3) s d row;
        ends = λ r s d tells row.
            let number : or_else 0 (number_in (word_in (words_at lines a.thing.line) a.thing.word)) ≡ r = told_number _ r (ap (is_decimal r) (word_of a o ∙ sym shows) ∙ tells) in
            ap (λ p. p.to) place ∙ ap (row_height (heights_from 10 lines) (term_at lines a.thing.line)) number ∙ row_stands behind a.thing.line r s d row;
      }

  -- the mark of a symbol
  mark_at : (s : Shape) → Contains shapes s → s.thing.what ≡ what.Symbol → s.place.mark ≡ mark_from 0 (table_at s).classes s.thing.text
  mark_at s c is =
      let o = origin s c in
      let d : (is_row o.line.kind ≡ true) × (6 ≤ s.thing.word) = symbol_drawn o.line.kind _ s.thing.word o.word (o.drawn ∙ ap (λ z. Some z) is) in
      let shows : s.thing.text ≡ symbol_of o.word = o.shows ∙ ap (λ z. text_shown z o.word) is in
      let far : nat_lt s.thing.word 6 ≡ false = later s.thing.word d.1 in
      ap (λ p. p.mark) (symbol_at s c is)
      ∙ ap (λ b. cond b 0 (mark_from 0 (table_at s).classes (symbol_of (word_in (words_at lines s.thing.line) s.thing.word)))) far
      ∙ ap (λ w. mark_from 0 (table_at s).classes (symbol_of w)) (word_of s o) ∙ ap (mark_from 0 (table_at s).classes) (sym shows)

  marks : MarksTell lines shapes
  marks a b two =
      let table : table_at b ≡ table_at a = ap (table_of left lines) (sym two.of_term) in
      let of_a = mark_at a two.first two.first_is in
      let of_b : b.place.mark ≡ mark_from 0 (table_at a).classes b.thing.text = mark_at b two.second two.second_is ∙ ap (λ t. mark_from 0 t.classes b.thing.text) table in (
        λ same. of_a ∙ ap (mark_from 0 (table_at a).classes) same ∙ sym of_b,
        λ some same. mark_tells 0 (table_at a).classes a.thing.text b.thing.text (subst (λ n. 0 < n) of_a some) (sym of_a ∙ same ∙ of_b),
      )

  -- a symbol that is counted twice
  counted : (a : Shape) → Contains shapes a → a.thing.what ≡ what.Symbol → 2 ≤ count_from 0 (cells_from (drop (term_at lines a.thing.line + 1) lines)) a.thing.text → 0 < a.place.mark
  counted a c is two = subst (λ n. 0 < n) (sym (mark_at a c is)) (counted_is_marked (cells_from (drop (term_at lines a.thing.line + 1) lines)) a.thing.text two)

  -- two cells of one row
  in_one_row : (a b : Shape) → AreOfOneTerm lines shapes a b → 0 < a.thing.line → a.thing.line ≡ b.thing.line → a.thing.word < b.thing.word → a.thing.text ≡ b.thing.text → 0 < a.place.mark
  in_one_row a b two pos line less same =
      let o = origin a two.first in
      let p = origin b two.second in
      let d = symbol_drawn o.line.kind _ a.thing.word o.word (o.drawn ∙ ap (λ z. Some z) two.first_is) in
      let one_line_of : Some o.line ≡ Some p.line = sym o.at ∙ ap (slice_get lines) line ∙ p.at in
      let same_line : o.line ≡ p.line = cc in
      let stands : slice_get o.line.words b.thing.word ≡ Some p.word = ap (λ (z : Line). slice_get z.words b.thing.word) same_line ∙ p.stands in
      let shows_a : symbol_of o.word ≡ a.thing.text = sym (o.shows ∙ ap (λ z. text_shown z o.word) two.first_is) in
      let shows_b : symbol_of p.word ≡ a.thing.text = sym (p.shows ∙ ap (λ z. text_shown z p.word) two.second_is) ∙ sym same in
      let n = two_of_row o.line a.thing.word b.thing.word o.word p.word a.thing.text d.0 d.1 less o.stands stands shows_a shows_b in
      counted a two.first two.first_is (one_line lines (term_at lines a.thing.line) a.thing.line o.line a.thing.text 2 pos o.at d.0 refl n)

  -- two cells of two rows
  in_two_rows : (a b : Shape) → AreOfOneTerm lines shapes a b → 0 < a.thing.line → a.thing.line < b.thing.line → a.thing.text ≡ b.thing.text → 0 < a.place.mark
  in_two_rows a b two pos less same =
      let o = origin a two.first in
      let p = origin b two.second in
      let d = symbol_drawn o.line.kind _ a.thing.word o.word (o.drawn ∙ ap (λ z. Some z) two.first_is) in
      let f = symbol_drawn p.line.kind _ b.thing.word p.word (p.drawn ∙ ap (λ z. Some z) two.second_is) in
      let shows_a : symbol_of o.word ≡ a.thing.text = sym (o.shows ∙ ap (λ z. text_shown z o.word) two.first_is) in
      let shows_b : symbol_of p.word ≡ a.thing.text = sym (p.shows ∙ ap (λ z. text_shown z p.word) two.second_is) ∙ sym same in
      let n = one_of_row o.line a.thing.word o.word a.thing.text d.0 d.1 o.stands shows_a in
      let m = one_of_row p.line b.thing.word p.word a.thing.text f.0 f.1 p.stands shows_b in
      counted a two.first two.first_is
      (two_lines lines (term_at lines a.thing.line) a.thing.line b.thing.line o.line p.line a.thing.text pos less o.at p.at d.0 f.0 refl (sym two.of_term) n m)

  other_way : (a b : Shape) → AreOfOneTerm lines shapes a b → AreOfOneTerm lines shapes b a
  other_way a b two = record { first = two.second; second = two.first; first_is = two.second_is; second_is = two.first_is; of_term = sym two.of_term }

  -- from the mark of the other
  by_other : (a b : Shape) → AreOfOneTerm lines shapes a b → a.thing.text ≡ b.thing.text → 0 < b.place.mark → 0 < a.place.mark
  by_other a b two same h = subst (λ n. 0 < n) (sym ((marks a b two).0 same)) h

  shared : SharedAreMarked lines shapes
  shared a b two pos_a pos_b differ same =
      ⊎_elim (λ (less : a.thing.line < b.thing.line). in_two_rows a b two pos_a less same)
      (λ (rest : b.thing.line ≤ a.thing.line). ⊎_elim (λ (less : b.thing.line < a.thing.line). by_other a b two same (in_two_rows b a (other_way a b two) pos_b less (sym same)))
      (λ (most : a.thing.line ≤ b.thing.line).
      let line : a.thing.line ≡ b.thing.line = omega arith in
      let word : a.thing.word ≢ b.thing.word = ⊎_elim (λ other. absurd (other line)) (λ other. other) differ in
      ⊎_elim (λ (less : a.thing.word < b.thing.word). in_one_row a b two pos_a line less same)
      (λ (far : b.thing.word ≤ a.thing.word). let less : b.thing.word < a.thing.word = omega (arith, word, far) in by_other a b two same (in_one_row b a (other_way a b two) pos_b (sym line) less (sym same)))
      (below_or b.thing.word a.thing.word)) (below_or a.thing.line b.thing.line)) (below_or b.thing.line a.thing.line)

  kept : KeptAreDark lines shapes
  kept s line c is at =
      let here : or_false (slice_get (lights_from lines) s.thing.line) ≡ is_light line (drop (s.thing.line + 1) lines) = ap or_false (light_at lines s.thing.line line at) in
      ⊎_elim (λ row. ap (λ p. p.light) (row_at s c row) ∙ here) (λ symbol. ap (λ p. p.light) (symbol_at s c symbol) ∙ here) is

  lanes : LanesDiffer shapes
  lanes a b c d is_a is_b same less =
      let table : table_at b ≡ table_at a = ap (λ i. table_of left lines (term_at lines i)) (sym same) in
      let words : words_at lines b.thing.line ≡ words_at lines a.thing.line = ap (words_at lines) (sym same) in
      let o = origin a c in
      let start = plus (table_at a).right 24 in
      let ws = words_at lines a.thing.line in
      let stands : slice_get ws a.thing.word ≡ Some o.word = ap (λ z. slice_get (words_or_none z) a.thing.word) o.at ∙ o.stands in
      let from : 0 + a.thing.word ≡ a.thing.word = omega arith in
      let arrow : is_arrow (0 + a.thing.word) o.word ≡ true = ap (λ n. is_arrow n o.word) from ∙ fold_drawn o.line.kind _ a.thing.word o.word (o.drawn ∙ ap (λ z. Some z) is_a) in
      let below : start ≤ 2 ^ 32 - 1 = omega arith in
      let far = lane_apart start 0 a.thing.word b.thing.word ws o.word below stands arrow less in
      let of_a : a.place.lane ≡ lane_from start 0 (take a.thing.word ws) = ap (λ p. p.lane) (fold_at a c is_a) in
      let of_b : b.place.lane ≡ lane_from start 0 (take b.thing.word ws) =
      ap (λ p. p.lane) (fold_at b d is_b) ∙ ap (λ t. lane_from (plus t.right 24) 0 (take b.thing.word (words_at lines b.thing.line))) table ∙ ap (λ z. lane_from start 0 (take b.thing.word z)) words in
      let end = (lane_up start 0 (take b.thing.word ws) below).1 in
      apart a.place.lane b.place.lane 18 (subst (λ x. plus x 18 ≤ b.place.lane) (sym of_a) (subst (λ y. plus (lane_from start 0 (take a.thing.word ws)) 18 ≤ y) (sym of_b) far)) (subst (λ y. y ≤ 2 ^ 32 - 1) (sym of_b) end)

  rows : RowsDiffer shapes
  rows a b c d is_a is_b less =
      let o = origin b d in
      let row = (row_drawn o.line.kind _ b.thing.word o.word (o.drawn ∙ ap (λ z. Some z) is_b)).0 in
      let start : 10 ≤ 2 ^ 32 - 1 = omega arith in
      let far = height_apart 10 20 lines a.thing.line b.thing.line o.line start o.at (row_step o.line row) less in
      let of_a : a.place.y ≡ height_in (heights_from 10 lines) a.thing.line = ap (λ p. p.y) (row_at a c is_a) in
      let of_b : b.place.y ≡ height_in (heights_from 10 lines) b.thing.line = ap (λ p. p.y) (row_at b d is_b) in
      apart a.place.y b.place.y 20 (subst (λ x. plus x 20 ≤ b.place.y) (sym of_a) (subst (λ y. plus (height_in (heights_from 10 lines) a.thing.line) 20 ≤ y) (sym of_b) far))
      (subst (λ y. y ≤ 2 ^ 32 - 1) (sym of_b) (height_below 10 lines b.thing.line))

  -- where a symbol begins
  far_x : (table : Table) (k : ℕ) (word : List ℕ) → 6 ≤ k → row_x left table k word ≡ column_from table.first table.columns (name_of word)
  far_x table k word far =
      let column = column_from table.first table.columns (name_of word) in
      let past : 4 ≤ k = omega (arith, far) in
      let four : k ≢ 4 = omega (arith, far) in
      let five : k ≢ 5 = omega (arith, far) in
      ap (λ b. cond b left (cond (k == 4) table.variable (cond (k == 5) table.object column))) (le-ltb k 4 past)
      ∙ ap (λ b. cond b table.variable (cond (k == 5) table.object column)) (ne_eqb k 4 four)
      ∙ ap (λ b. cond b table.object column) (ne_eqb k 5 five)

  symbol_x : (s : Shape) → Contains shapes s → s.thing.what ≡ what.Symbol → s.place.x ≡ column_from (table_at s).first (table_at s).columns (attribute_at lines s)
  symbol_x s c is =
      let o = origin s c in
      let d : (is_row o.line.kind ≡ true) × (6 ≤ s.thing.word) = symbol_drawn o.line.kind _ s.thing.word o.word (o.drawn ∙ ap (λ z. Some z) is) in
      ap (λ p. p.x) (symbol_at s c is) ∙ far_x (table_at s) s.thing.word (word_in (words_at lines s.thing.line) s.thing.word) d.1

  headings : (helps more : List Help) → helps ≡ headings_from left (heights_from 10 lines) lines 0 lines ++ more → HeadingsStand lines helps shapes
  headings helps more e s c is pos =
      let hs = heights_from 10 lines in
      let t = term_at lines s.thing.line in
      let o = origin s c in
      let d : (is_row o.line.kind ≡ true) × (6 ≤ s.thing.word) = symbol_drawn o.line.kind _ s.thing.word o.word (o.drawn ∙ ap (λ z. Some z) is) in
      let y = plus (height_in hs t) 20 in
      let all = headings_from left hs lines 0 lines in
      let name = attribute_at lines s in
      let told : name_of o.word ≡ name = ap name_of (sym (word_of s o)) in
      let heading = heading_of_cell left hs lines t s.thing.line s.thing.word o.line o.word pos o.at d.0 d.1 o.stands refl in
      let start : 10 ≤ 2 ^ 32 - 1 = omega arith in
      let below : y ≤ s.place.y =
      subst (λ z. y ≤ z) (sym (ap (λ p. p.y) (symbol_at s c is))) (height_apart 10 20 lines t s.thing.line o.line start o.at (row_step o.line d.0) (term_above lines s.thing.line o.line pos o.at d.0)) in
      let named : Contains all (Heading (column_from (table_at s).first (table_at s).columns name) y name) =
      subst (λ n. Contains all (Heading (column_from (table_at s).first (table_at s).columns n) y n)) told heading in
      let over : Contains all (Heading s.place.x y name) = subst (λ z. Contains all (Heading z y name)) (sym (symbol_x s c is)) named in
      (y, below, subst (λ (z : List Help). Contains z (Heading s.place.x y name)) (sym e) (Contains-append_left all more (Heading s.place.x y name) over))

  -- the cells of a symbol's term have its cell
  cell_there : (s : Shape) → Contains shapes s → s.thing.what ≡ what.Symbol → 0 < s.thing.line
      → Contains (cells_from (drop (term_at lines s.thing.line + 1) lines)) (record { name = attribute_at lines s; symbol = s.thing.text })
  cell_there s c is pos =
      let t = term_at lines s.thing.line in
      let cs = cells_from (drop (t + 1) lines) in
      let o = origin s c in
      let d : (is_row o.line.kind ≡ true) × (6 ≤ s.thing.word) = symbol_drawn o.line.kind _ s.thing.word o.word (o.drawn ∙ ap (λ z. Some z) is) in
      let cell : Contains cs (cell_of o.word) = cell_of_term lines t s.thing.line o.line (cell_of o.word) pos o.at d.0 refl (cell_of_row o.line s.thing.word o.word d.0 d.1 o.stands) in
      let shows : symbol_of o.word ≡ s.thing.text = sym (o.shows ∙ ap (λ z. text_shown z o.word) is) in
      let told : name_of o.word ≡ attribute_at lines s = ap name_of (sym (word_of s o)) in
      subst (λ n. Contains cs (record { name = n; symbol = s.thing.text })) told (subst (λ z. Contains cs (record { name = name_of o.word; symbol = z })) shows cell)

  -- columns begin before the limit
  first_low : (t : ℕ) → (table_of left lines t).first ≤ 2 ^ 32 - 1
  first_low t =
      let rows = drop (t + 1) lines in
      let low : plus (plus (plus left (front_from 0 rows 3)) (front_from 0 rows 4)) (front_from 0 rows 5) ≤ 2 ^ 32 - 1 = omega arith in
      low

  -- the symbol of one attribute ends before that of the other begins
  ends_before : (a b : Shape) → Contains shapes a → Contains shapes b → a.thing.what ≡ what.Symbol → b.thing.what ≡ what.Symbol → 0 < a.thing.line → term_at lines a.thing.line ≡ term_at lines b.thing.line
      → plus (column_from (table_at a).first (table_at a).columns (attribute_at lines a)) (room_from 0 (cells_from (drop (term_at lines a.thing.line + 1) lines)) (attribute_at lines a))
      ≤ column_from (table_at a).first (table_at a).columns (attribute_at lines b) → EndsBefore a b
  ends_before a b c d is_a is_b pos same h =
      let cs = cells_from (drop (term_at lines a.thing.line + 1) lines) in
      let table : table_at b ≡ table_at a = ap (table_of left lines) (sym same) in
      let of_a = symbol_x a c is_a in
      let of_b : b.place.x ≡ column_from (table_at a).first (table_at a).columns (attribute_at lines b) = symbol_x b d is_b ∙ ap (λ (t : Table). column_from t.first t.columns (attribute_at lines b)) table in
      let width : shown_width a.thing.text ≤ room_from 0 cs (attribute_at lines a) = symbol_fits 0 cs (record { name = attribute_at lines a; symbol = a.thing.text }) (cell_there a c is_a pos) in
      let first = first_low (term_at lines a.thing.line) in
      let end : column_from (table_at a).first (table_at a).columns (attribute_at lines b) ≤ 2 ^ 32 - 1 = (column_up cs (table_at a).first (names_with [] cs) (attribute_at lines b) first).1 in
      let far : plus (column_from (table_at a).first (table_at a).columns (attribute_at lines a)) (shown_width a.thing.text) ≤ column_from (table_at a).first (table_at a).columns (attribute_at lines b) =
      plus_less (column_from (table_at a).first (table_at a).columns (attribute_at lines a)) (shown_width a.thing.text) (room_from 0 cs (attribute_at lines a)) (column_from (table_at a).first (table_at a).columns (attribute_at lines b)) width h in
      apart a.place.x b.place.x (shown_width a.thing.text) (subst (λ x. plus x (shown_width a.thing.text) ≤ b.place.x) (sym of_a) (subst (λ y. plus (column_from (table_at a).first (table_at a).columns (attribute_at lines a)) (shown_width a.thing.text) ≤ y) (sym of_b) far))
      (subst (λ y. y ≤ 2 ^ 32 - 1) (sym of_b) end)

  columns : ColumnsDiffer lines shapes
  columns a b two pos_a pos_b other =
      let t = term_at lines a.thing.line in
      let cs = cells_from (drop (t + 1) lines) in
      let names = names_with [] cs in
      let in_a : Contains names (attribute_at lines a) = cell_named [] cs (record { name = attribute_at lines a; symbol = a.thing.text }) (cell_there a two.first two.first_is pos_a) in
      let there : Contains cs (record { name = attribute_at lines b; symbol = b.thing.text }) =
      subst (λ n. Contains (cells_from (drop (n + 1) lines)) (record { name = attribute_at lines b; symbol = b.thing.text })) (sym two.of_term) (cell_there b two.second two.second_is pos_b) in
      let in_b : Contains names (attribute_at lines b) = cell_named [] cs (record { name = attribute_at lines b; symbol = b.thing.text }) there in
      let first = first_low (term_at lines a.thing.line) in
      let table : table_at a ≡ table_at b = ap (table_of left lines) two.of_term in
      let cells_b : cs ≡ cells_from (drop (term_at lines b.thing.line + 1) lines) = ap (λ n. cells_from (drop (n + 1) lines)) two.of_term in
      ⊎_elim (λ h. inl (ends_before a b two.first two.second two.first_is two.second_is pos_a two.of_term h))
      (λ h. inr (ends_before b a two.second two.first two.second_is two.first_is pos_b (sym two.of_term)
      (subst (λ zs. plus (column_from (table_at b).first (table_at b).columns (attribute_at lines b)) (room_from 0 zs (attribute_at lines b)) ≤ column_from (table_at b).first (table_at b).columns (attribute_at lines a)) cells_b
      (subst (λ (z : Table). plus (column_from z.first z.columns (attribute_at lines b)) (room_from 0 cs (attribute_at lines b)) ≤ column_from z.first z.columns (attribute_at lines a)) table h))))
      (apart_in cs (table_at a).first names (attribute_at lines a) (attribute_at lines b) first other in_a in_b)

  -- a source
  source_at : (s : Shape) → Contains shapes s → s.thing.what ≡ what.Source → s.place ≡ source_place (table_at s) lines (heights_from 10 lines) s.thing.word (words_at lines s.thing.line)
  source_at s c is = subst (λ w. StandsAs w lines (heights_from 10 lines) (lights_from lines) left (table_at s) s.thing s.place) is (laid s c)

  sources : RowsStandBehind lines → SourcesStand lines shapes
  sources behind s row r c d is is_row_of same =
      let t = term_at lines s.thing.line in
      let hs = heights_from 10 lines in
      let o = origin row d in
      let e : (is_row o.line.kind ≡ true) × (row.thing.word ≡ 3) = row_drawn o.line.kind _ row.thing.word o.word (o.drawn ∙ ap (λ z. Some z) is_row_of.is) in
      let shows : row.thing.text ≡ o.word = o.shows ∙ ap (λ z. text_shown z o.word) is_row_of.is in
      let third : word_in o.line.words 3 ≡ row.thing.text = ap (word_in o.line.words) (sym e.1) ∙ ap word_or_none o.stands ∙ sym shows in
      let told = word_in (words_at lines s.thing.line) 3 in
      let place : t + 1 + row_from 0 (drop (t + 1) lines) told ≡ row.thing.line =
      row_found lines t row.thing.line r o.line told behind o.at e.0 is_row_of.of_term (third ∙ same) (ap (is_decimal r) (sym same) ∙ is_row_of.tells) in
      ap (λ p. p.y) (source_at s c is) ∙ ap (or_else 0) (slice_get-drop (t + 1) hs (row_from 0 (drop (t + 1) lines) told)) ∙ ap (height_in hs) place ∙ sym (ap (λ p. p.y) (row_at row d is_row_of.is))

  all_kept : KeepsPromises lines shapes
  all_kept = record { marks = marks; shared = shared; kept = kept; lanes = lanes; rows = rows; columns = columns }

pub keeps_promises : (lines : List Line) (l : Layout) (shapes : List Shape) → IsLayoutOf lines l → All (IsLaid l) shapes → StandOnce lines (things_in_shapes shapes) → KeepsPromises lines shapes
keeps_promises lines l shapes is laid once = all_kept lines l.left shapes (λ s c. laid_over lines l s is (All-contains (IsLaid l) shapes s laid c)) once

pub sources_stand : (lines : List Line) (l : Layout) (shapes : List Shape) → IsLayoutOf lines l → All (IsLaid l) shapes → StandOnce lines (things_in_shapes shapes) → RowsStandBehind lines → SourcesStand lines shapes
sources_stand lines l shapes is laid once = sources lines l.left shapes (λ s c. laid_over lines l s is (All-contains (IsLaid l) shapes s laid c)) once

pub arrows_join : (lines : List Line) (l : Layout) (shapes : List Shape) → IsLayoutOf lines l → All (IsLaid l) shapes → StandOnce lines (things_in_shapes shapes) → RowsStandBehind lines → ArrowsJoin lines shapes
arrows_join lines l shapes is laid once = arrows lines l.left shapes (λ s c. laid_over lines l s is (All-contains (IsLaid l) shapes s laid c)) once

pub headings_stand : (lines : List Line) (l : Layout) (shapes : List Shape) (helps : List Help) → IsLayoutOf lines l → All (IsLaid l) shapes → StandOnce lines (things_in_shapes shapes)
    → (more : List Help) → helps ≡ headings_from l.left l.heights l.lines.now 0 l.lines.now ++ more → HeadingsStand lines helps shapes
headings_stand lines l shapes helps is laid once more e =
    let over : helps ≡ headings_from l.left (heights_from 10 lines) lines 0 lines ++ more =
    e ∙ ap (λ hs. headings_from l.left hs l.lines.now 0 l.lines.now ++ more) is.heights ∙ ap (λ ls. headings_from l.left (heights_from 10 lines) ls 0 ls ++ more) is.of_lines in
    headings lines l.left shapes (λ s c. laid_over lines l s is (All-contains (IsLaid l) shapes s laid c)) once helps more over
