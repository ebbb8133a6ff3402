-- Rows of codes that are filled row by row.
use Rattle.std.proofs.Common.{◌≡◌, ◌<◌, ◌+◌, ℕ, List, length, get_or, [], sym, ap, subst, ◌∙◌}
use Rattle.std.proofs.lemmas.List.{get_or_default}
use Rattle.su_base.specs.declared.values.Value.{Value}
use Rattle.su_base.proofs.Items.{get_or-push_each, length-push}
use Rattle.su_reduce.specs.declared.edges.Edge.{Edge}
use Rattle.su_reduce.specs.Left.{edge_at}
use Rattle.su_reduce.specs.Sheets.{Rows}
use Rattle.su_reduce.specs.Codes.{Extends}
use Rattle.su_reduce.specs.inside.Coded.{AreRowsOf, IsCodeOf, IsPushed, IsSheetOf, sheet_at}
use Rattle.su_reduce.specs.inside.Marks.{row_at}
use Rattle.su_reduce.proofs.CodeExtensions.{below_up, decode_row}
use Rattle.su_reduce.proofs.Candidates.{edge_is}

module _ (olds news : List Value) (more : Extends olds news) where
  pub code_up : (row : List Value) (codes : List ℕ) → IsCodeOf olds row codes → IsCodeOf news row codes
  code_up row codes are = record {
    below = below_up codes (length olds) (length news) more.longer are.below;
    is = decode_row olds news more codes are.below ∙ are.is;
  }

  pub rows_up : (rows : List (List Value)) (width n : ℕ) (sheet : Rows) → AreRowsOf olds rows width n sheet → AreRowsOf news rows width n sheet
  rows_up rows width n sheet are = record {
    same_width = are.same_width;
    same_length = are.same_length;
    each = λ p l w. code_up (row_at rows p) (get_or sheet.rows p []) (are.each p l w);
  }

  -- one more row
  pub rows_more : (rows : List (List Value)) (width n : ℕ) (old new : Rows) (row : List Value) → row ≡ row_at rows n → AreRowsOf olds rows width n old → IsPushed news row old new → AreRowsOf news rows width (n + 1) new
  rows_more rows width n old new row is so_far pushed = record {
    same_width = pushed.width ∙ so_far.same_width;
    same_length = ap (λ (rs : List (List ℕ)). length rs) pushed.rows ∙ length-push old.rows pushed.codes n so_far.same_length;
    each = subst (λ (rs : List (List ℕ)). (p : ℕ) → p < n + 1 → length (row_at rows p) ≡ width → IsCodeOf news (row_at rows p) (get_or rs p [])) (sym pushed.rows)
        (get_or-push_each (λ (p : ℕ) (codes : List ℕ). length (row_at rows p) ≡ width → IsCodeOf news (row_at rows p) codes) [] old.rows pushed.codes n so_far.same_length
        (λ p l w. code_up (row_at rows p) (get_or old.rows p []) (so_far.each p l w))
        (λ w. subst (λ (r : List Value). IsCodeOf news r pushed.codes) is (pushed.coded (ap (λ (r : List Value). length r) is ∙ w ∙ sym so_far.same_width))));
  }

-- the sheet and the edge that are read at n
pub sheet_is : (values : List Value) (edges : List Edge) (sheets : List Rows) (n : ℕ) (edge : Edge) (sheet : Rows) → n < length edges → n < length sheets → edge ≡ get_or edges n edge → sheet ≡ get_or sheets n sheet → IsSheetOf values (edge_at edges n) (sheet_at sheets n) → IsSheetOf values edge sheet
sheet_is values edges sheets n edge sheet l m is at are =
    subst (λ (e : Edge). IsSheetOf values e sheet) (sym (edge_is edges n edge l is))
    (subst (λ (s : Rows). IsSheetOf values (edge_at edges n) s) (sym (at ∙ get_or_default sheets n sheet (record { width = 0; rows = [] }) m)) are)
