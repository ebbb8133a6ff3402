-- A file, record after record.
use Rattle.std.proofs.Common.{◌≡◌, ◌∙◌, ◌+◌, ◌&&◌, ◌==◌, ℕ, suc, Bool, true, false, List, [], ◌∷◌, ◌++◌, length, drop, get_or, Some, Result, Ok, Err, refl, sym, ap, arith, append_assoc, add-one, leb}
use Rattle.std.proofs.lemmas.List.{append-nil}
use Rattle.std.proofs.lemmas.Bool.{le-leb}
use Rattle.std.specs.Cmp.Lexicographic.{pointwise}
use Rattle.std.specs.Prelude.{slice_get}
use Rattle.csv.specs.Reading.{is_bom, strip_bom}
use Rattle.su_base.specs.declared.values.Value.{Value}
use Rattle.su_base.specs.declared.values.Column.{Column}
use Rattle.su_csv.specs.declared.faults.CsvFault.{CsvFault}
use Rattle.su_csv.specs.declared.faults.CsvFault.TheVariants.{TooMany}
use Rattle.su_csv.specs.File.{is_header, row_first, rows_from}
use Rattle.su_csv.specs.Record.{record_limit, row_or_fault}
use Rattle.su_csv.proofs.RowSoFar.{drop-at}

-- the mark at the start of a text
pub with-mark : (bs : List ℕ) → (leb 3 (length bs) && is_bom (get_or bs 0 0) (get_or bs 1 0) (get_or bs 2 0)) ≡ true → strip_bom bs ≡ drop 3 bs
unfolding strip_bom
with-mark [] h = absurd (cc h)
with-mark (a ∷ []) h = absurd (cc h)
with-mark (a ∷ b ∷ []) h = absurd (cc h)
with-mark (a ∷ b ∷ c ∷ rest) h = let long : leb 3 (length (a ∷ b ∷ c ∷ rest)) ≡ true = le-leb 3 (length (a ∷ b ∷ c ∷ rest)) (omega arith) in rw (rw long at h) refl

pub without-mark : (bs : List ℕ) → (leb 3 (length bs) && is_bom (get_or bs 0 0) (get_or bs 1 0) (get_or bs 2 0)) ≡ false → strip_bom bs ≡ bs
unfolding strip_bom
without-mark [] h = refl
without-mark (a ∷ []) h = refl
without-mark (a ∷ b ∷ []) h = refl
without-mark (a ∷ b ∷ c ∷ rest) h = let long : leb 3 (length (a ∷ b ∷ c ∷ rest)) ≡ true = le-leb 3 (length (a ∷ b ∷ c ∷ rest)) (omega arith) in rw (rw long at h) refl

-- rows in front of those that follow
abbrev pub behind : List (List Value) → Result (List (List Value)) CsvFault → Result (List (List Value)) CsvFault
behind rows (Ok more) = Ok (rows ++ more)
behind rows (Err fault) = Err fault

pub behind-none : (r : Result (List (List Value)) CsvFault) → behind [] r ≡ r
behind-none (Ok more) = refl
behind-none (Err fault) = refl

behind-one : (rows : List (List Value)) (row : List Value) (r : Result (List (List Value)) CsvFault) → behind rows (row_first row r) ≡ behind (rows ++ row ∷ []) r
behind-one rows row (Ok more) = ap Ok (sym (append_assoc rows (row ∷ []) more))
behind-one rows row (Err fault) = refl

module _ (columns : List Column) (before : ℕ) (rows : List (List Value)) (fields : List (List ℕ)) (old new : List (List (List ℕ))) (took : old ≡ fields ∷ new) where
  -- one more row
  pub more-rows : (row : List Value) (all : Result (List (List Value)) CsvFault) → row_or_fault columns (before + 1) fields ≡ Ok row
      → all ≡ behind rows (rows_from columns (before + 1) old) → all ≡ behind (rows ++ row ∷ []) (rows_from columns (before + 1 + 1) new)
  more-rows row all is h = h ∙ rw (took, is, add-one (before + 1)) (behind-one rows row (rows_from columns (suc (before + 1)) new))

  -- a fault
  pub first-fault : (fault : CsvFault) (all : Result (List (List Value)) CsvFault) → row_or_fault columns (before + 1) fields ≡ Err fault
      → all ≡ behind rows (rows_from columns (before + 1) old) → all ≡ Err fault
  first-fault fault all is h = h ∙ rw (took, is) refl

  pub too-many : (all : Result (List (List Value)) CsvFault) → before ≡ record_limit → all ≡ behind rows (rows_from columns (before + 1) old) → all ≡ Err TooMany
  too-many all at h = first-fault TooMany all (rw at refl) h

pub last-row : (columns : List Column) (before : ℕ) (rows : List (List Value)) (old : List (List (List ℕ))) (all : Result (List (List Value)) CsvFault) → old ≡ []
    → all ≡ behind rows (rows_from columns (before + 1) old) → all ≡ Ok rows
last-row columns before rows old all none h = h ∙ rw (none, append-nil rows) refl

-- one name of a header, and then the others
module _ (columns : List Column) (fields : List (List ℕ)) (i : ℕ) (column : Column) (field : List ℕ) (at-column : slice_get columns i ≡ Some column) (at-field : slice_get fields i ≡ Some field) where
  pub same-name : (all : Bool) → pointwise ◌==◌ field column.name ≡ true → all ≡ is_header (drop i columns) (drop i fields) → all ≡ is_header (drop (i + 1) columns) (drop (i + 1) fields)
  same-name all same h = rw (add-one i) (rw (drop-at columns i column at-column, drop-at fields i field at-field, same) at h)

  pub other-name : (all : Bool) → pointwise ◌==◌ field column.name ≡ false → all ≡ is_header (drop i columns) (drop i fields) → all ≡ false
  other-name all other h = rw (drop-at columns i column at-column, drop-at fields i field at-field, other) at h
