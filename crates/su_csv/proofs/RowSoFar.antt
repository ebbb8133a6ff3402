-- The row of a record, one column after another.
use Rattle.std.proofs.Common.{◌≡◌, ◌+◌, ◌-◌, ◌≤◌, ◌&&◌, ◌==◌, ℕ, zero, suc, Bool, true, false, List, [], ◌∷◌, ◌++◌, length, drop, Option, Some, None, Ok, Err, refl, sym, ap, ◌∙◌, append_assoc, add-one, eq-eqb}
use Rattle.std.proofs.lemmas.List.{append-nil, drop_all}
use Rattle.std.proofs.lemmas.Bool.{le-ltb}
use Rattle.std.proofs.Math.Seq.{drop-cons}
use Rattle.std.proofs.lemmas.Option.{get_or_from_slice_get, slice_get_within}
use Rattle.std.specs.Prelude.{slice_get, is_none, MatchOption}
use Rattle.csv.specs.Records.{AllText, cut_from, field_at}
use Rattle.std.specs.Str.{IsAscii}
use Rattle.std.proofs.lemmas.Str.{IsAscii-drop, IsAscii-take, IsUtf8-from_ascii}
use Rattle.su_base.specs.declared.values.Value.{Value}
use Rattle.su_base.specs.declared.values.Column.{Column}
use Rattle.su_base.specs.declared.values.Kind.{Kind}
use Rattle.su_base.specs.declared.values.Kind.TheVariants.{Int as IntKind, Text as TextKind}
use Rattle.su_csv.specs.declared.faults.CsvFault.{CsvFault}
use Rattle.su_csv.specs.declared.faults.CsvFault.TheVariants.{Width, NotInt, NotText}
use Rattle.su_csv.specs.Field.{field_value}
use Rattle.su_csv.specs.Record.{place_without, record_limit, row_from_fields, row_or_fault, unless_without}
use Rattle.su_base.specs.Value.{same_kind}

-- `csv`'s word for the field at a place
pub field-at : (fields : List (List ℕ)) (i : ℕ) → field_at fields i ≡ slice_get fields i
unfolding field_at
field-at [] zero = refl
field-at [] (suc i) = refl
field-at (f ∷ fs) zero = refl
field-at (f ∷ fs) (suc i) = field-at fs i

-- what stands from a place on
pub drop-at : {A : Type 0} (xs : List A) (i : ℕ) (x : A) → slice_get xs i ≡ Some x → drop i xs ≡ x ∷ drop (suc i) xs
drop-at xs i x h = drop-cons xs i x (slice_get_within xs i x h) ∙ ap (λ y. y ∷ drop (suc i) xs) (get_or_from_slice_get xs i x x h)

-- the value that a row got at its end, where one was found
pub got : (sought : Option Value) (found : Bool) (old new : List Value) → MatchOption sought (found ≡ false) (λ value. (found ≡ true) × (new ≡ old ++ value ∷ []))
    → found ≡ true → (value : Value) × ((sought ≡ Some value) × (new ≡ old ++ value ∷ []))
got None found old new is has-one = absurd (cc (is, has-one))
got (Some value) found old new is has-one = (value, (refl, is.1))

pub got-none : (sought : Option Value) (found : Bool) (old new : List Value) → MatchOption sought (found ≡ false) (λ value. (found ≡ true) × (new ≡ old ++ value ∷ []))
    → found ≡ false → sought ≡ None
got-none None found old new is other = refl
got-none (Some value) found old new is other = absurd (cc (is.0, other))

-- a field with a value is not the place that is sought
pub has : (kind other : Kind) (field : List ℕ) (value : Value) → field_value other field ≡ Some value → (same_kind kind other && is_none (field_value kind field)) ≡ false
has IntKind IntKind field value h = rw h refl
has IntKind TextKind field value h = refl
has TextKind IntKind field value h = refl
has TextKind TextKind field value h = rw h refl

lacks : (kind : Kind) (field : List ℕ) → field_value kind field ≡ None → (same_kind kind kind && is_none (field_value kind field)) ≡ true
lacks IntKind field h = rw h refl
lacks TextKind field h = rw h refl

module _ (columns : List Column) (fields : List (List ℕ)) (i : ℕ) (column : Column) (field : List ℕ) (at-column : slice_get columns i ≡ Some column) (at-field : slice_get fields i ≡ Some field) where
  -- the place that is sought is not this one
  pub sought-later : (kind : Kind) (found : Option ℕ) → (same_kind kind column.kind && is_none (field_value kind field)) ≡ false
      → found ≡ place_without kind i (drop i columns) (drop i fields) → found ≡ place_without kind (i + 1) (drop (i + 1) columns) (drop (i + 1) fields)
  sought-later kind found other h = rw (add-one i) (rw (drop-at columns i column at-column, drop-at fields i field at-field, other) at h)

  -- it is this one
  pub sought-here : (kind : Kind) (found : Option ℕ) → (same_kind kind column.kind && is_none (field_value kind field)) ≡ true
      → found ≡ place_without kind i (drop i columns) (drop i fields) → found ≡ Some i
  sought-here kind found this h = rw (drop-at columns i column at-column, drop-at fields i field at-field, this) at h

  -- one more value
  pub one-value : (value : Value) (row all : List Value) → field_value column.kind field ≡ Some value
      → row ++ row_from_fields (drop i columns) (drop i fields) ≡ all → (row ++ value ∷ []) ++ row_from_fields (drop (i + 1) columns) (drop (i + 1) fields) ≡ all
  one-value value row all is h =
      rw (add-one i, append_assoc row (value ∷ []) (row_from_fields (drop (suc i) columns) (drop (suc i) fields)))
      (rw (drop-at columns i column at-column, drop-at fields i field at-field, is) at h)

  pub still-sought : (kind : Kind) (value : Value) (found : Option ℕ) → field_value column.kind field ≡ Some value
      → found ≡ place_without kind i (drop i columns) (drop i fields) → found ≡ place_without kind (i + 1) (drop (i + 1) columns) (drop (i + 1) fields)
  still-sought kind value found is h = sought-later kind found (has kind column.kind field value is) h

  -- where the field has no value, the record's fault is at this place, or at one of a number
  pub fault-here : (number : ℕ) (numbers texts : Option ℕ) (row : List Value) (fault : CsvFault) → field_value column.kind field ≡ None
      → numbers ≡ place_without IntKind i (drop i columns) (drop i fields) → texts ≡ place_without TextKind i (drop i columns) (drop i fields)
      → MatchOption numbers (fault ≡ NotText number i) (λ place. fault ≡ NotInt number place) → unless_without number numbers texts row ≡ Err fault
  fault-here number (Some place) texts row fault none at-numbers at-texts is = ap Err (sym is)
  fault-here number None texts row fault none at-numbers at-texts is =
      by-kind column.kind none (λ e. sought-here IntKind None e at-numbers) (λ e. sought-here TextKind texts e at-texts)
    where
      by-kind : (kind : Kind) → field_value kind field ≡ None → ((same_kind IntKind kind && is_none (field_value IntKind field)) ≡ true → None ≡ Some i) → ((same_kind TextKind kind && is_none (field_value TextKind field)) ≡ true → texts ≡ Some i) → unless_without number None texts row ≡ Err fault
      by-kind IntKind none int text = absurd (cc (int (lacks IntKind field none)))
      by-kind TextKind none int text = rw (text (lacks TextKind field none)) (ap Err (sym is))

-- the whole record, of the columns' width and of a number that is not too large
pub in-full : (columns : List Column) (fields : List (List ℕ)) (number : ℕ) → number ≤ record_limit → length fields ≡ length columns
    → row_or_fault columns number fields ≡ unless_without number (place_without IntKind 0 columns fields) (place_without TextKind 0 columns fields) (row_from_fields columns fields)
in-full columns fields number low same = rw (le-ltb record_limit number low, eq-eqb (length fields) (length columns) same) refl

pub at-end : (columns : List Column) (fields : List (List ℕ)) (n : ℕ) (number : ℕ) (numbers texts : Option ℕ) (row all : List Value) → length columns ≤ n
    → numbers ≡ place_without IntKind n (drop n columns) (drop n fields) → texts ≡ place_without TextKind n (drop n columns) (drop n fields) → row ++ row_from_fields (drop n columns) (drop n fields) ≡ all
    → unless_without number numbers texts all ≡ Ok row
at-end columns fields n number numbers texts row all long at-numbers at-texts built =
    let done : drop n columns ≡ [] = drop_all n columns long in
    rw (rw done at at-numbers, rw done at at-texts) (ap Ok (sym (rw (done, append-nil row) at built)))

pub other-width : (columns : List Column) (fields : List (List ℕ)) (number : ℕ) → number ≤ record_limit → (length fields == length columns) ≡ false → row_or_fault columns number fields ≡ Err (Width number)
other-width columns fields number low other = rw (le-ltb record_limit number low, other) refl

-- each part of a text of ASCII is text
pub ascii-fields : (start : ℕ) (ends bytes : List ℕ) → IsAscii bytes → AllText (cut_from start ends bytes)
unfolding AllText cut_from
ascii-fields start [] bytes h = tt
ascii-fields start (end ∷ ends) bytes h = (IsUtf8-from_ascii _ (IsAscii-take (drop start bytes) (end - start) (IsAscii-drop bytes start h)), ascii-fields end ends bytes h)
