-- What was written is read back.
use Rattle.std.proofs.Common.{◌≡◌, ◌∙◌, ◌+◌, ◌≤◌, ◌&&◌, ◌==◌, ℕ, zero, suc, true, false, List, [], ◌∷◌, ◌++◌, length, map, Some, None, Ok, All, refl, ap, inl, inr, arith, append_assoc, length-append, eq-eqb, ne_eqb}
use Rattle.std.proofs.lemmas.Bool.{cases_Bool}
use Rattle.std.proofs.lemmas.List.{append-nil}
use Rattle.std.specs.Prelude.{if◌then◌else◌, flat_map}
use Rattle.std.specs.Cmp.Lexicographic.{pointwise}
use Rattle.csv.specs.Machine.{next_record}
use Rattle.csv.specs.Reading.{default_config, is_bom, records, records_from, strip_bom}
use Rattle.csv.specs.Writing.{default_writer, field_text, fields_text, is_blank, needs_quotes, read_back, row_body, row_text}
use Rattle.csv.specs.declared.parser.State.TheVariants as st
use Rattle.csv.proofs.RoundTrip.{read-write}
use Rattle.su_base.specs.Name.{IsName}
use Rattle.su_base.specs.Value.{kind_of}
use Rattle.su_base.specs.declared.values.Value.{Value}
use Rattle.su_base.specs.declared.values.Value.TheVariants.{Int, Text}
use Rattle.su_base.specs.declared.values.Column.{Column}
use Rattle.su_base.specs.declared.values.Kind.{Kind}
use Rattle.su_base.specs.declared.values.Kind.TheVariants.{Int as IntKind, Text as TextKind}
use Rattle.su_csv.specs.Field.{field_value}
use Rattle.su_csv.specs.File.{reading, rows_from}
use Rattle.su_csv.specs.Record.{place_without, record_limit, row_from_fields, row_or_fault}
use Rattle.su_csv.specs.Written.{CanBeRead, IsShort, field_of, text_of}
use Rattle.su_csv.specs.inside.Writers.{IsStored}
use Rattle.su_csv.proofs.RowSoFar.{has, in-full}
use Rattle.su_csv.proofs.Numbers.{range-fits, written}
use Rattle.su_csv.proofs.Texts.{is-text}

-- a text whose first byte is not the mark's has none
plain-start : (a : ℕ) (xs : List ℕ) → (a == 0xEF) ≡ false → strip_bom (a ∷ xs) ≡ a ∷ xs
unfolding strip_bom
plain-start a [] other = refl
plain-start a (b ∷ []) other = refl
plain-start a (b ∷ c ∷ rest) other = rw other refl

-- a field without a mark, and a byte behind it that is none of the mark's
behind-field : (field : List ℕ) (t : ℕ) (rest : List ℕ) → strip_bom field ≡ field → (t == 0xEF) ≡ false → (t == 0xBB) ≡ false → (t == 0xBF) ≡ false → strip_bom (field ++ t ∷ rest) ≡ field ++ t ∷ rest
unfolding strip_bom
behind-field [] t rest none first second third = plain-start t rest first
behind-field (a ∷ []) t [] none first second third = refl
behind-field (a ∷ []) t (c ∷ rest) none first second third = rw second (elim (a == 0xEF) as (λ b. (if (b && false) && (c == 0xBF) then rest else a ∷ t ∷ c ∷ rest) ≡ a ∷ t ∷ c ∷ rest) [ true ↦ refl | false ↦ refl ])
behind-field (a ∷ b ∷ []) t rest none first second third = rw third (elim ((a == 0xEF) && (b == 0xBB)) as (λ x. (if x && false then rest else a ∷ b ∷ t ∷ rest) ≡ a ∷ b ∷ t ∷ rest) [ true ↦ refl | false ↦ refl ])
behind-field (a ∷ b ∷ c ∷ more) t rest none first second third = elim (cases_Bool (is_bom a b c)) [
  | inl mark ↦ absurd (shorter a b c more (rw mark at none))
  | inr plain ↦ rw plain refl
]
  where
    shorter : (a b c : ℕ) (xs : List ℕ) → xs ≡ a ∷ b ∷ c ∷ xs → ⊥
    shorter a b c xs e = let l = ap length e in omega arith

-- what follows the first field of a record: a byte that is none of the mark's
record Follows (field : List ℕ) (whole : List ℕ) : Type 0 where
  byte : ℕ
  more : List ℕ
  is : whole ≡ field_text default_writer field ++ byte ∷ more
  first : (byte == 0xEF) ≡ false
  second : (byte == 0xBB) ≡ false
  third : (byte == 0xBF) ≡ false

follows : (field : List ℕ) (fields : List (List ℕ)) (rest : List ℕ) → Follows field (row_text default_writer (field ∷ fields) ++ rest)
unfolding is_blank fields_text
follows field [] rest = elim (cases_Bool (length (field_text default_writer field) == 0)) [
  | inl blank ↦ record { byte = 34; more = 34 ∷ 10 ∷ rest; is = rw blank (simp (append_assoc, append-nil)); first = refl; second = refl; third = refl }
  | inr shown ↦ record { byte = 10; more = rest; is = rw shown (simp (append_assoc, append-nil)); first = refl; second = refl; third = refl }
]
follows field (next ∷ others) rest = record {
  byte = 44;
  more = (field_text default_writer next ++ fields_text default_writer others) ++ (10 ∷ rest);
  is = simp append_assoc;
  first = refl;
  second = refl;
  third = refl;
}

-- the text of a record whose first field has no mark
unmarked-row : (field : List ℕ) (fields : List (List ℕ)) (rest : List ℕ) → strip_bom field ≡ field → strip_bom (row_text default_writer (field ∷ fields) ++ rest) ≡ row_text default_writer (field ∷ fields) ++ rest
unmarked-row field fields rest none =
    let f = follows field fields rest in
    rw (f.is) (elim (cases_Bool (needs_quotes default_writer field)) [
      | inl needs ↦ rw needs (plain-start 34 _ refl)
      | inr plain ↦ rw plain (behind-field field f.byte f.more none f.first f.second f.third)
    ])

-- the records of the text of records
text-records : (n : ℕ) (rows : List (List (List ℕ))) → length rows ≤ n → records_from default_config n st.StartRecord (flat_map (row_text default_writer) rows) ≡ map read_back rows
unfolding records_from next_record
text-records zero [] few = refl
text-records (suc n) [] few = refl
text-records zero (row ∷ rows) few = absurd (omega arith)
text-records (suc n) (row ∷ rows) few =
    rw (read-write row (flat_map (row_text default_writer) rows)) (ap (λ (t : List (List (List ℕ))). read_back row ∷ t) (text-records n rows (omega arith)))

-- each record takes a byte at least
one-byte : (fields : List (List ℕ)) → 1 ≤ length (row_text default_writer fields)
one-byte fields = omega (arith, length-append {A = ℕ} (row_body default_writer fields) ((if is_blank default_writer fields then 34 ∷ 34 ∷ [] else []) ++ 10 ∷ []), length-append {A = ℕ} (if is_blank default_writer fields then 34 ∷ 34 ∷ [] else []) (10 ∷ []))

few-records : (rows : List (List (List ℕ))) → length rows ≤ length (flat_map (row_text default_writer) rows)
few-records [] = omega arith
few-records (row ∷ rows) =
    let one = one-byte row in
    let more = few-records rows in
    omega (arith, length-append (row_text default_writer row) (flat_map (row_text default_writer) rows))

pub written-records : (rows : List (List (List ℕ))) → records default_config (flat_map (row_text default_writer) rows) ≡ map read_back rows
written-records rows = let few = few-records rows in text-records (length (flat_map (row_text default_writer) rows) + 1) rows (omega arith)

-- each value is what its field reads as
value-back : (kind : Kind) (value : Value) → kind_of value ≡ kind → IsStored value → IsShort value → field_value kind (field_of value) ≡ Some value
value-back IntKind (Int n) is stored short = rw (written n (range-fits n stored)) refl
value-back IntKind (Text t) is stored short = absurd (cc is)
value-back TextKind (Int n) is stored short = absurd (cc is)
value-back TextKind (Text t) is stored short = rw (is-text t short stored) refl

-- the row of a record of fields of the columns' kinds
record RowBack (columns : List Column) (row : List Value) (place : ℕ) : Type 0 where
  width : length (map field_of row) ≡ length columns
  values : row_from_fields columns (map field_of row) ≡ row
  numbers : place_without IntKind place columns (map field_of row) ≡ None
  texts : place_without TextKind place columns (map field_of row) ≡ None

row-back : (columns : List Column) (row : List Value) (place : ℕ) → map kind_of row ≡ map (λ column. column.kind) columns → All IsStored row → All IsShort row → RowBack columns row place
row-back [] [] place kinds stored short = record { width = refl; values = refl; numbers = refl; texts = refl }
row-back [] (value ∷ row) place kinds stored short = absurd (cc kinds)
row-back (column ∷ columns) [] place kinds stored short = absurd (cc kinds)
row-back (column ∷ columns) (value ∷ row) place kinds stored short =
    let first : kind_of value ≡ column.kind = cc kinds in
    let others : map kind_of row ≡ map (λ column. column.kind) columns = cc kinds in
    let is = value-back column.kind value first (stored 0 value (omega arith)) (short 0 value (omega arith)) in
    let more = row-back columns row (suc place) others (λ k d lt. stored (suc k) d (omega arith)) (λ k d lt. short (suc k) d (omega arith)) in record {
      width = ap suc more.width;
      values = rw (is, more.values) refl;
      numbers = rw (has IntKind column.kind (field_of value) value is) more.numbers;
      texts = rw (has TextKind column.kind (field_of value) value is) more.texts;
    }

rows-back : (columns : List Column) (number : ℕ) (rows : List (List Value)) → number + length rows ≤ record_limit + 1 → All (λ row. map kind_of row ≡ map (λ column. column.kind) columns) rows → All (All IsStored) rows → All (All IsShort) rows
    → rows_from columns number (map (map field_of) rows) ≡ Ok rows
rows-back columns number [] few kinds stored short = refl
rows-back columns number (row ∷ rows) few kinds stored short =
    let one = row-back columns row 0 (kinds 0 row (omega arith)) (stored 0 row (omega arith)) (short 0 row (omega arith)) in
    let first : row_or_fault columns number (map field_of row) ≡ Ok row = in-full columns (map field_of row) number (omega arith) one.width ∙ rw (one.numbers, one.texts, one.values) refl in
    let others = rows-back columns (suc number) rows (omega arith) (λ k d lt. kinds (suc k) d (omega arith)) (λ k d lt. stored (suc k) d (omega arith)) (λ k d lt. short (suc k) d (omega arith)) in
    rw (first, others) refl

-- no record is without a field
same-rows : (column : Column) (columns : List Column) (rows : List (List Value)) → All (λ row. map kind_of row ≡ map (λ column. column.kind) (column ∷ columns)) rows → map read_back (map (map field_of) rows) ≡ map (map field_of) rows
same-rows column columns [] kinds = refl
same-rows column columns ([] ∷ rows) kinds = absurd (cc (kinds 0 [] (omega arith)))
same-rows column columns ((value ∷ row) ∷ rows) kinds = ap (λ (more : List (List (List ℕ))). map field_of (value ∷ row) ∷ more) (same-rows column columns rows (λ k d lt. kinds (suc k) d (omega arith)))

same-text : (text : List ℕ) → pointwise ◌==◌ text text ≡ true
same-text [] = refl
same-text (b ∷ text) = rw (eq-eqb b b refl, same-text text) refl

same-texts : (texts : List (List ℕ)) → pointwise (pointwise ◌==◌) texts texts ≡ true
same-texts [] = refl
same-texts (text ∷ texts) = rw (same-text text, same-texts texts) refl

-- what was written under the column names reads as the same rows
pub reads-back : (columns : List Column) (rows : List (List Value)) → All (All IsStored) rows → CanBeRead columns rows → reading columns (text_of (map (λ column. column.name) columns) rows) ≡ Ok rows
reads-back [] rows stored can = absurd (omega (arith, can.some))
reads-back (column ∷ columns) rows stored can =
    let header = map (λ (c : Column). c.name) (column ∷ columns) in
    let unmarked = unmarked-row column.name (map (λ (c : Column). c.name) columns) (flat_map (row_text default_writer) (map (map field_of) rows)) can.unmarked in
    let all = written-records (header ∷ map (map field_of) rows) in
    rw (unmarked, unmarked, all, same-rows column columns rows can.kinds, same-texts header) (rows-back (column ∷ columns) 1 rows (omega (arith, can.few)) can.kinds stored can.short)

-- a name begins with no mark
pub name-unmarked : (name : List ℕ) → IsName name → strip_bom name ≡ name
name-unmarked [] h = absurd h.0
name-unmarked (a ∷ rest) h = plain-start a rest (ne_eqb a 0xEF (λ e. absurd (cc (rw e at h.0.0))))
