-- What a writer holds, and the values that it is given.
-- writer: one of `csv`, into a list of bytes; pending: what it was given and hasn't handed on to the list
-- n: a whole number; t: a text, as its bytes
-- No public contract cites this module.
use Rattle.std.specs.Prelude.{◌≡◌, ◌++◌, ℕ, true, false, List, Vec, IsUtf8}
use Rattle.std.specs.declared.alloc.Global.{Global}
use Rattle.csv.specs.Writing.{default_writer, fields_written, has_written, with_flexible, writer_pending, writer_setup, writer_under}
use Rattle.csv.specs.declared.writer.Writer.{Writer}
use Rattle.su_base.specs.declared.values.Value.{Value}
use Rattle.su_base.specs.declared.values.Value.TheVariants.{Int, Text}
use Rattle.su_csv.specs.Field.{in_range}

-- the text so far
abbrev pub text_so_far : Writer (Vec ℕ Global) → List ℕ
text_so_far writer = (writer_under writer).items ++ writer_pending writer

-- the writer stands between records, and writes as `csv` does at its default settings, in any width
pub record IsIdle (writer : Writer (Vec ℕ Global)) : Type 0 where
  pub setup : writer_setup writer ≡ with_flexible default_writer true
  pub fields : fields_written writer ≡ 0
  pub wrote : has_written writer ≡ false

-- what a value's type keeps: a number of 64 bits, a text of UTF-8
abbrev pub IsStored : Value → Type 0
IsStored (Int n) = in_range n ≡ true
IsStored (Text t) = IsUtf8 t
