-- A writer that takes any width writes the same text.
use Rattle.std.proofs.Common.{◌≡◌, ℕ, true, List, [], ◌∷◌, refl}
use Rattle.csv.specs.Writing.{default_writer, escaped, field_text, fields_text, is_blank, needs_quotes, row_text, with_flexible}
use Rattle.csv.specs.declared.writer.WriterBuilder.{WriterBuilder}

abbrev any_width : WriterBuilder
any_width = with_flexible default_writer true

same-escaped : (xs : List ℕ) → escaped any_width xs ≡ escaped default_writer xs
unfolding escaped
same-escaped [] = refl
same-escaped (b ∷ rest) = rw (same-escaped rest) refl

same-needs : (xs : List ℕ) → needs_quotes any_width xs ≡ needs_quotes default_writer xs
same-needs xs = refl

same-field : (xs : List ℕ) → field_text any_width xs ≡ field_text default_writer xs
same-field xs = rw (same-escaped xs) refl

same-fields : (xs : List (List ℕ)) → fields_text any_width xs ≡ fields_text default_writer xs
unfolding fields_text
same-fields [] = refl
same-fields (field ∷ rest) = rw (same-field field, same-fields rest) refl

same-blank : (xs : List (List ℕ)) → is_blank any_width xs ≡ is_blank default_writer xs
unfolding is_blank
same-blank [] = refl
same-blank (field ∷ []) = rw (same-field field) refl
same-blank (field ∷ next ∷ rest) = refl

pub same-row : (xs : List (List ℕ)) → row_text any_width xs ≡ row_text default_writer xs
same-row [] = rw (same-blank []) refl
same-row (field ∷ rest) = rw (same-blank (field ∷ rest), same-field field, same-fields rest) refl
