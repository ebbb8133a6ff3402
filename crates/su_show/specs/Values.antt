-- Names, values and dependencies as they stand in replies.
-- shown: as it may be read again
use Rattle.std.specs.Prelude.{ℕ, List, ◌∷◌, ◌++◌, flat_map}
use Rattle.std.specs.Ordering.{nat_cmp}
use Rattle.std.specs.FinSet.{FinSet}
use Rattle.su_base.specs.declared.values.Value.{Value}
use Rattle.su_fd.specs.declared.dependencies.Fd.{Fd}
use Rattle.su_lex.specs.Names.{names_symbols}
use Rattle.su_lex.specs.Spelling.{spelled, spaced}
use Rattle.su_lex.specs.declared.meaning.Symbol.TheVariants.{Sign}
use Rattle.su_lex.specs.declared.signs.Sign.TheVariants as sign
use Rattle.su_schema.specs.SchemaValue.{SchemaValue}
use Rattle.su_schema.specs.Entries.{attribute_names, object_names}
use Rattle.su_ddl.specs.ShownDefinitions.{names_in}
use Rattle.su_query.specs.Operands.{value_sym}
use Rattle.su_lex.specs.Wordings.{in_parens}
use Rattle.su_query.specs.ShownParts.{values_symbols}

-- each name behind a space
abbrev pub behind_spaces : List (List ℕ) → List ℕ
behind_spaces names = flat_map (λ name. 32 ∷ name) names

-- the names of a set of attributes in the order of declaration, each behind a space
abbrev pub attributes_text : SchemaValue → FinSet nat_cmp → List ℕ
attributes_text schema set = behind_spaces (names_in (attribute_names schema) set)

-- the names of a set of objects in the order of declaration, each behind a space
abbrev pub objects_text : SchemaValue → FinSet nat_cmp → List ℕ
objects_text schema set = behind_spaces (names_in (object_names schema) set)

-- a dependency as it is shown
abbrev pub fd_text : SchemaValue → Fd → List ℕ
fd_text schema fd = spaced (names_symbols (names_in (attribute_names schema) fd.left) ++ Sign sign.Arrow ∷ names_symbols (names_in (attribute_names schema) fd.right))

-- a value as it is shown
abbrev pub value_text : Value → List ℕ
value_text v = spelled (value_sym v)

-- the values of a row in parentheses, as they are shown
abbrev pub row_text : List Value → List ℕ
row_text row = spaced (in_parens (values_symbols row))
