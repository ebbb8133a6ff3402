-- Names, values, kinds and operators as SQL.
-- led: parts one behind another, the first behind one text and each other one behind another text; nothing where there is no part
use Rattle.std.specs.Prelude.{ℕ, ◌==◌, ◌||◌, if◌then◌else◌, List, [], ◌∷◌, ◌++◌, flat_map, codes}
use Rattle.std.specs.Fmt.{signed_decimal}
use Rattle.su_base.specs.declared.values.Kind.{Kind}
use Rattle.su_base.specs.declared.values.Kind.TheVariants as kind
use Rattle.su_base.specs.declared.values.Value.{Value}
use Rattle.su_base.specs.declared.values.Value.TheVariants as value
use Rattle.su_where.specs.declared.operators.Op.{Op}
use Rattle.su_where.specs.declared.operators.Op.TheVariants.{Equal, NotEqual, Less, LessEqual, Greater, GreaterEqual}
use Rattle.su_sql.specs.declared.dialects.Dialect.{Dialect}
use Rattle.su_sql.specs.declared.dialects.Dialect.TheVariants.{Postgres, Sqlite, Spark}

-- a byte of a text: a quote is doubled; Spark puts a backslash before a quote or a backslash
abbrev pub byte_text : Dialect → ℕ → List ℕ
byte_text Spark b = if b == 39 || b == 92 then 92 ∷ b ∷ [] else b ∷ []
byte_text d b = if b == 39 then 39 ∷ 39 ∷ [] else b ∷ []

-- a text in quotes
abbrev pub literal_text : Dialect → List ℕ → List ℕ
literal_text d bytes = codes "'" ++ flat_map (byte_text d) bytes ++ codes "'"

-- a value
abbrev pub value_text : Dialect → Value → List ℕ
value_text d (value.Int n) = signed_decimal n
value_text d (value.Text bytes) = literal_text d bytes

-- how a text is told to be compared by its bytes
abbrev pub collation : Dialect → Kind → List ℕ
collation Postgres kind.Text = codes " collate \"C\""
collation Sqlite kind.Text = codes " collate binary"
collation d k = []

-- the type of a kind
abbrev pub kind_text : Dialect → Kind → List ℕ
kind_text d kind.Int = codes "bigint"
kind_text Spark kind.Text = codes "string"
kind_text d kind.Text = codes "text" ++ collation d kind.Text

-- an operator between blanks
abbrev pub operator_text : Op → List ℕ
operator_text Equal = codes " = "
operator_text NotEqual = codes " <> "
operator_text Less = codes " < "
operator_text LessEqual = codes " <= "
operator_text Greater = codes " > "
operator_text GreaterEqual = codes " >= "
