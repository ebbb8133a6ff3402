-- The kinds of tokens that forms ask for.
-- sort: a reserved word, a name, a number, a text, a sign, or the end
use Rattle.std.specs.Prelude.{◌≡◌, ℕ, ℤ, List, codes}
use Rattle.su_base.specs.Name.{IsName}
use Rattle.su_lex.specs.declared.meaning.Symbol.{Symbol}
use Rattle.su_lex.specs.declared.meaning.Symbol.TheVariants as symbol
use Rattle.su_faults.specs.declared.sorts.Sort.{Sort}
use Rattle.su_faults.specs.declared.sorts.Sort.TheVariants.{Word as AWord, Name, Number, Text as AText, Sign, End}
use Rattle.su_faults.specs.declared.sorts.Word.{Word}
use Rattle.su_faults.specs.declared.sorts.Word.TheVariants.{Attribute, Relation, Object, From, Fd, Maximal, Int, Text, Insert, Delete, Where, Load, Print, Schema, Closure, Retrieve, Explain, And, Or, Not, Compare, With, Window}

-- how a reserved word is written
abbrev pub spelling : Word → List ℕ
spelling Attribute = codes "attribute"
spelling Relation = codes "relation"
spelling Object = codes "object"
spelling From = codes "from"
spelling Fd = codes "fd"
spelling Maximal = codes "maximal"
spelling Int = codes "int"
spelling Text = codes "text"
spelling Insert = codes "insert"
spelling Delete = codes "delete"
spelling Where = codes "where"
spelling Load = codes "load"
spelling Print = codes "print"
spelling Schema = codes "schema"
spelling Closure = codes "closure"
spelling Retrieve = codes "retrieve"
spelling Explain = codes "explain"
spelling And = codes "and"
spelling Or = codes "or"
spelling Not = codes "not"
spelling Compare = codes "compare"
spelling With = codes "with"
spelling Window = codes "window"

-- the token is of this sort; none is the end
abbrev pub IsOfSort : Sort → Symbol → Type 0
IsOfSort (AWord w) x = x ≡ symbol.Word (spelling w)
IsOfSort Name x = (name : List ℕ) × (x ≡ symbol.Word name) × IsName name
IsOfSort Number x = (n : ℤ) × (x ≡ symbol.Int n)
IsOfSort AText x = (content : List ℕ) × (x ≡ symbol.Text content)
IsOfSort (Sign s) x = x ≡ symbol.Sign s
IsOfSort End x = ⊥
