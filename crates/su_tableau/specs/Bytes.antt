-- Universal relations of bytes.
-- In definitions a text is a list of any numbers; whatever is stored is made of bytes, numbers below 256. What holds over all relations of bytes holds over all.
-- of bytes: each text in it is a list of numbers below 256; within: each answer of the one is one of the other
use Rattle.std.specs.Prelude.{◌<◌, ◌≤◌, List, All, length}
use Rattle.su_base.specs.declared.values.Value.{Value}
use Rattle.su_base.specs.declared.values.Value.TheVariants.{Int, Text}
use Rattle.su_tableau.specs.declared.symbols.Sym.{Sym}
use Rattle.su_tableau.specs.declared.symbols.Sym.TheVariants.{Const, Var}
use Rattle.su_tableau.specs.Tableaux.{Tab, IsValid}
use Rattle.su_tableau.specs.Valuations.{Ext}
use Rattle.su_tableau.specs.Kinds.{Kinds, IsUniverse, IsTyped}
use Rattle.su_tableau.specs.Equivalent.{IsWithin, IsLeast}

-- a whole number, or a text of bytes
abbrev pub IsOfBytes : Value → Type 0
IsOfBytes (Int n) = Unit {0}
IsOfBytes (Text bytes) = All (λ b. b < 256) bytes

-- a variable, or a constant of bytes
abbrev pub IsByteSymbol : Sym → Type 0
IsByteSymbol (Const c) = IsOfBytes c
IsByteSymbol (Var k) = Unit {0}

-- the constants of the tableau's rows are of bytes
abbrev pub HasByteConstants : Tab → Type 0
HasByteConstants t = All (All IsByteSymbol) t.rows

-- a universal relation of bytes
pub record IsByteUniverse (kinds : Kinds) (universe : List (List Value)) : Type 0 where
  pub typed : IsUniverse kinds universe
  pub bytes : All (All IsOfBytes) universe

-- over every universal relation of bytes each answer of s is one of t
abbrev pub IsByteWithin : Kinds → Tab → Tab → Type 0
IsByteWithin kinds s t = (universe : List (List Value)) (h : List Value) → IsByteUniverse kinds universe → Ext s universe h → Ext t universe h

-- a tableau whose rows have constants of bytes is within another over every universal relation, if it is over those of bytes
abbrev pub BytesSuffice : Type 0
BytesSuffice = (kinds : Kinds) (s t : Tab) → IsTyped kinds s → HasByteConstants s → IsByteWithin kinds s t → IsWithin kinds s t

-- where constants are of bytes, a least tableau has the fewest rows also of those that are equivalent over relations of bytes alone
abbrev pub LeastOverBytes : Type 0
LeastOverBytes = (kinds : Kinds) (s t : Tab) → IsTyped kinds s → IsTyped kinds t → HasByteConstants s → HasByteConstants t → IsValid s
    → IsLeast kinds t → IsByteWithin kinds s t → IsByteWithin kinds t s → length t.rows ≤ length s.rows
