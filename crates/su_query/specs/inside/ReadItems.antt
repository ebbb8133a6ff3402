-- How names, values, refs and lists of them are read. "From s to r": the symbols s are that, and then r.
-- item: what stands between two commas, read by a relation of its own
-- No public contract cites this module.
use Rattle.std.specs.Prelude.{◌≡◌, ℕ, List, [], ◌∷◌}
use Rattle.su_base.specs.declared.values.Value.{Value}
use Rattle.su_base.specs.Name.{IsName}
use Rattle.su_lex.specs.Names.{Begins}
use Rattle.su_lex.specs.declared.signs.Sign.TheVariants as sign
use Rattle.su_lex.specs.declared.meaning.Symbol.{Symbol}
use Rattle.su_lex.specs.declared.meaning.Symbol.TheVariants.{Word, Sign}
use Rattle.su_query.specs.declared.refs.Ref.{Ref as ARef}
use Rattle.su_query.specs.declared.refs.NamedOperand.{NamedOperand}
use Rattle.su_query.specs.declared.refs.NamedOperand.TheVariants.{Ref, Const}
use Rattle.su_query.specs.Operands.{value_sym, qualified, IsVariable}

-- a name
abbrev pub ReadsName : List ℕ → List Symbol → List Symbol → Type 0
ReadsName name s r = (s ≡ Word name ∷ r) × IsName name

-- a value
abbrev pub ReadsValue : Value → List Symbol → List Symbol → Type 0
ReadsValue v s r = s ≡ value_sym v ∷ r

-- an attribute, with or without its variable, and no dot behind it
abbrev pub ReadsRef : ARef → List Symbol → List Symbol → Type 0
ReadsRef ref s r = (s ≡ qualified ref.variable (Word ref.attribute ∷ r)) × IsVariable ref.variable × IsName ref.attribute × ¬ (Begins (Sign sign.Dot) r)

-- a side of a comparison: an attribute or a value
abbrev pub ReadsOperand : NamedOperand → List Symbol → List Symbol → Type 0
ReadsOperand (Ref ref) s r = ReadsRef ref s r
ReadsOperand (Const v) s r = ReadsValue v s r

-- { "," item }, as many as there are
pub data More {A : Type 0} (Item : A → List Symbol → List Symbol → Type 0) : List A → List Symbol → List Symbol → Type 0 where
  none : (items : List A) (s r : List Symbol) → items ≡ [] → s ≡ r → ¬ (Begins (Sign sign.Comma) s) → More Item items s r
  more : (items : List A) (b : A) (bs : List A) (s t u r : List Symbol) → items ≡ b ∷ bs → s ≡ Sign sign.Comma ∷ t → Item b t u → More Item bs u r → More Item items s r

-- item { "," item }
abbrev pub Several : {A : Type 0} (Item : A → List Symbol → List Symbol → Type 0) → List A → List Symbol → List Symbol → Type 0
Several {A} Item items s r = (b : A) × (bs : List A) × (t : List Symbol) × (items ≡ b ∷ bs) × Item b s t × More Item bs t r
