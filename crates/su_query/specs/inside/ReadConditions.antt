-- How conditions are read, each as far as it goes. "From s to r": the symbols s are that, and then r.
-- cond: conj { "or" conj }; conj: factor { "and" factor };
-- factor: [ "not" ] primary; primary: "(" cond ")" or operand op operand
-- No public contract cites this module.
use Rattle.std.specs.Prelude.{◌≡◌, codes, List, [], ◌∷◌}
use Rattle.su_lex.specs.declared.signs.Sign.TheVariants as sign
use Rattle.su_where.specs.declared.operators.Op.{Op}
use Rattle.su_lex.specs.declared.meaning.Symbol.{Symbol}
use Rattle.su_lex.specs.declared.meaning.Symbol.TheVariants.{Word, Sign}
use Rattle.su_query.specs.declared.refs.NamedOperand.{NamedOperand}
use Rattle.su_query.specs.declared.conditions.Comparison.{Comparison}
use Rattle.su_query.specs.Refs.{NamedCond}
use Rattle.su_where.specs.declared.conditions.Condition.TheVariants.{Compare, Not}
use Rattle.su_lex.specs.Names.{Begins}
use Rattle.su_query.specs.Operands.{op_sym}
use Rattle.su_query.specs.Grammar.{any_of, all_of}
use Rattle.su_query.specs.inside.ReadItems.{ReadsOperand}

-- a comparison of two sides
abbrev pub compared : NamedOperand → Op → NamedOperand → Comparison
compared a o b = record { left = a; op = o; right = b }

-- operand op operand
abbrev pub ReadsComparison : NamedCond → List Symbol → List Symbol → Type 0
ReadsComparison c s r = (a : NamedOperand) × (o : Op) × (b : NamedOperand) × (t : List Symbol) × (u : List Symbol)
    × ReadsOperand a s t × (t ≡ op_sym o ∷ u) × ReadsOperand b u r × (c ≡ Compare (compared a o b))

mutual
  -- conj { "or" conj }
  pub data ReadsCond : NamedCond → List Symbol → List Symbol → Type 0 where
    cond : (c d : NamedCond) (ds : List NamedCond) (s t r : List Symbol) → c ≡ any_of (d ∷ ds) → ReadsConj d s t → ReadsOrs ds t r → ReadsCond c s r

  -- { "or" conj }, as many as there are
  pub data ReadsOrs : List NamedCond → List Symbol → List Symbol → Type 0 where
    no_or : (cs : List NamedCond) (s r : List Symbol) → cs ≡ [] → s ≡ r → ¬ (Begins (Word (codes "or")) s) → ReadsOrs cs s r
    one_or : (cs : List NamedCond) (d : NamedCond) (ds : List NamedCond) (s t u r : List Symbol) → cs ≡ d ∷ ds → s ≡ Word (codes "or") ∷ t → ReadsConj d t u → ReadsOrs ds u r → ReadsOrs cs s r

  -- factor { "and" factor }
  pub data ReadsConj : NamedCond → List Symbol → List Symbol → Type 0 where
    conj : (c d : NamedCond) (ds : List NamedCond) (s t r : List Symbol) → c ≡ all_of (d ∷ ds) → ReadsFactor d s t → ReadsAnds ds t r → ReadsConj c s r

  -- { "and" factor }, as many as there are
  pub data ReadsAnds : List NamedCond → List Symbol → List Symbol → Type 0 where
    no_and : (cs : List NamedCond) (s r : List Symbol) → cs ≡ [] → s ≡ r → ¬ (Begins (Word (codes "and")) s) → ReadsAnds cs s r
    one_and : (cs : List NamedCond) (d : NamedCond) (ds : List NamedCond) (s t u r : List Symbol) → cs ≡ d ∷ ds → s ≡ Word (codes "and") ∷ t → ReadsFactor d t u → ReadsAnds ds u r → ReadsAnds cs s r

  -- [ "not" ] primary
  pub data ReadsFactor : NamedCond → List Symbol → List Symbol → Type 0 where
    plain : (c : NamedCond) (s r : List Symbol) → ReadsPrimary c s r → ReadsFactor c s r
    negated : (c d : NamedCond) (s t r : List Symbol) → c ≡ Not d → s ≡ Word (codes "not") ∷ t → ReadsPrimary d t r → ReadsFactor c s r

  -- "(" cond ")", or a comparison
  pub data ReadsPrimary : NamedCond → List Symbol → List Symbol → Type 0 where
    nested : (c : NamedCond) (s t u r : List Symbol) → s ≡ Sign sign.Open ∷ t → ReadsCond c t u → u ≡ Sign sign.Close ∷ r → ReadsPrimary c s r
    compare : (c : NamedCond) (s r : List Symbol) → ReadsComparison c s r → ReadsPrimary c s r
