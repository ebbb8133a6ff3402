-- The grammar of conditions: which symbols are which condition.
-- cond: conj { "or" conj }; conj: factor { "and" factor };
-- factor: [ "not" ] primary; primary: "(" cond ")" or operand op operand
use Rattle.std.specs.Prelude.{◌≡◌, codes, List, [], ◌∷◌, ◌++◌}
use Rattle.su_lex.specs.declared.meaning.Symbol.{Symbol}
use Rattle.su_lex.specs.declared.meaning.Symbol.TheVariants.{Word}
use Rattle.su_lex.specs.Wordings.{in_parens}
use Rattle.su_where.specs.declared.conditions.Condition.TheVariants.{Compare, Not, All, Any}
use Rattle.su_query.specs.declared.conditions.Comparison.{Comparison}
use Rattle.su_query.specs.Refs.{NamedCond}
use Rattle.su_query.specs.Operands.{IsOperand}
use Rattle.su_query.specs.ShownParts.{comparison_symbols}

-- any of the parts; one part alone is itself
abbrev pub any_of : List NamedCond → NamedCond
any_of (c ∷ []) = c
any_of cs = Any cs

-- all of the parts; one part alone is itself
abbrev pub all_of : List NamedCond → NamedCond
all_of (c ∷ []) = c
all_of cs = All cs

mutual
  -- conj { "or" conj }: any of the conjunctions
  pub data IsCond : NamedCond → List Symbol → Type 0 where
    cond : (c : NamedCond) (cs : List NamedCond) (s : List Symbol) → c ≡ any_of cs → AreConjs cs s → IsCond c s

  -- conjunctions, with `or` between two
  pub data AreConjs : List NamedCond → List Symbol → Type 0 where
    one_conj : (cs : List NamedCond) (c : NamedCond) (s : List Symbol) → cs ≡ c ∷ [] → IsConj c s → AreConjs cs s
    or : (cs : List NamedCond) (c : NamedCond) (ds : List NamedCond) (s t u : List Symbol) → cs ≡ c ∷ ds → s ≡ t ++ Word (codes "or") ∷ u → IsConj c t → AreConjs ds u → AreConjs cs s

  -- factor { "and" factor }: all of the factors
  pub data IsConj : NamedCond → List Symbol → Type 0 where
    conj : (c : NamedCond) (cs : List NamedCond) (s : List Symbol) → c ≡ all_of cs → AreFactors cs s → IsConj c s

  -- factors, with `and` between two
  pub data AreFactors : List NamedCond → List Symbol → Type 0 where
    one_factor : (cs : List NamedCond) (c : NamedCond) (s : List Symbol) → cs ≡ c ∷ [] → IsFactor c s → AreFactors cs s
    and : (cs : List NamedCond) (c : NamedCond) (ds : List NamedCond) (s t u : List Symbol) → cs ≡ c ∷ ds → s ≡ t ++ Word (codes "and") ∷ u → IsFactor c t → AreFactors ds u → AreFactors cs s

  -- [ "not" ] primary
  pub data IsFactor : NamedCond → List Symbol → Type 0 where
    plain : (c : NamedCond) (s : List Symbol) → IsPrimary c s → IsFactor c s
    negated : (c d : NamedCond) (s t : List Symbol) → c ≡ Not d → s ≡ Word (codes "not") ∷ t → IsPrimary d t → IsFactor c s

  -- "(" cond ")", or operand op operand
  pub data IsPrimary : NamedCond → List Symbol → Type 0 where
    nested : (c : NamedCond) (s t : List Symbol) → s ≡ in_parens t → IsCond c t → IsPrimary c s
    compare : (c : NamedCond) (k : Comparison) (s : List Symbol) → c ≡ Compare k → s ≡ comparison_symbols k → IsOperand k.left → IsOperand k.right → IsPrimary c s
