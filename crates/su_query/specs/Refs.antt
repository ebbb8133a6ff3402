-- The comparisons of a condition over names, and the refs in them, from left to right.
-- ref: an attribute, with its variable or without
use Rattle.std.specs.Prelude.{List, [], ◌∷◌, ◌++◌, flat_map}
use Rattle.su_where.specs.declared.conditions.Condition.{Condition}
use Rattle.su_where.specs.Truth.{comparisons_of}
use Rattle.su_query.specs.declared.refs.Ref.{Ref as ARef}
use Rattle.su_query.specs.declared.refs.NamedOperand.{NamedOperand}
use Rattle.su_query.specs.declared.refs.NamedOperand.TheVariants.{Ref, Const}
use Rattle.su_query.specs.declared.conditions.Comparison.{Comparison}

-- a condition over names
abbrev pub NamedCond : Type 0
NamedCond = Condition Comparison

-- the ref, if the side is one
abbrev pub refs_in : NamedOperand → List ARef
refs_in (Ref ref) = ref ∷ []
refs_in (Const v) = []

-- the refs of a comparison, from left to right
abbrev pub refs_beside : Comparison → List ARef
refs_beside c = refs_in c.left ++ refs_in c.right

-- the refs of a condition
abbrev pub refs_of : NamedCond → List ARef
refs_of c = flat_map refs_beside (comparisons_of c)
