-- Which lines stand before which in a schema and in a term.
-- rank: of a kind of definition, the place of its kind among them
use Rattle.std.specs.Prelude.{ℕ, ◌==◌, ◌&&◌, nat_lt, nat_le, Bool, true, false, Option, Some, None}
use Rattle.su_explained.specs.declared.kinds.Kind.{Kind}
use Rattle.su_explained.specs.declared.kinds.Kind.TheVariants.{Variables, Sources, Covered, Attribute, Relation, Object, Dependency, Declared, Maximal}
use Rattle.su_explained.specs.declared.states.State.{State}

-- the place of a definition among the kinds of definitions, from 1; 0 for a line of an explanation
abbrev pub rank_of : Kind → ℕ
rank_of Attribute = 1
rank_of Relation = 2
rank_of Object = 3
rank_of Dependency = 4
rank_of Declared = 5
rank_of Maximal = 6
rank_of _ = 0

-- a definition of this kind may stand behind a line of that kind, or at the beginning
abbrev pub defines_behind : Option Kind → Kind → Bool
defines_behind None kind = true
defines_behind (Some last) kind = nat_lt 0 (rank_of last) && nat_le (rank_of last) (rank_of kind)

-- the last term is told, if there is one
abbrev pub between_terms : State → Option Kind → Bool
between_terms s (Some Variables) = true
between_terms s (Some Covered) = true
between_terms s (Some Sources) = s.sources == s.kept
between_terms s _ = false
