-- What a query mentions, from left to right.
-- mentions: each once, in the order of the first mention; the blank variable is none; seen: those mentioned before
use Rattle.std.specs.Prelude.{ℕ, Bool, true, false, List, [], ◌++◌, map, Option, Some, None, is_none}
use Rattle.std.specs.List.{list_all}
use Rattle.std.specs.Str.{bytes_eq}
use Rattle.su_query.specs.declared.refs.Ref.{Ref as ARef}
use Rattle.su_query.specs.declared.statements.Query.{Query}
use Rattle.su_query.specs.FirstMentions.{first_mentions}
use Rattle.su_query.specs.Refs.{NamedCond, refs_of}

-- the refs of a query, the outputs first
abbrev pub all_refs : Query → List ARef
all_refs q = q.outputs ++ refs_of q.cond

-- both have no variable, or the same one
abbrev pub same_variable : Option (List ℕ) → Option (List ℕ) → Bool
same_variable None None = true
same_variable None (Some w) = false
same_variable (Some v) None = false
same_variable (Some v) (Some w) = bytes_eq v w

-- those seen, and then the variables of these refs that were not seen before, each once
abbrev pub mentions : List (Option (List ℕ)) → List ARef → List (Option (List ℕ))
mentions seen refs = first_mentions same_variable seen (map (λ ref. ref.variable) refs)

-- the variables of a query
abbrev pub variables_of : Query → List (Option (List ℕ))
variables_of q = mentions [] (all_refs q)

-- whether every ref of the condition is a column: an attribute alone
abbrev pub are_columns : NamedCond → Bool
are_columns c = list_all (λ ref. is_none ref.variable) (refs_of c)
