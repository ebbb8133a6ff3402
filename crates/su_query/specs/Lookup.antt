-- Why a query, or the condition of a deletion, is refused for its names or kinds.
-- known: every name is one of the scope's, and the sides of each comparison are of one kind
use Rattle.std.specs.Prelude.{◌≡◌, ℕ, List, Option, Some, None, option_map}
use Rattle.std.specs.Option.{option_or}
use Rattle.su_schema.specs.SchemaValue.{SchemaValue}
use Rattle.su_query.specs.declared.refs.Ref.{Ref as ARef}
use Rattle.su_query.specs.declared.conditions.Comparison.{Comparison}
use Rattle.su_query.specs.declared.scopes.Scope.{Scope}
use Rattle.su_query.specs.declared.scopes.Scope.TheVariants.{Attributes, Columns}
use Rattle.su_query.specs.declared.statements.Query.{Query}
use Rattle.su_query.specs.declared.faults.QueryFault.{QueryFault}
use Rattle.su_query.specs.declared.faults.QueryFault.TheVariants.{Unknown, Kinds, UnknownColumn}
use Rattle.su_where.specs.Truth.{comparisons_of}
use Rattle.su_query.specs.Refs.{NamedCond, refs_of}
use Rattle.su_query.specs.Mentions.{all_refs}
use Rattle.su_query.specs.Scopes.{names_in, first_unknown}
use Rattle.su_query.specs.KindDifferences.{differing_kinds}

-- the name is none of the scope's
abbrev pub unknown_in : Scope → List ℕ → QueryFault
unknown_in Attributes name = Unknown name
unknown_in (Columns r) name = UnknownColumn name

-- the first unknown name or, where all are known, the first comparison of two kinds
abbrev pub first_fault : SchemaValue → Scope → List ARef → List Comparison → Option QueryFault
first_fault schema scope refs comparisons =
    option_or (option_map (unknown_in scope) (first_unknown (names_in schema scope) refs)) (option_map (λ k. Kinds k.0 k.1) (differing_kinds schema scope comparisons))

-- why a query is refused
abbrev pub IsQueryRefusal : SchemaValue → Query → QueryFault → Type 0
IsQueryRefusal schema q fault = first_fault schema Attributes (all_refs q) (comparisons_of q.cond) ≡ Some fault

-- a query is not refused
abbrev pub IsKnownQuery : SchemaValue → Query → Type 0
IsKnownQuery schema q = first_fault schema Attributes (all_refs q) (comparisons_of q.cond) ≡ None

-- why the condition of a deletion is refused, on this relation
abbrev pub IsColumnRefusal : SchemaValue → ℕ → NamedCond → QueryFault → Type 0
IsColumnRefusal schema r c fault = first_fault schema (Columns r) (refs_of c) (comparisons_of c) ≡ Some fault

-- it is not refused
abbrev pub IsColumnCondition : SchemaValue → ℕ → NamedCond → Type 0
IsColumnCondition schema r c = first_fault schema (Columns r) (refs_of c) (comparisons_of c) ≡ None
