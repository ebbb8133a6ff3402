-- What the numbers of a resolved query or condition stand for: they are in range, and the sides of each comparison are of one kind.
-- in range: below the number of variables, of attributes or of places
use Rattle.std.specs.Prelude.{◌≡◌, ◌<◌, ◌≤◌, ℕ, List, length, map, slice_index_or, All, Option}
use Rattle.su_base.specs.declared.values.Kind.{Kind}
use Rattle.su_base.specs.declared.values.Kind.TheVariants.{Int as IntKind}
use Rattle.su_base.specs.Value.{kind_of}
use Rattle.su_where.specs.declared.literals.Operand.{Operand}
use Rattle.su_where.specs.declared.literals.Operand.TheVariants.{Place as At, Const}
use Rattle.su_where.specs.declared.literals.Literal.{Literal}
use Rattle.su_where.specs.Truth.{Cond, comparisons_of}
use Rattle.su_where.specs.Places.{Fits}
use Rattle.su_schema.specs.SchemaValue.{SchemaValue}
use Rattle.su_schema.specs.Entries.{attribute_kinds}
use Rattle.su_query.specs.declared.places.Place.{Place}
use Rattle.su_query.specs.declared.resolving.Resolved.{Resolved}
use Rattle.su_query.specs.declared.scopes.Scope.TheVariants.{Columns}
use Rattle.su_query.specs.Scopes.{kinds_in}

-- the kind of an operand, where these are the kinds of the places
abbrev pub operand_kind : List Kind → Operand → Kind
operand_kind kinds (At i) = slice_index_or kinds i IntKind
operand_kind kinds (Const v) = kind_of v

-- the sides of a comparison are of one kind
abbrev pub IsOfOneKind : List Kind → Literal → Type 0
IsOfOneKind kinds l = operand_kind kinds l.left ≡ operand_kind kinds l.right

-- places below the number of kinds, at most 256 comparisons, each of one kind
pub record IsTypedCondition (kinds : List Kind) (c : Cond) : Type 0 where
  pub fits : Fits (length kinds) c
  pub few : length (comparisons_of c) ≤ 256
  pub typed : All (IsOfOneKind kinds) (comparisons_of c)

-- the variable is one of these and the attribute is one of the schema
pub record IsPlaceAmong (schema : SchemaValue) (variables : List (Option (List ℕ))) (p : Place) : Type 0 where
  pub variable : p.variable < length variables
  pub attribute : p.attribute < length schema.attributes

-- the kinds of places, in their order
abbrev pub place_kinds : SchemaValue → List Place → List Kind
place_kinds schema places = map (λ p. slice_index_or (attribute_kinds schema) p.attribute IntKind) places

-- the numbers of a query are in range, within the limits, and its condition is of the kinds of its places
pub record IsResolved (schema : SchemaValue) (r : Resolved) : Type 0 where
  pub few_variables : length r.variables ≤ 8
  pub few_outputs : length r.outputs ≤ 128
  pub few_places : length r.places ≤ 640
  pub places : All (IsPlaceAmong schema r.variables) r.places
  pub outputs : All (λ o. o < length r.places) r.outputs
  pub cond : IsTypedCondition (place_kinds schema r.places) r.cond

-- the condition is of the kinds of the relation's columns
abbrev pub IsOnColumns : SchemaValue → ℕ → Cond → Type 0
IsOnColumns schema r c = IsTypedCondition (kinds_in schema (Columns r)) c
