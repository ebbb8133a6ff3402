-- The expression of a query, before it is minimised: what it answers over one set of value lists per object.
-- family: for each object, by number, the lists of values that it has; a list has one value per attribute of the object
use Rattle.std.specs.Prelude.{◌≡◌, ℕ, ◌<◌, pos, IsTrue, List, length, map, get_or, Contains}
use Rattle.std.specs.Ordering.{nat_cmp}
use Rattle.std.specs.FinSet.{FinSet, contains}
use Rattle.su_base.specs.declared.values.Value.{Value}
use Rattle.su_base.specs.declared.values.Value.TheVariants.{Int}
use Rattle.su_base.specs.Value.{kind_of}
use Rattle.su_where.specs.Truth.{truth_of}
use Rattle.su_tableau.specs.Valuations.{values_at}
use Rattle.su_schema.specs.SchemaValue.{SchemaValue}
use Rattle.su_schema.specs.Entries.{attribute_kinds}
pub use Rattle.su_fd.specs.MetDependencies.{Agree, Meets}
pub use Rattle.su_schema.specs.Cuts.{cut_from, cut, cuts}
use Rattle.su_query.specs.declared.places.Place.{Place}
use Rattle.su_query.specs.declared.resolving.Resolved.{Resolved}
use Rattle.su_query.specs.Sets.{mentioned_with}
use Rattle.su_steps.specs.Objects.{attributes_at, covers}

-- the values of places, where each variable has a list of one value per attribute
abbrev pub place_values : (ℕ → List Value) → List Place → List Value
place_values lists places = map (λ p. get_or (lists p.variable) p.attribute (Int (pos 0))) places

-- h is answered: each variable has a maximal object that covers it and a list of one value of the right kind per attribute, whose cut to each object of that maximal object is in the family, and the condition is true
pub record InExpression (schema : SchemaValue) (maximal : List (FinSet nat_cmp)) (q : Resolved) (family : ℕ → List (List Value)) (h : List Value) : Type 0 where
  pub chosen : ℕ → FinSet nat_cmp
  pub lists : ℕ → List Value
  pub is_maximal : (v : ℕ) → v < length q.variables → Contains maximal (chosen v)
  pub covering : (v : ℕ) → v < length q.variables → IsTrue (covers schema (chosen v) (mentioned_with q.places v))
  pub typed : (v : ℕ) → v < length q.variables → map kind_of (lists v) ≡ attribute_kinds schema
  pub within : (v o : ℕ) → v < length q.variables → o < length schema.objects → IsTrue (contains (chosen v) o) → Contains (family o) (cut (attributes_at schema o) (lists v))
  pub holds : IsTrue (truth_of q.cond (place_values lists q.places))
  pub gives : values_at q.outputs (place_values lists q.places) ≡ h
