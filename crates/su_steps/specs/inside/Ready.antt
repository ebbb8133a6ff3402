-- What the parts of a term rest on.
-- q: a query by numbers; literals: the comparisons of a disjunct; n: how many attributes there are; v, p, m: a variable, a place, a maximal object
-- c: the classes of items, first the constants and then the pairs of a variable and an attribute, with a table of representatives
-- os: the origins, for each row of the tableau its variable and its object, by number from 0
-- No public contract cites this module.
use Rattle.std.specs.Prelude.{◌≡◌, ℕ, ◌+◌, ◌*◌, ◌<◌, ◌≤◌, IsTrue, List, length, map, get_or, All, Contains}
use Rattle.std.specs.Ordering.{nat_cmp}
use Rattle.std.specs.FinSet.{FinSet, contains, empty}
use Rattle.su_where.specs.declared.literals.Literal.{Literal}
use Rattle.su_where.specs.Places.{HasPlacesBelow}
use Rattle.su_classes.specs.Tables.{IsLeastTable}
use Rattle.su_classes.specs.inside.Symbols.{AreDistinct}
use Rattle.su_schema.specs.SchemaValue.{SchemaValue}
use Rattle.su_query.specs.declared.resolving.Resolved.{Resolved}
use Rattle.su_query.specs.Ranges.{IsOfOneKind, place_kinds}
use Rattle.su_steps.specs.declared.results.Origin.{Origin}
use Rattle.su_steps.specs.declared.classes.Classes.{Classes}
use Rattle.su_query.specs.Sets.{mentioned_with}
use Rattle.su_steps.specs.Objects.{width, attributes_at, covers}
use Rattle.su_steps.specs.PairSymbols.{comparisons}
use Rattle.su_steps.specs.inside.Numbers.{AreNoted, equals, placed_of}

-- the classes are of the constants and equalities of a disjunct, and of the pairs of the query's variables
pub record IsReady (n : ℕ) (q : Resolved) (literals : List Literal) (c : Classes) : Type 0 where
  pub width : c.width ≡ n
  pub size : length c.table.items ≡ length c.constants + length q.variables * n
  pub distinct : AreDistinct c.constants
  pub noted : All (AreNoted c.constants) literals
  pub equal : c.equal ≡ equals c.constants (comparisons n q.places literals)

-- the classes are the least in which equal items are together and the dependencies are kept on the rows of these origins
pub record AreClosed (schema : SchemaValue) (q : Resolved) (literals : List Literal) (os : List Origin) (c : Classes) : Type 0 where
  pub ready : IsReady (width schema) q literals c
  pub least : IsLeastTable schema.fds (map (placed_of schema c.constants) os) c.equal c.table.items

-- the comparisons of a disjunct have places of the query, and sides of one kind
pub record FitLiterals (schema : SchemaValue) (q : Resolved) (literals : List Literal) : Type 0 where
  pub places : All (HasPlacesBelow (length q.places)) literals
  pub kinds : All (IsOfOneKind (place_kinds schema q.places)) literals

-- the origins are of variables of the query and of objects of the schema, and there are at most 64
pub record FitOrigins (schema : SchemaValue) (q : Resolved) (os : List Origin) : Type 0 where
  pub in_range : All (λ o. (o.variable < length q.variables) × (o.object < length schema.objects)) os
  pub few : length os ≤ 64

-- each place of the query is that of some row
abbrev pub IsShown : SchemaValue → Resolved → List Origin → Type 0
IsShown schema q os = All (λ p. (o : Origin) × Contains os o × (o.variable ≡ p.variable) × IsTrue (contains (attributes_at schema o.object) p.attribute)) q.places

-- for each variable the number of a maximal object that covers it
pub record IsChoice (schema : SchemaValue) (maximal : List (FinSet nat_cmp)) (q : Resolved) (choice : List ℕ) : Type 0 where
  pub one_per_variable : length choice ≡ length q.variables
  pub in_range : All (λ m. m < length maximal) choice
  pub covering : (v : ℕ) → v < length q.variables → IsTrue (covers schema (get_or maximal (get_or choice v 0) empty) (mentioned_with q.places v))
