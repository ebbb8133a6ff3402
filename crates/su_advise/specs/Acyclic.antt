-- Whether a maximal object is acyclic, by the ear orders of edges. `objects` has the attributes of each object.
-- edge of an object: its attributes as variables, ascending; the edges stand in the order of the objects' numbers
-- order of objects: those of the edges of an ear order
use Rattle.std.specs.Prelude.{ℕ, ◌≡◌, List, length, map, get_or}
use Rattle.std.specs.Ordering.{nat_cmp}
use Rattle.std.specs.FinSet.{FinSet}
use Rattle.su_tableau.specs.declared.symbols.Sym.{Sym}
use Rattle.su_tableau.specs.declared.symbols.Sym.TheVariants.{Var}
use Rattle.su_base.specs.Sets.{set_at}
use Rattle.su_schema.specs.SetMembers.{numbers_in}
use Rattle.su_reduce.specs.declared.edges.Ear.{Ear}
use Rattle.su_reduce.specs.Ears.{IsEarOrder, numbers}

-- the edge of an object with these attributes
abbrev pub edge_of : FinSet nat_cmp → List Sym
edge_of object = map (λ a. Var a) (numbers_in object 128)

-- the members of m, ascending
abbrev pub members_of : List (FinSet nat_cmp) → FinSet nat_cmp → List ℕ
members_of objects m = numbers_in m (length objects)

-- the edges of the members
abbrev pub edges_of : List (FinSet nat_cmp) → FinSet nat_cmp → List (List Sym)
edges_of objects m = map (λ o. edge_of (set_at objects o)) (members_of objects m)

-- the objects in an order in which they are taken apart ear by ear
pub record IsTakenApart (objects : List (FinSet nat_cmp)) (m : FinSet nat_cmp) (order : List ℕ) : Type 0 where
  pub ears : List Ear
  pub ears_are : IsEarOrder (edges_of objects m) ears
  pub order_is : order ≡ map (λ i. get_or (members_of objects m) i 0) (numbers ears)
