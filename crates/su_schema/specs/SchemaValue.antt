-- What a schema is: five lists in the order of declaration, which numbers their members from 0.
-- attribute: a name and a kind; relation: a name and columns, which have names and kinds
-- object: attributes that one relation joins; link: such an attribute and the column that it is taken from, by number
-- dependency: rows that agree on the left attributes agree on the right ones; declared: a set of objects that is maximal by declaration
use Rattle.std.specs.Prelude.{ℕ, List}
use Rattle.std.specs.Ordering.{nat_cmp}
use Rattle.std.specs.FinSet.{FinSet}
use Rattle.su_base.specs.declared.values.Kind.{Kind}
use Rattle.su_base.specs.declared.values.Column.{Column}
use Rattle.su_fd.specs.declared.Fd.{Fd}
use Rattle.su_schema.specs.declared.links.Link.{Link}

-- an attribute: its name and its kind
pub record AttributeEntry : Type 0 where
  pub name : List ℕ
  pub kind : Kind

-- a relation: its name and its columns
pub record RelationEntry : Type 0 where
  pub name : List ℕ
  pub columns : List Column

-- the links stand in ascending order of their attributes
pub record ObjectEntry : Type 0 where
  pub name : List ℕ
  pub relation : ℕ
  pub links : List Link

-- a schema: attributes, relations, objects, dependencies and declared maximal objects, each in the order of definition
pub record SchemaValue : Type 0 where
  pub attributes : List AttributeEntry
  pub relations : List RelationEntry
  pub objects : List ObjectEntry
  pub fds : List Fd
  pub declared : List (FinSet nat_cmp)
