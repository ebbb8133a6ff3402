-- The terms of a query as they are before dependencies merge symbols.
-- unmerged: closed under no dependency; the equalities of the condition and the attributes that a variable's objects share merge symbols, and nothing else does
use Rattle.std.specs.Prelude.{List, []}
use Rattle.std.specs.Ordering.{nat_cmp}
use Rattle.std.specs.FinSet.{FinSet}
use Rattle.su_schema.specs.SchemaValue.{SchemaValue}
use Rattle.su_query.specs.declared.resolving.Resolved.{Resolved}
use Rattle.su_steps.specs.declared.results.Term.{Term}
use Rattle.su_steps.specs.Terms.{AreTerms}

-- the schema without its dependencies
abbrev pub without_dependencies : SchemaValue → SchemaValue
without_dependencies schema = record schema { fds = [] }

-- the terms of the query, for the same maximal objects, where there are no dependencies
abbrev pub AreUnmergedTerms : SchemaValue → List (FinSet nat_cmp) → Resolved → List Term → Type 0
AreUnmergedTerms schema maximal q ts = AreTerms (without_dependencies schema) maximal q ts
