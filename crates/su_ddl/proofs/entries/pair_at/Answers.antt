-- The object has a pair of the attribute exactly where it takes it from a column, and the pair has the names of the two.
use Rattle.std.proofs.Common.{◌≡◌, [], Some, None}
use Rattle.std.proofs.lemmas.Option.{get_or_from_slice_get}
use Rattle.su_schema.specs.Entries.{attribute_names, column_of}
use Rattle.su_ddl.specs.ShownDefinitions.{name_at}
use Rattle.su_ddl.proofs.Lines.{two_fields, pair_on}
use Rattle.su_ddl.proofs.entries.pair_at.Goals as goal

pub returns-in-None : goal.returns-in-None
returns-in-None c =
    two_fields (λ x. column_of x c.args.a) (λ x. x.relation) (pair_on c.args.schema.now c.args.a) c.args.schema.now.objects c.args.o None c.args.r c.in-None.ensures c.requires.relation

pub returns-in_ok-column-in-Some : goal.returns-in_ok-column-in-Some
returns-in_ok-column-in-Some c =
    let schema = c.args.schema.now in
    let named : name_at (attribute_names schema) c.args.a ≡ c.attribute_name.result.now =
    get_or_from_slice_get (attribute_names schema) c.args.a c.attribute_name.result.now [] c.attribute_name.ensures in
    rw (c.in_ok-attribute-in-Some.ensures, c.in_ok-column-in-Some.ensures, c.column_name.ensures, ← named)
    (two_fields (λ x. column_of x c.args.a) (λ x. x.relation) (pair_on schema c.args.a) schema.objects c.args.o (Some c.in-Some.c) c.args.r c.in-Some.ensures c.requires.relation)
