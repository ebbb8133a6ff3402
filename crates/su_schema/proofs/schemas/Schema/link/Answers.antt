-- The pair's checks ask for its attribute and then for its column; the first that isn't found is the check that fails, and where both are found their numbers make the link.
use Rattle.std.proofs.Common.{◌≡◌, ◌<◌, length, Some, None, inr, sym}
use lib.ListN.{length-map}
use Rattle.su_schema.specs.Entries.{attribute_names, column_names, relation_columns, place_of}
use Rattle.su_schema.specs.Known.{columns_at}
use Rattle.su_schema.proofs.PairsSoFar.{attribute_unknown, column_unknown, both_found, column_place}
use Rattle.su_schema.proofs.schemas.Schema.link.Goals as goal

pub returns-in-None-clause-refused : goal.returns-in-None-clause-refused
returns-in-None-clause-refused c =
    let none : place_of (attribute_names c.args.self.now) c.args.pair.now.attribute ≡ None = rw (← c.as_str.ensures) (sym c.in-None.ensures) in
    inr (rw c.in_ok-copy-in-None.ensures (attribute_unknown c.args.self.now (columns_at c.args.self.now c.args.relation) c.args.pair.now none))

pub returns-in-None-find_column-clause-refused : goal.returns-in-None-find_column-clause-refused
returns-in-None-find_column-clause-refused c =
    let found : place_of (attribute_names c.args.self.now) c.args.pair.now.attribute ≡ Some c.in-Some.a = rw (← c.as_str.ensures) (sym c.in-Some.ensures) in
    let within : c.args.relation < length (relation_columns c.args.self.now) = rw length-map c.requires in
    let none : place_of (column_names (columns_at c.args.self.now c.args.relation)) c.args.pair.now.column ≡ None =
    rw (← c.as_str-2.ensures) (column_place c.args.self.now c.args.relation c.as_str-2.result.now None within c.in-None-find_column.ensures) in
    inr (rw c.in_ok-copy-in-None-find_column.ensures (column_unknown c.args.self.now (columns_at c.args.self.now c.args.relation) c.args.pair.now c.in-Some.a found none))

pub returns-clause-passed : goal.returns-clause-passed
returns-clause-passed c =
    let found : place_of (attribute_names c.args.self.now) c.args.pair.now.attribute ≡ Some c.in-Some.a = rw (← c.as_str.ensures) (sym c.in-Some.ensures) in
    let within : c.args.relation < length (relation_columns c.args.self.now) = rw length-map c.requires in
    let column : place_of (column_names (columns_at c.args.self.now c.args.relation)) c.args.pair.now.column ≡ Some c.in-Some-find_column.c =
    rw (← c.as_str-2.ensures) (column_place c.args.self.now c.args.relation c.as_str-2.result.now (Some c.in-Some-find_column.c) within c.in-Some-find_column.ensures) in
    (both_found c.args.self.now (columns_at c.args.self.now c.args.relation) c.args.pair.now c.in-Some.a c.in-Some-find_column.c found column).0

pub returns-clause-numbers : goal.returns-clause-numbers
returns-clause-numbers c =
    let found : place_of (attribute_names c.args.self.now) c.args.pair.now.attribute ≡ Some c.in-Some.a = rw (← c.as_str.ensures) (sym c.in-Some.ensures) in
    let within : c.args.relation < length (relation_columns c.args.self.now) = rw length-map c.requires in
    let column : place_of (column_names (columns_at c.args.self.now c.args.relation)) c.args.pair.now.column ≡ Some c.in-Some-find_column.c =
    rw (← c.as_str-2.ensures) (column_place c.args.self.now c.args.relation c.as_str-2.result.now (Some c.in-Some-find_column.c) within c.in-Some-find_column.ensures) in
    (both_found c.args.self.now (columns_at c.args.self.now c.args.relation) c.args.pair.now c.in-Some.a c.in-Some-find_column.c found column).1
