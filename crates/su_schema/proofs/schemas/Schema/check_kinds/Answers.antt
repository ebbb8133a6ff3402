-- The link has the numbers of what the pair names, so the two kinds that are compared are those of the pair's own attribute and column.
use Rattle.std.proofs.Common.{◌≡◌, inr, ap, refl}
use Rattle.su_schema.specs.Known.{columns_at, attribute_kind, column_kind}
use Rattle.su_schema.proofs.PairsSoFar.{columns_there, attribute_within, column_within, kind_of_attribute, kind_of_column}
use Rattle.su_schema.proofs.schemas.Schema.check_kinds.Goals as goal

pub bounds-columns-link : goal.bounds-columns-link
bounds-columns-link c =
    rw (ap (λ l. l.column) c.requires.link, ← columns_there c.args.self.now c.args.relation c.columns.result.now c.columns.ensures.at)
    (column_within c.args.self.now (columns_at c.args.self.now c.args.relation) c.args.pair.now c.requires.known)

pub attribute_kind-requires : goal.attribute_kind-requires
attribute_kind-requires c = rw (ap (λ l. l.attribute) c.requires.link) (attribute_within c.args.self.now (columns_at c.args.self.now c.args.relation) c.args.pair.now c.requires.known)

pub returns-then-is_one_kind-clause-passed : goal.returns-then-is_one_kind-clause-passed
returns-then-is_one_kind-clause-passed c =
    let there = columns_there c.args.self.now c.args.relation c.columns.result.now c.columns.ensures.at in
    let a : attribute_kind c.args.self.now c.args.pair.now.attribute ≡ c.attribute_kind.result =
    kind_of_attribute c.args.self.now (columns_at c.args.self.now c.args.relation) c.args.pair.now c.requires.known c.attribute_kind.result (rw (← ap (λ l. l.attribute) c.requires.link) c.attribute_kind.ensures) in
    let k : column_kind (columns_at c.args.self.now c.args.relation) c.args.pair.now.column ≡ c.index-columns-link.result.kind =
    kind_of_column c.args.self.now (columns_at c.args.self.now c.args.relation) c.args.pair.now c.requires.known c.index-columns-link.result (rw (← ap (λ l. l.column) c.requires.link, there) c.index-columns-link.is) in
    rw (a, k, ← c.if-is_one_kind.ensures) refl

pub returns-clause-refused : goal.returns-clause-refused
returns-clause-refused c =
    let there = columns_there c.args.self.now c.args.relation c.columns.result.now c.columns.ensures.at in
    let a : attribute_kind c.args.self.now c.args.pair.now.attribute ≡ c.attribute_kind.result =
    kind_of_attribute c.args.self.now (columns_at c.args.self.now c.args.relation) c.args.pair.now c.requires.known c.attribute_kind.result (rw (← ap (λ l. l.attribute) c.requires.link) c.attribute_kind.ensures) in
    let k : column_kind (columns_at c.args.self.now c.args.relation) c.args.pair.now.column ≡ c.index-columns-link.result.kind =
    kind_of_column c.args.self.now (columns_at c.args.self.now c.args.relation) c.args.pair.now c.requires.known c.index-columns-link.result (rw (← ap (λ l. l.column) c.requires.link, there) c.index-columns-link.is) in
    inr (rw (a, k, ← c.if-is_one_kind.ensures, c.in_ok-copy.ensures, c.in_ok-copy-2.ensures) refl)
