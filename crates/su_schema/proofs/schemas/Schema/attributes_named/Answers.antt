-- The set has the numbers of the names so far, all known and distinct; so the next name fails as unknown, or as given twice where its number is in the set, or adds its number.
use Rattle.std.proofs.Common.{◌≡◌, Some, None, inr, sym}
use Rattle.su_schema.specs.Entries.{attribute_names, place_of}
use Rattle.su_schema.proofs.NamesSoFar.{names_unknown, names_twice, names_next}
use Rattle.su_schema.proofs.schemas.Schema.attributes_named.Goals as goal

pub returns-in-None-clause-refused : goal.returns-in-None-clause-refused
returns-in-None-clause-refused c =
    let none : place_of (attribute_names c.args.self.now) c.name-item.result ≡ None = rw (← c.as_str.ensures) (sym c.in-None.ensures) in
    inr (rw c.in_ok-copy-in-None.ensures (names_unknown _ _ _ _ c.loop-name.invariant c.name-item.result c.loop-name-test.true c.name-item.is none))

pub returns-then-contains-clause-refused : goal.returns-then-contains-clause-refused
returns-then-contains-clause-refused c =
    let found : place_of (attribute_names c.args.self.now) c.name-item.result ≡ Some c.in-Some.a = rw (← c.as_str.ensures) (sym c.in-Some.ensures) in
    inr (rw c.in_ok-copy.ensures (names_twice _ _ _ _ c.loop-name.invariant c.name-item.result c.loop-name-test.true c.name-item.is c.in-Some.a found (sym c.if-contains.ensures)))

pub loop-name-preserved : goal.loop-name-preserved
loop-name-preserved c =
    let found : place_of (attribute_names c.args.self.now) c.name-item.result ≡ Some c.in-Some.a = rw (← c.as_str.ensures) (sym c.in-Some.ensures) in
    rw c.insert-set.ensures (names_next _ _ _ _ c.loop-name.invariant c.name-item.result c.loop-name-test.true c.name-item.is c.in-Some.a found (sym c.if-contains.ensures))
