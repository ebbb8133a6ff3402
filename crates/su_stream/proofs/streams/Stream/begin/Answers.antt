-- The open text begins behind the byte order mark, where there is one.
use Rattle.std.proofs.Common.{◌≡◌, refl, arith, sym, ◌∙◌}
use Rattle.std.proofs.lemmas.List.{length-drop}
use Rattle.su_stream.specs.inside.Fronts.{front_at}
use Rattle.su_stream.specs.declared.fronts.Front.TheVariants.{Mark, Other}
use Rattle.su_stream.proofs.Fields.{mark_same, other_same}
use Rattle.su_stream.proofs.streams.Stream.begin.Goals as goal

pub returns-in-Mark-clause-same : goal.returns-in-Mark-clause-same
returns-in-Mark-clause-same c =
    let front : front_at c.args.self.now.held.items ≡ Mark = sym (rw c.as_slice.ensures.value at c.front_of.ensures) ∙ c.in-Mark.is in
    mark_same c.args.self.now _ c.if-self.false front refl refl refl refl c.new-self.ensures refl

pub returns-in-Mark-clause-from : goal.returns-in-Mark-clause-from
returns-in-Mark-clause-from c =
    let old = c.args.self.now in
    omega (arith, length-drop 3 old.held.items, length-drop old.from old.held.items, old.first c.if-self.false)

pub returns-in-Other-clause-same : goal.returns-in-Other-clause-same
returns-in-Other-clause-same c =
    let front : front_at c.args.self.now.held.items ≡ Other = sym (rw c.as_slice.ensures.value at c.front_of.ensures) ∙ c.in-Other.is in
    other_same c.args.self.now _ c.if-self.false front refl refl refl refl refl refl
