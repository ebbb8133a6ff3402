-- In an ascending list a search finds a value exactly where it is a member: the place where it would stand has either the value or a greater one.
use Rattle.std.proofs.Common.{◌↔◌, Contains, sym, subst}
use Rattle.std.specs.Prelude.{Bool, IsTrue}
use Rattle.su_chase.proofs.Searches.{among_searched}
use Rattle.su_chase.proofs.candidates.is_among.Goals as goal

pub returns : goal.returns
returns c =
    let vs = c.args.values.now in
    let v = c.args.value.now in
    subst (λ (b : Bool). IsTrue b ↔ Contains vs v) (sym c.is_ok.ensures.value) (among_searched vs v c.binary_search.result c.requires c.binary_search.ensures.bound c.binary_search.ensures.position)
