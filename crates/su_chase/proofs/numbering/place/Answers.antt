-- In an ascending list a search finds a constant's own place, and where it finds none the constant isn't there.
use Rattle.std.proofs.Common.{◌≡◌, ℕ, length, subst}
use Rattle.std.specs.Prelude.{Result}
use Rattle.std.specs.Result.{MatchResult}
use Rattle.su_classes.specs.inside.Symbols.{constant_place}
use Rattle.su_chase.proofs.FirstClash.{place_searched}
use Rattle.su_chase.proofs.numbering.place.Goals as goal

pub returns-in-Ok : goal.returns-in-Ok
returns-in-Ok c =
    let vs = c.args.constants.now in
    let v = c.args.value.now in
    subst (λ (r : Result ℕ ℕ). MatchResult r (λ i. i ≡ constant_place vs v) (λ _. length vs ≡ constant_place vs v)) c.in-Ok.is
    (place_searched vs v c.binary_search.result c.requires c.binary_search.ensures.bound c.binary_search.ensures.position)

pub returns-in-Err : goal.returns-in-Err
returns-in-Err c =
    let vs = c.args.constants.now in
    let v = c.args.value.now in
    subst (λ (r : Result ℕ ℕ). MatchResult r (λ i. i ≡ constant_place vs v) (λ _. length vs ≡ constant_place vs v)) c.in-Err.is
    (place_searched vs v c.binary_search.result c.requires c.binary_search.ensures.bound c.binary_search.ensures.position)
