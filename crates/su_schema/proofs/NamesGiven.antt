-- Lists of things with texts, all of whose texts are names.
use Rattle.std.proofs.Common.{◌<◌, ◌↔◌, ℕ, List, Bool, IsTrue, length, map, subst, All}
use lib.ListN.{length-map}
use Rattle.std.proofs.lemmas.List.{get_or-map}
use Rattle.std.proofs.lemmas.List.Elements.{All-map}
use Rattle.su_base.specs.Name.{IsName, AreNames}

-- a test of each thing is a test of the texts
pub given_test : {X : Type 0} (f : X → List ℕ) (xs : List X) (all : Bool) → 0 < length xs → IsTrue all ↔ All (λ x. IsName (f x)) xs → IsTrue all ↔ AreNames (map f xs)
given_test f xs all some test = (
  λ yes. record { some = rw (length-map xs f) some; named = All-map IsName f xs (test.0 yes) },
  λ given. test.1 (λ i x within. subst IsName (get_or-map f xs i x (f x) within) (given.named i (f x) (rw (length-map xs f) within))),
)
