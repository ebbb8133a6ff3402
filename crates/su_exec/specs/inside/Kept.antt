-- What steps keep of a body, said of whole bodies.
-- body: edges that are to agree, and checks that are to hold of the values that codes stand for
-- No public contract cites this module.
use Rattle.std.specs.Prelude.{ℕ, Option, List, [], ◌∷◌, ◌++◌}
use Rattle.su_base.specs.declared.values.Value.{Value}
use Rattle.su_exec.specs.declared.merging.Body.{Body}
use Rattle.su_exec.specs.declared.merging.End.{End}
use Rattle.su_exec.specs.declared.merging.Step.{Step}
use Rattle.su_exec.specs.inside.Bodies.{AreThere, IsEmpty, IsEnd, IsGiven, IsStep}
use Rattle.su_exec.specs.inside.Checks.{all_hold}
use Rattle.su_exec.specs.inside.Edges.{Edge, Keeps}

-- both bodies give the needed variables the same values
abbrev pub KeepsBody : List ℕ → List Value → Body → Body → Type 0
KeepsBody needed values old new = Keeps needed old.edges.items (all_hold values old.checks.items) new.edges.items (all_hold values new.checks.items)

-- these edges in place of the body's give the needed variables the same values
abbrev pub KeepsWith : List ℕ → List Value → Body → List (Edge ℕ) → Type 0
KeepsWith needed values body es = Keeps needed body.edges.items (all_hold values body.checks.items) es (all_hold values body.checks.items)

-- edge g after the new body gives the needed variables the same values as edge a before the old one
abbrev pub KeepsShrunk : List ℕ → List Value → Edge ℕ → Body → Edge ℕ → Body → Type 0
KeepsShrunk needed values a old g new = Keeps needed (a ∷ old.edges.items) (all_hold values old.checks.items) (new.edges.items ++ g ∷ []) (all_hold values new.checks.items)

-- if needed and compared variables were in an edge then, they still are
abbrev pub AreStillThere : List ℕ → Edge ℕ → Body → Edge ℕ → Body → Type 0
AreStillThere needed a old g new = AreThere needed old.checks.items (a ∷ old.edges.items) → AreThere needed new.checks.items (new.edges.items ++ g ∷ [])

-- what a step makes of the old body is the new one
abbrev pub IsStepOf : List ℕ → Option ℕ → List Value → Body → Body → Step → Type 0
IsStepOf needed most values old new = IsStep needed most old.edges.items (all_hold values old.checks.items) new.edges.items (all_hold values new.checks.items)

-- the merging of the old body ends so, with the new one left
abbrev pub IsEndOf : List ℕ → Option ℕ → List Value → Body → Body → End → Type 0
IsEndOf needed most values old new = IsEnd needed most old.edges.items (all_hold values old.checks.items) new.edges.items (all_hold values new.checks.items)

-- the body gives something
abbrev pub GivesSome : List Value → Body → Type 0
GivesSome values body = IsGiven [] body.edges.items (all_hold values body.checks.items) []

-- the body gives nothing
abbrev pub GivesNone : List Value → Body → Type 0
GivesNone values body = IsEmpty body.edges.items (all_hold values body.checks.items)
