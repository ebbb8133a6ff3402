-- An edge keeps the rows that pass the tests on it alone: where all its columns are needed it is sifted where it stands, else it is joined with itself and keeps the columns that the rest or the outputs need.
use Rattle.std.proofs.Common.{◌≡◌, ◌∷◌, ◌&&◌, ◌||◌, [], List, ℕ, map, refl, ap, subst, ◌∙◌}
use Rattle.su_base.specs.declared.values.Value.{Value}
use Rattle.su_exec.specs.declared.checks.Check.{Check}
use Rattle.su_exec.specs.declared.checks.Test.{Test}
use Rattle.su_exec.specs.inside.Bodies.{AreThere}
use Rattle.su_exec.specs.inside.Checks.{all_hold, all_pass}
use Rattle.su_exec.specs.inside.Edges.{Edge, has}
use Rattle.su_exec.specs.inside.Sifts.{IsSifted}
use Rattle.su_exec.proofs.MergeSteps.{all_of_one, shrunk_keeps, shrunk_there, sifted_keeps, sifted_there}
use Rattle.su_exec.proofs.merging.shrunk.Goals as goal
use Rattle.su_exec.proofs.merging.shrunk.Goals.{In_ok-tests}

-- what both ways out share: which checks were taken
module _ (c : In_ok-tests) where
  abbrev a : Edge ℕ
  a = c.args.a

  abbrev rest : List (Edge ℕ)
  rest = c.args.rest.now.edges.items

  abbrev olds : List Check
  olds = c.args.rest.now.checks.items

  abbrev news : List Check
  news = c.take_tests.new.checks.items

  abbrev tests : List Test
  tests = c.in_ok-tests.tests.items

  same : (values : List Value) (v : ℕ → ℕ) → all_hold values olds v ≡ (all_pass values tests (map v a.vars) (map v a.vars) && all_hold values news v)
  same values v =
      c.in_ok-tests.ensures.same values v ∙ ap (λ xs. all_pass values tests (map v xs) (map v c.vars-2.result.now) && all_hold values news v) c.vars.ensures
      ∙ ap (λ ys. all_pass values tests (map v a.vars) (map v ys) && all_hold values news v) c.vars-2.ensures

  settled : AreThere c.args.needed.now olds (a ∷ []) → news ≡ []
  settled there = c.in_ok-tests.ensures.all (λ k h.
      ap (λ xs. has xs k || has c.vars-2.result.now k) c.vars.ensures ∙ ap (λ ys. has a.vars k || has ys k) c.vars-2.ensures ∙ all_of_one c.args.needed.now olds a there k h)

pub returns-then-are_wanted-clause-keeps : goal.returns-then-are_wanted-clause-keeps
returns-then-are_wanted-clause-keeps c =
    let d = (goal.at.returns-then-are_wanted-clause-keeps c).In_ok-tests in
    let sifted : IsSifted (all_pass c.args.codes.now (tests d)) (a d) c.sift.new.a = subst (λ (ts : List Test). IsSifted (all_pass c.args.codes.now ts) (a d) c.sift.new.a) c.deref-then-are_wanted.ensures.value c.in_ok-sift.ensures in
    sifted_keeps c.args.codes.now c.args.needed.now (olds d) (news d) (tests d) (a d) (rest d) (rest d) refl (same d) c.in_ok-tests.ensures.vars c.sift.new.a sifted

pub returns-then-are_wanted-clause-there : goal.returns-then-are_wanted-clause-there
returns-then-are_wanted-clause-there c =
    let d = (goal.at.returns-then-are_wanted-clause-there c).In_ok-tests in
    let sifted : IsSifted (all_pass c.args.codes.now (tests d)) (a d) c.sift.new.a = subst (λ (ts : List Test). IsSifted (all_pass c.args.codes.now ts) (a d) c.sift.new.a) c.deref-then-are_wanted.ensures.value c.in_ok-sift.ensures in
    sifted_there c.args.codes.now c.args.needed.now (olds d) (news d) (tests d) (a d) (rest d) (rest d) refl (same d) c.in_ok-tests.ensures.vars c.sift.new.a sifted

pub returns-then-are_wanted-clause-settled : goal.returns-then-are_wanted-clause-settled
returns-then-are_wanted-clause-settled c = λ none there. settled (goal.at.returns-then-are_wanted-clause-settled c).In_ok-tests there

pub returns-clause-keeps : goal.returns-clause-keeps
returns-clause-keeps c =
    let d = (goal.at.returns-clause-keeps c).In_ok-tests in
    shrunk_keeps c.args.codes.now c.args.needed.now (olds d) (news d) (tests d) (a d) (rest d) (rest d) refl (same d) c.in_ok-tests.ensures.vars
    c.in_ok-wanted.wanted.items c.in_ok-joined.joined c.in_ok-wanted.ensures.needed c.in_ok-wanted.ensures.edges c.in_ok-wanted.ensures.checks c.in_ok-joined.ensures.joined
    (λ k h w. c.in_ok-joined.ensures.wanted k h (ap (λ ks. has ks k) c.deref-2.ensures.value ∙ w))

pub returns-clause-there : goal.returns-clause-there
returns-clause-there c =
    let d = (goal.at.returns-clause-there c).In_ok-tests in
    shrunk_there c.args.codes.now c.args.needed.now (olds d) (news d) (tests d) (a d) (rest d) (rest d) refl (same d) c.in_ok-tests.ensures.vars
    c.in_ok-wanted.wanted.items c.in_ok-joined.joined c.in_ok-wanted.ensures.needed c.in_ok-wanted.ensures.edges c.in_ok-wanted.ensures.checks c.in_ok-joined.ensures.joined
    (λ k h w. c.in_ok-joined.ensures.wanted k h (ap (λ ks. has ks k) c.deref-2.ensures.value ∙ w))

pub returns-clause-settled : goal.returns-clause-settled
returns-clause-settled c = λ none there. settled (goal.at.returns-clause-settled c).In_ok-tests there
