-- The body cut down gives the needed variables the same, and the merging of it ends in one of three ways, each of which tells what it gives.
use Rattle.std.proofs.Common.{◌∷◌, [], List, ℕ}
use Rattle.su_exec.specs.declared.checks.Check.{Check}
use Rattle.su_exec.specs.inside.Bodies.{IsMerged, IsPast}
use Rattle.su_exec.specs.inside.Checks.{all_hold}
use Rattle.su_exec.specs.inside.Edges.{Edge, Keeps, always}
use Rattle.su_exec.specs.declared.merging.Merged.{Merged}
use Rattle.su_exec.specs.declared.merging.Merged.TheVariants.{Whole, Nothing}
use Rattle.su_exec.proofs.PartSteps.{keeps_trans}
use Rattle.su_exec.proofs.MoreAnswers.{merged_back, told_is}
use Rattle.su_exec.proofs.merging.run.Goals as goal
use Rattle.su_exec.proofs.merging.run.Goals.{In_ok-end}

-- what the body cut down comes to, the body comes to
module _ (c : In_ok-end) where
  back : (merged : Merged) → IsMerged c.args.needed.now c.args.most c.in_ok-rest.rest.edges.items (all_hold c.args.codes.now c.in_ok-rest.rest.checks.items) merged
      → IsMerged c.args.needed.now c.args.most c.args.body.edges.items (all_hold c.args.codes.now c.args.body.checks.items) merged
  back merged m = merged_back c.args.needed.now c.args.most c.args.body.edges.items c.in_ok-rest.rest.edges.items (all_hold c.args.codes.now c.args.body.checks.items) (all_hold c.args.codes.now c.in_ok-rest.rest.checks.items) merged c.in_ok-rest.ensures.keeps m

pub returns-in-Empty : goal.returns-in-Empty
returns-in-Empty c = back (goal.at.returns-in-Empty c).In_ok-end Nothing (rw c.in-Empty.is at c.in_ok-end.ensures.end)

pub told-requires-clause-there : goal.told-requires-clause-there
told-requires-clause-there c = (rw c.in-Past.is at c.in_ok-end.ensures.there).0

pub told-requires-clause-last : goal.told-requires-clause-last
told-requires-clause-last c = (rw c.in-Past.is at c.in_ok-end.ensures.there).1

pub returns-in_ok-merged-in-Past : goal.returns-in_ok-merged-in-Past
returns-in_ok-merged-in-Past c =
    let values = c.args.codes.now in
    let start : List (Edge ℕ) = c.in_ok-rest.rest.edges.items in
    let rest : List (Edge ℕ) = c.merge_down.new.body.edges.items in
    let first : List Check = c.in_ok-rest.rest.checks.items in
    let news : List Check = c.merge_down.new.body.checks.items in
    let merged : Merged = c.in_ok-merged-in-Past.merged in
    let past : IsPast c.args.needed.now c.args.most start (all_hold values first) rest (all_hold values news) = rw c.in-Past.is at c.in_ok-end.ensures.end in
    back (goal.at.returns-in_ok-merged-in-Past c).In_ok-end merged
    (told_is c.args.needed.now c.args.most start rest (all_hold values first) (all_hold values news) merged past c.in_ok-merged-in-Past.ensures)

pub last_of-requires-clause-one : goal.last_of-requires-clause-one
last_of-requires-clause-one c = (rw c.in-One.is at c.in_ok-end.ensures.there).0

pub last_of-requires-clause-there : goal.last_of-requires-clause-there
last_of-requires-clause-there c = (rw c.in-One.is at c.in_ok-end.ensures.there).1

pub returns-in_ok-whole-in-One : goal.returns-in_ok-whole-in-One
returns-in_ok-whole-in-One c =
    let values = c.args.codes.now in
    let start : List (Edge ℕ) = c.in_ok-rest.rest.edges.items in
    let rest : List (Edge ℕ) = c.merge_down.new.body.edges.items in
    let first : List Check = c.in_ok-rest.rest.checks.items in
    let news : List Check = c.merge_down.new.body.checks.items in
    let g : Edge ℕ = c.in_ok-whole-in-One.whole in
    let keeps : Keeps c.args.needed.now start (all_hold values first) rest (all_hold values news) = rw c.in-One.is at c.in_ok-end.ensures.end in
    back (goal.at.returns-in_ok-whole-in-One c).In_ok-end (Whole g)
    (keeps_trans c.args.needed.now start rest (g ∷ []) (all_hold values first) (all_hold values news) always keeps c.in_ok-whole-in-One.ensures.keeps, c.in_ok-whole-in-One.ensures.vars)
