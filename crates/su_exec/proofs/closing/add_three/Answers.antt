-- A valuation that the pairs and the third give is one of all three and the other way round, since the pairs keep all variables of the first two.
use Rattle.std.proofs.Common.{◌≡◌, ℕ, Bool, true, ap, inl, inr, ⊎_elim}
use Rattle.std.specs.Prelude.{map}
use Rattle.su_exec.specs.inside.Checks.{all_pass}
use Rattle.su_exec.specs.inside.Edges.{Edge, has}
use Rattle.su_exec.specs.inside.Joins.{test_at}
use Rattle.su_exec.proofs.Triples.{among_pairs, three_all, three_only}
use Rattle.su_exec.proofs.closing.add_three.Goals as goal
use Rattle.su_exec.proofs.closing.add_three.Goals.{In_ok-closed}

-- the pairs, and what the third leaves of them
module _ (c : In_ok-closed) where
  abbrev third : Edge ℕ
  third = c.args.c.now

  abbrev pairs : Edge ℕ
  pairs = c.in_ok-pairs.pairs

  abbrev closed : Edge ℕ
  closed = c.in_ok-closed.closed

  abbrev test : (ℕ → ℕ) → Bool
  test = test_at (all_pass c.args.codes.now c.new.result.items) pairs.vars third.vars

  passes : (v : ℕ → ℕ) → test v ≡ true
  passes v = ap (λ ts. all_pass c.args.codes.now ts (map v pairs.vars) (map v third.vars)) c.new.ensures.items

  within : (k : ℕ) → has c.args.vars.now k ≡ true → has closed.vars k ≡ true
  within k h = c.in_ok-closed.ensures.wanted k (among_pairs c.args.a.now c.args.b.now third pairs c.in_ok-pairs.ensures.vars k (c.requires.within k h)) h

pub add_given-requires-clause-within : goal.add_given-requires-clause-within
add_given-requires-clause-within c = within (goal.at.add_given-requires-clause-within c).In_ok-closed

pub returns-clause-only : goal.returns-clause-only
returns-clause-only c = λ r h.
    let d = (goal.at.returns-clause-only c).In_ok-closed in
    ⊎_elim (λ o. inl o) (λ x. inr (three_only c.args.a.now c.args.b.now (third d) (pairs d) (closed d) c.args.vars.now (test d) (passes d) c.in_ok-pairs.ensures.same (c.in_ok-closed.ensures.joined.keeps tt) (within d) r x)) (c.in_ok-add_given.ensures.only r h)

pub returns-clause-all : goal.returns-clause-all
returns-clause-all c = λ r x.
    let d = (goal.at.returns-clause-all c).In_ok-closed in
    c.in_ok-add_given.ensures.all r (three_all c.args.a.now c.args.b.now (third d) (pairs d) (closed d) c.args.vars.now (test d) (passes d) c.in_ok-pairs.ensures.same (c.in_ok-closed.ensures.joined.keeps tt) (within d) r x)
