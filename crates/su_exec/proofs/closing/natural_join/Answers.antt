-- The join has no tests and keeps all variables of both, so a valuation fits it exactly where it fits the two.
use Rattle.std.proofs.Common.{◌≡◌, ◌∷◌, ◌++◌, [], ℕ, Bool, true, ap, ◌∙◌, rules, ⊎_elim}
use Rattle.std.specs.Prelude.{map}
use Rattle.su_exec.specs.inside.Checks.{all_pass}
use Rattle.su_exec.specs.inside.Edges.{Edge, among, has}
use Rattle.su_exec.specs.inside.Joins.{test_at}
use Rattle.su_exec.proofs.Triples.{natural_same}
use Rattle.su_exec.proofs.Parts.{one_of}
use Rattle.su_exec.proofs.BodySteps.{has_first, has_second}
use Rattle.su_exec.proofs.closing.natural_join.Goals as goal
use Rattle.su_exec.proofs.closing.natural_join.Goals.{In_ok-joined}

-- all variables of both are kept
module _ (c : In_ok-joined) where
  abbrev a : Edge ℕ
  a = c.args.a.now

  abbrev b : Edge ℕ
  b = c.args.b.now

  abbrev g : Edge ℕ
  g = c.in_ok-joined.joined

  whole : (k : ℕ) → among (a ∷ b ∷ []) k ≡ true → has g.vars k ≡ true
  whole k h =
      let all : has (a.vars ++ b.vars) k ≡ true =
      ⊎_elim (λ (x : has a.vars k ≡ true). has_first a.vars b.vars k x) (λ (x : has b.vars k ≡ true). has_second a.vars b.vars k x) (one_of a b k h) in
      let is : c.deref.result.now ≡ a.vars ++ b.vars = search rules in
      c.in_ok-joined.ensures.wanted k h (ap (λ ks. has ks k) is ∙ all)

pub returns-clause-same : goal.returns-clause-same
returns-clause-same c =
    let d = (goal.at.returns-clause-same c).In_ok-joined in
    let values = c.args.codes.now in
    let t : (ℕ → ℕ) → Bool = test_at (all_pass values c.new.result.items) (a d).vars (b d).vars in
    natural_same (a d) (b d) (g d) t (λ v. ap (λ ts. all_pass values ts (map v (a d).vars) (map v (b d).vars)) c.new.ensures.items) (c.in_ok-joined.ensures.joined.keeps tt) (whole d)

pub returns-clause-vars : goal.returns-clause-vars
returns-clause-vars c = whole (goal.at.returns-clause-vars c).In_ok-joined
