-- The marked rows are some of those that were there, so each is still given by some valuation.
use Rattle.std.proofs.Common.{◌≡◌, ◌∙◌, ℕ, List, map, sym, subst}
use Rattle.std.specs.Prelude.{All}
use Rattle.su_exec.proofs.SemijoinRows.{All-marked}
use Rattle.su_exec.proofs.candidates.Candidates.keep.Goals as goal

pub invariant_of-self : goal.invariant_of-self
invariant_of-self c =
    let s = c.self.inside in
    let P : List ℕ → Type 0 = λ r. (v : ℕ → ℕ) × (map v s.vars.items ≡ r) in
    (c.keep.ensures.width ∙ c.self.invariant.0, subst (λ (rows : List (List ℕ)). All P rows) (sym c.keep.ensures.rows) (All-marked P c.args.marks.now s.rows.rows c.self.invariant.1))
