-- Each of the rows was there before, so a valuation gives it still.
use Rattle.std.proofs.Common.{rules, ◌≡◌, ◌∙◌, ap, List, ℕ, get_or}
use Rattle.std.specs.Prelude.{map}
use Rattle.std.proofs.lemmas.List.{get_or_default}
use Rattle.su_exec.proofs.candidates.Candidates.with_rows.Goals as goal

pub new-requires-clause-real : goal.new-requires-clause-real
new-requires-clause-real c = λ k d l.
    let row : List ℕ = get_or c.args.rows.rows k d in
    let h = c.requires.some row (k, l, get_or_default c.args.rows.rows k row d l) in
    let x = c.rows-rows.ensures.real h.0 row h.1 in
    let same : c.in_ok-vars.vars.items ≡ c.args.self.now.vars = search rules in
    (x.0, ap (map x.0) same ∙ x.1 ∙ h.2)
