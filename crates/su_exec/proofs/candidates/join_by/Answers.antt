-- The rows that the join makes are those of the pairs with one key that pass the tests, so a valuation that gives such a pair gives the row, over the columns that the plan keeps.
use Rattle.std.proofs.Common.{◌≡◌, ℕ, ap, ◌∙◌}
use Rattle.su_exec.specs.inside.Edges.{Edge}
use Rattle.su_exec.specs.inside.Joins.{out_vars}
use Rattle.su_exec.specs.inside.Plans.{columns_of, passes_of}
use Rattle.su_exec.proofs.JoinedEdges.{made_real, made_joins}
use Rattle.su_exec.proofs.candidates.join_by.Goals as goal

pub new-requires-clause-real : goal.new-requires-clause-real
new-requires-clause-real c =
    let a : Edge ℕ = c.args.a.now in
    let b : Edge ℕ = c.args.b.now in
    let columns = columns_of c.args.plan.now in
    let t = passes_of c.args.codes.now c.args.plan.now in
    let vars : c.in_ok-vars.vars.items ≡ out_vars columns a.vars b.vars = c.in_ok-vars.ensures ∙ ap (λ xs. out_vars columns xs c.vars-2.result.now) c.vars.ensures ∙ ap (λ ys. out_vars columns a.vars ys) c.vars-2.ensures in
    made_real a b columns t c.args.most c.rows.result.now.rows c.rows-2.result.now.rows c.in_ok-rows.rows.rows c.in_ok-vars.vars.items c.rows.ensures.rows c.rows-2.ensures.rows c.rows.ensures.real c.rows-2.ensures.real c.requires.fit c.in_ok-rows.ensures.join vars

pub returns-clause-joined : goal.returns-clause-joined
returns-clause-joined c =
    let a : Edge ℕ = c.args.a.now in
    let b : Edge ℕ = c.args.b.now in
    let columns = columns_of c.args.plan.now in
    let t = passes_of c.args.codes.now c.args.plan.now in
    let vars : c.in_ok-vars.vars.items ≡ out_vars columns a.vars b.vars = c.in_ok-vars.ensures ∙ ap (λ xs. out_vars columns xs c.vars-2.result.now) c.vars.ensures ∙ ap (λ ys. out_vars columns a.vars ys) c.vars-2.ensures in
    made_joins a b columns t c.args.most c.rows.result.now.rows c.rows-2.result.now.rows c.in_ok-rows.rows.rows c.in_ok-vars.vars.items c.rows.ensures.rows c.rows-2.ensures.rows c.rows.ensures.real c.rows-2.ensures.real c.requires.fit c.in_ok-rows.ensures.join vars c.in_ok-rows.ensures.differ c.new.result c.new.ensures
