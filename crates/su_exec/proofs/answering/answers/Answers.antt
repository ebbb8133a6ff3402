-- The rows found are the values of the terms in each row of the edge, so that sorted, each once, they are what it shows; more than the cap of them are that many different ones.
use Rattle.std.proofs.Common.{◌≡◌, List, ℕ, length, map, Contains, sym, ap, subst, ◌∙◌, arith}
use Rattle.su_base.specs.declared.values.Value.{Value}
use Rattle.su_rel.proofs.MoreThan.{AreMoreThan-ascending}
use Rattle.su_exec.specs.inside.Edges.{Edge}
use Rattle.su_exec.specs.inside.Shown.{AreSpotsOf, IsShown, spot_values}
use Rattle.su_exec.specs.declared.checks.Spot.{Spot}
use Rattle.su_exec.proofs.Outputs.{shown, spots_within}
use Rattle.su_exec.proofs.answering.answers.Goals as goal

pub rows_at-requires : goal.rows_at-requires
rows_at-requires c =
    let e : Edge ℕ = c.args.last.now in
    let are : AreSpotsOf e.vars c.args.outputs.now c.in_ok-spots.spots.items = subst (λ (vars : List ℕ). AreSpotsOf vars c.args.outputs.now c.in_ok-spots.spots.items) c.vars.ensures c.in_ok-spots.ensures in
    rw c.deref.ensures.value (spots_within e.vars c.args.outputs.now c.in_ok-spots.spots.items are)

pub returns-clause-exact : goal.returns-clause-exact
returns-clause-exact c = λ h.
    let values : List Value = c.args.codes.now in
    let e : Edge ℕ = c.args.last.now in
    let spots : List Spot = c.in_ok-spots.spots.items in
    let are : AreSpotsOf e.vars c.args.outputs.now spots = subst (λ (vars : List ℕ). AreSpotsOf vars c.args.outputs.now spots) c.vars.ensures c.in_ok-spots.ensures in
    let is : c.in_ok-found.found.items ≡ map (spot_values values spots) e.rows = c.in_ok-found.ensures.rows ∙ ap (λ ss. map (spot_values values ss) e.rows) c.deref.ensures.value in
    let found : c.from_vec.result ≡ map (spot_values values spots) e.rows = c.from_vec.ensures ∙ is in
    let m = c.sorted_rows-rows.ensures.members h in
    let s = shown values e c.args.outputs.now spots c.rows.ensures.real are h in (
      λ x. s.0 (subst (λ (rows : List (List Value)). Contains rows h) found (m.0 x)),
      λ x. m.1 (subst (λ (rows : List (List Value)). Contains rows h) (sym found) (s.1 x)),
    )

pub returns-then-len-cap-clause-more : goal.returns-then-len-cap-clause-more
returns-then-len-cap-clause-more c = λ fault.
    let values : List Value = c.args.codes.now in
    let e : Edge ℕ = c.args.last.now in
    let spots : List Spot = c.in_ok-spots.spots.items in
    let are : AreSpotsOf e.vars c.args.outputs.now spots = subst (λ (vars : List ℕ). AreSpotsOf vars c.args.outputs.now spots) c.vars.ensures c.in_ok-spots.ensures in
    let is : c.in_ok-found.found.items ≡ map (spot_values values spots) e.rows = c.in_ok-found.ensures.rows ∙ ap (λ ss. map (spot_values values ss) e.rows) c.deref.ensures.value in
    let found : c.from_vec.result ≡ map (spot_values values spots) e.rows = c.from_vec.ensures ∙ is in
    let rows : List (List Value) = c.sorted_rows-rows.result in
    let many = c.if-len-cap.true in
    let len : c.len.result ≡ length rows = search (c.len.ensures) in
    AreMoreThan-ascending c.args.cap (IsShown values e c.args.outputs.now) rows c.sorted_rows-rows.ensures.ascending
    (λ h x. (shown values e c.args.outputs.now spots c.rows.ensures.real are h).0 (subst (λ (rows : List (List Value)). Contains rows h) found ((c.sorted_rows-rows.ensures.members h).0 x)))
    (omega arith)
