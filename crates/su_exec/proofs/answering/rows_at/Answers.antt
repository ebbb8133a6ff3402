-- The rows so far are the values at the spots of the edge's rows so far.
use Rattle.std.proofs.Common.{◌≡◌, ◌++◌, ◌∷◌, [], List, ℕ, get_or, take, map, sym, ap, subst, ◌∙◌, arith}
use Rattle.std.specs.Prelude.{All}
use Rattle.std.proofs.lemmas.List.{map_more}
use Rattle.su_base.specs.declared.values.Value.{Value}
use Rattle.su_exec.specs.inside.Checks.{IsSpotIn}
use Rattle.su_exec.specs.inside.Shown.{spot_values}
use Rattle.su_exec.proofs.answering.rows_at.Goals as goal

pub row_at-requires : goal.row_at-requires
row_at-requires c = subst (λ n. All (IsSpotIn n 0) c.args.spots.now) (sym (c.row.ensures.width ∙ c.rows.ensures.width)) c.requires

pub loop-i-preserved : goal.loop-i-preserved
loop-i-preserved c =
    let F : List ℕ → List Value = spot_values c.args.codes.now c.args.spots.now in
    let list = c.args.last.now.rows in
    let i = c.loop-i.i in
    let test = c.loop-i-test.true in
    let end = c.len-i-end.ensures in
    let is : c.in_ok-row.row ≡ F (get_or list i []) = c.in_ok-row.ensures ∙ ap F (c.row.ensures.is ∙ ap (λ rs. get_or rs i []) c.rows.ensures.rows) in
    c.in-Ok.ensures.items ∙ ap (λ xs. xs ++ c.in_ok-row.row ∷ []) c.loop-i.invariant ∙ ap (λ x. map F (take i list) ++ x ∷ []) is ∙ sym (map_more F list i [] (omega arith))
