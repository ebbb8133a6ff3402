-- What was there stays, the variables of the cells so far are there, and nothing else has come.
use Rattle.std.proofs.Common.{[], ◌∷◌, Contains, sym, subst, ◌∙◌}
use Rattle.std.proofs.lemmas.List.Elements.{Contains-append_left}
use Rattle.su_check.proofs.Boarded.{var_row, var_only, const_row}
use Rattle.su_check.proofs.boards.push_variables.Goals as goal
use Rattle.su_check.proofs.boards.push_variables.Goals.{in-Var+in_ok-push, in_default}

pub loop-x-preserved : goal.loop-x-preserved
loop-x-preserved c =
    let row = c.args.row.now in let i = c.loop-x.x-index in let x = c.x-item.result in let before = c.loop-x.invariant in
    elim c.match-x.branch [
      | in-Var+in_ok-push w ↦
          let pushed = w.out-is ∙ w.in_ok-push.ensures.ok in
          record {
            old = λ k h. subst (λ o. Contains o k) (sym pushed) (Contains-append_left c.loop-x.out (w.in-Var.k ∷ []) k (before.old k h));
            row = var_row row c.loop-x.out c.match-x.out i w.in-Var.k x c.loop-x-test.true c.x-item.is w.in-Var.is pushed before.row;
            only = var_only row c.loop-x.out c.match-x.out c.args.out.now i w.in-Var.k x c.loop-x-test.true c.x-item.is w.in-Var.is pushed before.only;
          }
      | in_default w ↦ record {
        old = λ k h. subst (λ o. Contains o k) (sym w.out-is) (before.old k h);
        row = λ k j l e. subst (λ o. Contains o k) (sym w.out-is) (const_row row i x c.loop-x.out c.loop-x-test.true c.x-item.is w.in_default.not-Var before.row k j l e);
        only = λ k h. before.only k (subst (λ o. Contains o k) w.out-is h);
      }
    ]
