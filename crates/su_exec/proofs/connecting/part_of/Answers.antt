-- The part so far has the rows so far with the label.
use Rattle.std.proofs.Common.{ℕ, [], ◌∷◌, ◌++◌, sym, ap, ◌∙◌}
use Rattle.std.specs.Prelude.{cond, nat_eq}
use Rattle.su_exec.specs.inside.Labels.{label_of}
use Rattle.su_base.proofs.PassingNumbers.{passing_more}
use Rattle.su_exec.proofs.connecting.part_of.Goals as goal

pub loop-i-preserved : goal.loop-i-preserved
loop-i-preserved c =
    let p = λ (i : ℕ). nat_eq (label_of c.args.labels.now i) c.args.label in
    c.in_ok-push_if.ensures.ok ∙ ap (λ xs. xs ++ cond (p c.loop-i.i) (c.loop-i.i ∷ []) []) c.loop-i.invariant ∙ sym (passing_more p c.loop-i.i)
