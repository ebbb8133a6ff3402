-- The parts so far are the rows of each label so far that is its own row's number; these are the classes of the labelling, ordered by their first rows.
use Rattle.std.proofs.Common.{◌≡◌, ◌++◌, ◌∷◌, [], List, ℕ, length, sym, ap, subst, ◌∙◌, arith}
use Rattle.std.specs.List.{range_with_len}
use Rattle.std.specs.Prelude.{cond, filter, map, nat_eq}
use Rattle.su_exec.specs.Components.{AreComponents}
use Rattle.su_exec.specs.inside.Labels.{label_of, rows_of}
use Rattle.su_exec.proofs.ComponentLabels.{are_components}
use Rattle.su_base.proofs.PassingNumbers.{images_push}
use Rattle.su_exec.proofs.connecting.components.Goals as goal

pub loop-i-preserved : goal.loop-i-preserved
loop-i-preserved c =
    let ls = c.in_ok-labels.labels.items in
    let p = λ (i : ℕ). nat_eq (label_of ls i) i in
    let i = c.loop-i.i in
    let added : c.add_part.new.parts ≡ c.loop-i.parts ++ cond (p i) (rows_of ls i ∷ []) [] =
    subst (λ (ks : List ℕ). c.add_part.new.parts ≡ c.loop-i.parts ++ cond (nat_eq (label_of ks i) i) (rows_of ks i ∷ []) []) c.deref.ensures.value c.in_ok-add_part.ensures in
    added ∙ ap (λ xs. xs ++ cond (p i) (rows_of ls i ∷ []) []) c.loop-i.invariant ∙ sym (images_push (rows_of ls) p i)

pub returns : goal.returns
returns c =
    let ls = c.in_ok-labels.labels.items in
    let p = λ (i : ℕ). nat_eq (label_of ls i) i in
    let test = c.loop-i-test.false in
    let end = c.len-i-end.ensures in
    let n : c.loop-i.i ≡ length ls = omega arith in
    let is : c.loop-i.parts ≡ map (rows_of ls) (filter p (range_with_len 0 (length ls))) = c.loop-i.invariant ∙ ap (λ n. map (rows_of ls) (filter p (range_with_len 0 n))) n in
    subst (λ (parts : List (List ℕ)). AreComponents c.args.task.now parts) (sym is) (are_components c.args.task.now ls c.in_ok-labels.ensures.labels c.in_ok-labels.ensures.joined)
