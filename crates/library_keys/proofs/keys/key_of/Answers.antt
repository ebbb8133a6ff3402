-- An attribute goes where what is left without it still determines all; else each part that determines all has it.
use Rattle.std.proofs.Common.{◌≡◌, ◌+◌, sym, ap, subst, ◌∙◌, arith}
use Rattle.std.specs.Ordering.{nat_cmp}
use Rattle.std.specs.FinSet.{FinSet, difference, insert}
use Rattle.std.proofs.lemmas.Bool.{false≢true}
use Rattle.su_fd.specs.Closure.{Determines}
use Rattle.library_keys.proofs.Shrinking.{IsShrunk, without, shrunk_start, shrunk_without, shrunk_with, shrunk_key}
use Rattle.library_keys.proofs.keys.key_of.Goals as goal
use Rattle.library_keys.proofs.keys.key_of.Goals.{then-determines, else-determines}

pub loop-a-init : goal.loop-a-init
loop-a-init c = shrunk_start _ _

pub loop-a-preserved : goal.loop-a-preserved
loop-a-preserved c =
    let fds = c.args.fds.now in
    let all = c.args.all in
    let key = c.loop-a.key in
    let n = c.loop-a.a in
    let is : c.minus-fewer.result ≡ without key n = c.minus-fewer.ensures ∙ ap (λ (t : FinSet nat_cmp). difference key t) (c.insert.ensures ∙ ap (λ (t : FinSet nat_cmp). insert t n) c.empty.ensures) in
    elim c.if-determines.branch [
      | then-determines w ↦ subst (λ (s : FinSet nat_cmp). IsShrunk fds all (n + 1) s) (sym (w.key-is ∙ is))
          (shrunk_without fds all key n c.loop-a.invariant (subst (λ (s : FinSet nat_cmp). Determines fds s all) is (c.determines.ensures.0 w.if-determines.true)))
      | else-determines w ↦ subst (λ (s : FinSet nat_cmp). IsShrunk fds all (n + 1) s) (sym w.key-is)
          (shrunk_with fds all key n c.loop-a.invariant (λ (by : Determines fds (without key n) all). false≢true (sym w.if-determines.false ∙ c.determines.ensures.1 (subst (λ (s : FinSet nat_cmp). Determines fds s all) (sym is) by))))
    ]

pub returns : goal.returns
returns c = shrunk_key _ _ _ _ c.loop-a.invariant (λ a one. let low = c.requires.below a one in let end = c.loop-a-test.false in omega arith)
