-- The marked rows are those that pass the tests beside themselves, so exactly the valuations that pass still fit.
use Rattle.std.proofs.Common.{◌≡◌, ◌∙◌, Bool, ℕ, List, ap, sym, subst}
use Rattle.su_reduce.specs.Left.{marked}
use Rattle.su_exec.specs.inside.Checks.{all_pass}
use Rattle.su_exec.specs.inside.Edges.{Edge}
use Rattle.su_exec.specs.inside.Sifts.{IsSifted}
use Rattle.su_exec.proofs.Sifted.{sifted}
use Rattle.su_exec.proofs.merging.sift.Goals as goal

pub returns : goal.returns
returns c =
    let a : Edge ℕ = c.args.a.now in
    let t = all_pass c.args.codes.now c.args.tests.now in
    let marks : List Bool = c.in_ok-marks.marks.items in
    let left : c.keep.new.self ≡ record { vars = a.vars; rows = marked marks a.rows } = c.keep.ensures ∙ ap (λ (ms : List Bool). record { vars = a.vars; rows = marked ms a.rows }) c.deref.ensures.value in
    subst (λ (e : Edge ℕ). IsSifted t a e) (sym left) (sifted t a marks c.in_ok-marks.ensures.exact)
