-- Two rows agree on the variables of both exactly where their keys at the shared places are equal, so the rows marked by key are those with a partner.
use Rattle.std.proofs.Common.{◌≡◌, ◌↔◌, ◌<◌, ◌∙◌, false, IsTrue, ℕ, [], length, get_or, refl, ap}
use Rattle.su_reduce.specs.Left.{marked}
use Rattle.su_reduce.specs.Sheets.{pick}
use Rattle.su_exec.specs.inside.Edges.{Edge}
use Rattle.su_exec.specs.inside.Semijoins.{HasKey}
use Rattle.su_exec.proofs.SemijoinRows.{kept_marked, semijoin_is}
use Rattle.su_exec.proofs.candidates.partners.Goals as goal

pub with_partners-requires-clause-left : goal.with_partners-requires-clause-left
with_partners-requires-clause-left c = rw (c.deref.ensures.value, c.rows.ensures.width) (rw c.vars.ensures at c.shared_places.ensures.left)

pub with_partners-requires-clause-right : goal.with_partners-requires-clause-right
with_partners-requires-clause-right c = rw (c.deref-2.ensures.value, c.rows-2.ensures.width) (rw c.vars-2.ensures at c.shared_places.ensures.right)

pub with_partners-requires-clause-keys : goal.with_partners-requires-clause-keys
with_partners-requires-clause-keys c = rw (c.deref.ensures.value, c.deref-2.ensures.value) c.in_ok-shared_places.ensures.same.1

pub returns-clause-length : goal.returns-clause-length
returns-clause-length c = c.in_ok-marks.ensures.length ∙ ap length c.rows.ensures.rows

pub returns-clause-semijoin : goal.returns-clause-semijoin
returns-clause-semijoin c =
    let a : Edge ℕ = c.args.a.now in
    let b : Edge ℕ = c.args.b.now in
    let left = c.shared_places.new.left.items in
    let right = c.shared_places.new.right.items in
    let marks = c.in_ok-marks.marks.items in
    let exact : (i : ℕ) → i < length a.rows → IsTrue (get_or marks i false) ↔ HasKey b.rows right (length b.rows) (pick left (get_or a.rows i [])) =
    rw (c.rows.ensures.rows, c.rows-2.ensures.rows, c.deref.ensures.value, c.deref-2.ensures.value) at c.in_ok-marks.ensures.exact in
    let long : length marks ≡ length a.rows = c.in_ok-marks.ensures.length ∙ ap length c.rows.ensures.rows in
    let kept = kept_marked a.rows b.rows left right marks long exact in
    semijoin_is a b (record { vars = a.vars; rows = marked marks a.rows }) left right (marked marks a.rows) (rw c.vars.ensures at c.shared_places.ensures.left) (rw c.vars-2.ensures at c.shared_places.ensures.right)
    (rw (c.vars.ensures, c.vars-2.ensures) at c.in_ok-shared_places.ensures.same.0)
    (rw (c.vars.ensures, c.vars-2.ensures) at c.in_ok-shared_places.ensures.all) c.rows-2.ensures.real kept refl
