-- Two schemas are the same where one text tells both.
use Rattle.std.proofs.Common.{◌≡◌, ◌∙◌, sym}
use Rattle.std.specs.Cmp.{unsigned_Decides}
use Rattle.std.proofs.lemmas.Slice.Eq.{slice_eq-Decides}
use Rattle.su_ddl.specs.Shown.{schema_text}
use Rattle.sysu_shell.proofs.opening.are_same.Goals as goal

pub returns : goal.returns
returns c =
    let decides = slice_eq-Decides unsigned_Decides c.as_slice.result.now c.as_slice-2.result.now c.eq.result c.eq.ensures in
    let one : c.as_slice.result.now ≡ schema_text c.args.one.now = c.as_slice.ensures ∙ c.in_ok-one.ensures.text in
    let other : c.as_slice-2.result.now ≡ schema_text c.args.other.now = c.as_slice-2.ensures ∙ c.in_ok-other.ensures.text in
    (λ same. sym one ∙ decides.0 same ∙ other, λ same. decides.1 (one ∙ same ∙ sym other))
