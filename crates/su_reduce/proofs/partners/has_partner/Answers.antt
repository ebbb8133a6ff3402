-- The key that is looked up is the picked cells of the row, so the row has a partner exactly where it is marked and the keys have it.
use Rattle.std.proofs.Common.{◌≡◌, ◌∙◌, [], get_or, ap, sym, subst}
use Rattle.su_reduce.specs.Sheets.{pick}
use Rattle.su_reduce.specs.inside.Partnered.{HasKey}
use Rattle.su_reduce.proofs.partners.has_partner.Goals as goal

pub returns : goal.returns
returns c =
    let side = c.args.side.now in
    let keys = c.args.keys.now in
    let is : c.deref.result.now ≡ pick side.key.now (get_or side.rows.now.rows c.args.i []) = c.deref.ensures.value ∙ c.in_ok-put_key.ensures ∙ ap (pick side.key.now) c.row.ensures.is in (
      λ h. (c.if-not-side-i.false, subst (HasKey keys) is (c.has_key.ensures.0 h)),
      λ both. c.has_key.ensures.1 (subst (HasKey keys) (sym is) both.1),
    )
