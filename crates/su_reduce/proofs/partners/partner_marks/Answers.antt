-- A left row is kept where it is marked and its key is among the keys of the right side, which are those of its marked rows.
use Rattle.std.proofs.Common.{[], get_or}
use Rattle.su_reduce.specs.Sheets.{pick}
use Rattle.su_reduce.proofs.partners.partner_marks.Goals as goal

pub returns-clause-exact : goal.returns-clause-exact
returns-clause-exact c = λ i l.
    let left = c.args.left.now in
    let told = c.in_ok-marks.ensures.exact i l in
    let keys = c.in_ok-keys.ensures.keys (pick left.key.now (get_or left.rows.now.rows i [])) in
    (λ h. let both = told.0 h in (both.0, keys.0 both.1), λ both. told.1 (both.0, keys.1 both.1))
