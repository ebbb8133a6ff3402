-- All rows of both sides are marked, so that a marked partner is a partner.
use Rattle.std.proofs.Common.{◌<◌, List, [], ℕ, Bool, false, IsTrue, length, get_or, ap, ◌∙◌, arith}
use Rattle.su_reduce.specs.Sheets.{pick}
use Rattle.su_exec.proofs.SemijoinRows.{all_marked}
use Rattle.su_exec.proofs.semijoins.with_partners.Goals as goal

pub returns-clause-exact : goal.returns-clause-exact
returns-clause-exact c = λ i low.
    let rs = c.args.right.now.rows in
    let key = pick c.args.left_key.now (get_or c.args.left.now.rows i []) in
    let rights : List Bool = c.deref-2.result.now in
    let count = c.len-2.ensures in
    let every : (j : ℕ) → j < length rs → IsTrue (get_or rights j false) = λ j l. ap (λ (ms : List Bool). get_or ms j false) c.deref-2.ensures.value ∙ c.in_ok-all_right.ensures.all j (omega (arith, l, count)) in
    let first = c.len.ensures in
    let mine : IsTrue (get_or c.deref.result.now i false) = ap (λ (ms : List Bool). get_or ms i false) c.deref.ensures.value ∙ c.in_ok-all_left.ensures.all i (omega (arith, low, first)) in
    let told = c.in_ok-marks.ensures.exact i low in
    let keyed = all_marked rs rights c.args.right_key.now (length rs) key every in
    (λ h. keyed.0 (told.0 h).1, λ k. told.1 (mine, keyed.1 k))
