-- A key of one place picks one code, so marking the code adds the key of the row, where that is marked.
use Rattle.std.proofs.Common.{◌≡◌, ◌<◌, ◌∙◌, ℕ, [], ◌∷◌, length, get_or, ap, sym, subst}
use Rattle.su_reduce.specs.Sheets.{pick}
use Rattle.su_reduce.proofs.Partnered.{codes_more, picked_one}
use Rattle.su_reduce.proofs.partners.mark_code.Goals as goal

pub returns-then-side-i-clause-codes : goal.returns-then-side-i-clause-codes
returns-then-side-i-clause-codes c = λ before.
    let side = c.args.side.now in
    let rows = side.rows.now.rows in
    let key = side.key.now in
    let codes = c.args.codes.now.items in
    let i = c.args.i in
    let row = c.row.result.now in
    let x : ℕ = get_or row (get_or key 0 0) 0 in
    let is : pick key (get_or rows i []) ≡ x ∷ [] = picked_one key (get_or rows i []) c.requires.one ∙ ap (λ r. get_or r (get_or key 0 0) 0 ∷ []) (sym c.row.ensures.is) in
    let low : x < length codes = subst (λ r. get_or r (get_or key 0 0) 0 < length codes) (sym c.row.ensures.is) c.requires.room in
    codes_more rows side.marks.now key i codes before x c.if-side-i.true is low
