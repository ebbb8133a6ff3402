-- Codes are equal where their values are, so that two candidates agree where both edges have a variable exactly where their rows of codes have one key; the marks by keys are the marks by partners.
use Rattle.std.proofs.Common.{◌↔◌, ◌∙◌, ◌<◌, List, [], ℕ, Bool, false, IsTrue, length, get_or, sym, ap, subst, arith}
use Rattle.su_reduce.specs.declared.edges.Edge.{Edge}
use Rattle.su_reduce.specs.Sheets.{AreBelow, IsMarkedKey, Rows, pick}
use Rattle.su_reduce.proofs.Keyed.{exact_by_codes, places_low, shared_of}
use Rattle.su_reduce.proofs.semijoins.partnered.Goals as goal

pub partner_marks-requires-clause-left_key : goal.partner_marks-requires-clause-left_key
partner_marks-requires-clause-left_key c =
    let left : Edge = c.args.left.now.edge.now in
    let right : Edge = c.args.right.now.edge.now in
    let ls = c.in_ok-places.places.left in
    let rs = c.in_ok-places.places.right in
    let width = c.args.left.now.sheet.now.width in
    let shared = shared_of left.cells right.cells c.as_slice.result.now c.as_slice-2.result.now ls rs c.as_slice.ensures c.as_slice-2.ensures c.in_ok-places.ensures in
    subst (λ (ps : List ℕ). AreBelow ps width) (sym c.as_slice-3.ensures) (places_low ls (length left.cells) width c.requires.coded.first.same_width shared.left_below)

pub partner_marks-requires-clause-left_marks : goal.partner_marks-requires-clause-left_marks
partner_marks-requires-clause-left_marks c = c.requires.lengths.0 ∙ sym c.requires.coded.first.same_length

pub partner_marks-requires-clause-right_key : goal.partner_marks-requires-clause-right_key
partner_marks-requires-clause-right_key c =
    let left : Edge = c.args.left.now.edge.now in
    let right : Edge = c.args.right.now.edge.now in
    let ls = c.in_ok-places.places.left in
    let rs = c.in_ok-places.places.right in
    let width = c.args.right.now.sheet.now.width in
    let shared = shared_of left.cells right.cells c.as_slice.result.now c.as_slice-2.result.now ls rs c.as_slice.ensures c.as_slice-2.ensures c.in_ok-places.ensures in
    let long = shared.same_length in
    subst (λ (ps : List ℕ). AreBelow ps width) (sym c.as_slice-4.ensures) (places_low rs (length right.cells) width c.requires.coded.second.same_width (λ i l. shared.right_below i (omega (arith, l, long))))

pub partner_marks-requires-clause-right_marks : goal.partner_marks-requires-clause-right_marks
partner_marks-requires-clause-right_marks c = c.requires.lengths.1 ∙ sym c.requires.coded.second.same_length

pub partner_marks-requires-clause-keys : goal.partner_marks-requires-clause-keys
partner_marks-requires-clause-keys c =
    ap (λ (ps : List ℕ). length ps) c.as_slice-3.ensures ∙ c.in_ok-places.ensures.same_length ∙ sym (ap (λ (ps : List ℕ). length ps) c.as_slice-4.ensures)

pub returns-clause-length : goal.returns-clause-length
returns-clause-length c = ap (λ (ms : List Bool). length ms) c.from_vec.ensures ∙ c.in_ok-kept.ensures.length ∙ c.requires.coded.first.same_length

pub returns-clause-exact : goal.returns-clause-exact
returns-clause-exact c =
    let left : Edge = c.args.left.now.edge.now in
    let right : Edge = c.args.right.now.edge.now in
    let sheet : Rows = c.args.left.now.sheet.now in
    let other : Rows = c.args.right.now.sheet.now in
    let marks : List Bool = c.args.left.now.marks.now in
    let other_marks : List Bool = c.args.right.now.marks.now in
    let ls = c.in_ok-places.places.left in
    let rs = c.in_ok-places.places.right in
    let coded = c.requires.coded in
    let kept : List Bool = c.in_ok-kept.kept.items in
    let shared = shared_of left.cells right.cells c.as_slice.result.now c.as_slice-2.result.now ls rs c.as_slice.ensures c.as_slice-2.ensures c.in_ok-places.ensures in
    let exact : (p : ℕ) → p < length sheet.rows → IsTrue (get_or kept p false) ↔ (IsTrue (get_or marks p false) × IsMarkedKey other.rows other_marks rs (length other.rows) (pick ls (get_or sheet.rows p []))) =
    subst (λ (ps : List ℕ). (p : ℕ) → p < length sheet.rows → IsTrue (get_or kept p false) ↔ (IsTrue (get_or marks p false) × IsMarkedKey other.rows other_marks rs (length other.rows) (pick ps (get_or sheet.rows p [])))) c.as_slice-3.ensures
    (subst (λ (ps : List ℕ). (p : ℕ) → p < length sheet.rows → IsTrue (get_or kept p false) ↔ (IsTrue (get_or marks p false) × IsMarkedKey other.rows other_marks ps (length other.rows) (pick c.as_slice-3.result.now (get_or sheet.rows p [])))) c.as_slice-4.ensures c.in_ok-kept.ensures.exact) in
    let long = coded.first.same_length in
    rw c.from_vec.ensures (
    exact_by_codes left.cells right.cells ls rs shared coded.values coded.apart left.candidates right.candidates marks other_marks sheet other coded.first coded.second c.requires.left c.requires.right
    kept (λ p l. exact p (omega (arith, l, long))))
