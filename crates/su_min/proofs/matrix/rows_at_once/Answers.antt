-- The marks are the row of the first term, so what they tell is known; each thread makes the row of its own number, and the collected rows are the matrix.
use Rattle.std.proofs.Common.{◌≡◌, ◌<◌, ◌-◌, ◌∙◌, ℕ, Bool, List, Result, ap, length, subst, sym, arith}
use Rattle.std.specs.Prelude.{IfOk}
use Rattle.std.specs.List.{AllZip, range_with_len}
use Rattle.rayon.specs.Numbers.{nat_range}
use Rattle.rayon.proofs.ToStd.{nat_range-All}
use Rattle.su_base.specs.declared.lists.NoMemory.{NoMemory}
use Rattle.su_min.specs.Reduction.{term_at}
use Rattle.su_min.specs.inside.Matrix.{AreKnown, IsRowOf, IsMatrix}
use Rattle.su_min.proofs.MatrixRows.{collected, rows_matrix, zip_given}
use Rattle.su_min.proofs.CoverMatrix.{none_known, first_known}
use Rattle.su_min.proofs.matrix.rows_at_once.Goals as goal

pub collect-requires-clause-ready : goal.collect-requires-clause-ready
collect-requires-clause-ready g c κs within =
    let terms = c.args.terms.now in
    let ends = c.into_par_iter.ensures in
    let inside = nat_range-All (λ i. i < length terms) 0 (length terms) (λ i low high. high) in
    rw (c.map.ensures.base, c.map.ensures.f, c.with_min_len.ensures.base, ends.0, ends.1) (λ k d lt. (inside k d lt, λ y p. tt))

pub returns : goal.returns
returns g c =
    let terms = c.args.terms.now in
    let n = length terms in
    let marks = c.as_slice-marks.result.now in
    let known : AreKnown terms marks = subst (AreKnown terms) (sym c.as_slice-marks.ensures) (first_known terms c.in_ok-first.first (c.in_ok-first.ensures (none_known terms))) in
    let h = c.in_ok-collect.ensures in
    let ends = c.into_par_iter.ensures in
    let whole : n - 0 ≡ n = omega arith in
    let chain = rw (c.map.ensures.base, c.with_min_len.ensures.base, c.map.ensures.f) at h.1 in
    let places = chain.1 ∙ (λ i. nat_range (ends.0 i) (ends.1 i)) ∙ ap (range_with_len 0) whole in
    let R = λ (j : ℕ) (o : Result (List Bool) NoMemory). AreKnown terms marks → IfOk o (λ row. IsRowOf (term_at terms j) terms row) in
    let zip = zip_given (AreKnown terms marks) (λ j o. IfOk o (λ row. IsRowOf (term_at terms j) terms row)) (range_with_len 0 n) h.0 known (subst (λ js. AllZip R js h.0) places chain.2) in
    collected _ (λ j row. IsRowOf (term_at terms j) terms row) (λ v. v.items) _ (range_with_len 0 n) h.0 c.in_ok-collect.field-0 (IsMatrix terms) (rows_matrix terms) zip h.2
