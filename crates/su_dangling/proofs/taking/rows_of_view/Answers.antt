-- The view is the join of this one object.
use Rattle.std.proofs.Common.{◌≡◌, ◌∙◌, ap, refl, sym, subst}
use Rattle.std.specs.Prelude.{IsTrue}
use Rattle.std.specs.Ordering.{nat_cmp}
use Rattle.std.specs.FinSet.{FinSet, contains, empty, insert}
use Rattle.su_rel.specs.ExactRows.{AreExactlyRows}
use Rattle.su_dangling.specs.Joins.{TakesPart}
use Rattle.su_dangling.proofs.Objects.{one_has}
use Rattle.su_dangling.proofs.Taken.{whole_view}
use Rattle.su_dangling.proofs.taking.rows_of_view.Goals as goal

pub taking_part-requires-clause-member : goal.taking_part-requires-clause-member
taking_part-requires-clause-member c =
    let o = c.args.object in
    let one : c.insert.result ≡ insert empty o = c.insert.ensures ∙ ap (λ (s : FinSet nat_cmp). insert s o) c.empty.ensures in
    subst (λ (s : FinSet nat_cmp). IsTrue (contains s o)) (sym one) ((one_has o o).1 refl)

pub returns : goal.returns
returns c =
    let db = c.args.db.now in
    let o = c.args.object in
    let one : c.insert.result ≡ insert empty o = c.insert.ensures ∙ ap (λ (s : FinSet nat_cmp). insert s o) c.empty.ensures in
    whole_view db o c.requires (insert empty o) (one_has o) c.in_ok-rows.rows (subst (λ (s : FinSet nat_cmp). AreExactlyRows (TakesPart db s o) c.in_ok-rows.rows) one c.in_ok-rows.ensures)
