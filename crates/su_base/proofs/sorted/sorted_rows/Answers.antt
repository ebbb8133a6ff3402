-- Sorting moves the rows alone, and equal rows of a sorted list stand side by side; so leaving out repeats keeps the members and makes the order strict.
use Rattle.std.proofs.Common.{◌≡◌, List, Contains, sym, subst}
use Rattle.std.specs.List.{dedup}
use Rattle.std.specs.List.Sorted.{IsPermutation, IsStrictlySortedBy}
use Rattle.std.specs.Cmp.Lexicographic.{pointwise}
use Rattle.std.proofs.lemmas.List.Filters.{dedup_is}
use Rattle.su_base.specs.declared.values.Value.{Value}
use Rattle.su_base.specs.Value.{compare_lists}
use Rattle.su_base.specs.contracts.values.ValuePartialEq.TheImpl.{ghosts}
use Rattle.su_base.proofs.Rows.{dedup-rows, Contains-dedup_rows}
use Rattle.su_base.proofs.sorted.sorted_rows.Goals as goal

pub returns-clause-members : goal.returns-clause-members
returns-clause-members c = λ h.
    let sorted : List (List Value) = c.sort_unstable.new.self.items in
    let kept : List (List Value) = c.dedup.new.self.items in
    let is : kept ≡ dedup (pointwise ghosts.eq) sorted = dedup_is (pointwise ghosts.eq) sorted kept c.dedup.ensures.filtered in
    let same = Contains-dedup_rows c.args.rows sorted kept (subst (λ (xs : List (List Value)). IsPermutation xs sorted) c.into_vec-all.ensures c.sort_unstable.ensures.permutation) is h in (
      λ m. same.0 (subst (λ (xs : List (List Value)). Contains xs h) c.from_vec.ensures m),
      λ m. subst (λ (xs : List (List Value)). Contains xs h) (sym c.from_vec.ensures) (same.1 m),
    )

pub returns-clause-ascending : goal.returns-clause-ascending
returns-clause-ascending c =
    let sorted : List (List Value) = c.sort_unstable.new.self.items in
    let kept : List (List Value) = c.dedup.new.self.items in
    let is : kept ≡ dedup (pointwise ghosts.eq) sorted = dedup_is (pointwise ghosts.eq) sorted kept c.dedup.ensures.filtered in
    subst (λ (xs : List (List Value)). IsStrictlySortedBy compare_lists xs) (sym c.from_vec.ensures)
    (dedup-rows c.args.rows sorted kept (subst (λ (xs : List (List Value)). IsPermutation xs sorted) c.into_vec-all.ensures c.sort_unstable.ensures.permutation) is c.sort_unstable.ensures.sorted)
