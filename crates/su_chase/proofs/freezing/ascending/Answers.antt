-- Sorting moves the numbers alone, and repeats of a sorted list stand side by side, so leaving them out keeps the members and makes the order strict.
use Rattle.std.proofs.Common.{◌≡◌, ℕ, List, Contains, eqb, sym, subst}
use Rattle.std.specs.List.{dedup}
use Rattle.std.specs.Ordering.{nat_cmp}
use Rattle.std.specs.List.Sorted.{IsStrictlySortedBy}
use Rattle.std.proofs.lemmas.List.Filters.{dedup_is}
use Rattle.std.proofs.lemmas.List.Kept.{Contains-dedup_nat, Contains-from_dedup}
use Rattle.std.proofs.lemmas.List.Sorted.{Contains-permutation, IsPermutation-sym}
use Rattle.std.proofs.lemmas.Map.Keys.{IsStrictlyIncreasing-dedup, sorted_from_strictly_increasing}
use Rattle.su_chase.proofs.freezing.ascending.Goals as goal

pub returns-clause-members : goal.returns-clause-members
returns-clause-members c = λ k.
    let numbers : List ℕ = c.args.numbers.items in
    let sorted : List ℕ = c.sort_unstable.new.self.items in
    let kept : List ℕ = c.dedup.new.self.items in
    let is : kept ≡ dedup eqb sorted = dedup_is eqb sorted kept c.dedup.ensures.filtered in
    let moved = c.sort_unstable.ensures.permutation in (
      λ h. Contains-permutation sorted numbers k (IsPermutation-sym numbers sorted moved) (Contains-from_dedup eqb sorted k (subst (λ (xs : List ℕ). Contains xs k) is h)),
      λ h. subst (λ (xs : List ℕ). Contains xs k) (sym is) (Contains-dedup_nat sorted k (Contains-permutation numbers sorted k moved h)),
    )

pub returns-clause-ascending : goal.returns-clause-ascending
returns-clause-ascending c =
    let sorted : List ℕ = c.sort_unstable.new.self.items in
    let kept : List ℕ = c.dedup.new.self.items in
    let is : kept ≡ dedup eqb sorted = dedup_is eqb sorted kept c.dedup.ensures.filtered in
    subst (IsStrictlySortedBy nat_cmp) (sym is) (sorted_from_strictly_increasing (dedup eqb sorted) (IsStrictlyIncreasing-dedup sorted c.sort_unstable.ensures.sorted))
