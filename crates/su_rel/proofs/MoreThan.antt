-- Rows that ascend are that many different ones.
use Rattle.std.proofs.Common.{◌≡◌, ℕ, ◌<◌, List, [], length, get_or, Contains, sym, ap, ◌∙◌, arith}
use Rattle.std.specs.List.Sorted.{IsStrictlySortedBy}
use Rattle.std.specs.declared.cmp.Ordering.TheVariants.{Less, Equal}
use Rattle.std.proofs.lemmas.Cmp.{tied_itself}
use Rattle.std.proofs.lemmas.List.Elements.{Contains-get_or}
use Rattle.std.proofs.lemmas.Map.Keys.{Less-from_sorted}
use Rattle.su_base.specs.declared.values.Value.{Value}
use Rattle.su_base.specs.Value.{compare_lists}
use Rattle.su_base.proofs.Rows.{rows_total}
use Rattle.su_rel.specs.MoreThan.{AreMoreThan}

-- ascending rows past the bound that have the property are more than it
pub AreMoreThan-ascending : (n : ℕ) (P : List Value → Type 0) (rows : List (List Value)) → IsStrictlySortedBy compare_lists rows → ((h : List Value) → Contains rows h → P h) → n < length rows → AreMoreThan n P
AreMoreThan-ascending n P rows sorted each many = record {
  member = λ i. get_or rows i [];
  each = λ i l. each (get_or rows i []) (Contains-get_or rows i [] (omega arith));
  differ = λ i j l m same.
      let less = Less-from_sorted compare_lists rows i j [] sorted l (omega arith) in
      let tied : compare_lists (get_or rows i []) (get_or rows i []) ≡ Equal = tied_itself rows_total (get_or rows i []) in
      let f : Less ≡ Equal = sym less ∙ ap (compare_lists (get_or rows i [])) (sym same) ∙ tied in
      cc;
}
