-- The maximal objects that cover attributes, one maximal object more.
use Rattle.std.proofs.Common.{◌≡◌, ℕ, ◌+◌, ◌<◌, Bool, if◌then◌else◌, List, [], ◌∷◌, ◌++◌, length, get_or, ap, ◌∙◌}
use Rattle.std.specs.Ordering.{nat_cmp}
use Rattle.std.specs.FinSet.{FinSet, is_subset, empty}
use Rattle.std.proofs.lemmas.List.{get_or_default}
use Rattle.su_schema.specs.SchemaValue.{SchemaValue}
use Rattle.su_steps.specs.Objects.{objects_of, attributes_of_all, covers}
use Rattle.su_base.proofs.PassingNumbers.{passing, passing_push}

pub covering_more : (schema : SchemaValue) (maximal : List (FinSet nat_cmp)) (attributes : FinSet nat_cmp) (m : ℕ) (d all : FinSet nat_cmp) (b : Bool) (before next : List ℕ) → m < length maximal → d ≡ get_or maximal m d → all ≡ attributes_of_all schema (objects_of schema d) → b ≡ is_subset attributes all
    → before ≡ passing (λ m. covers schema (get_or maximal m empty) attributes) m → next ≡ before ++ (if b then m ∷ [] else []) → next ≡ passing (λ m. covers schema (get_or maximal m empty) attributes) (m + 1)
covering_more schema maximal attributes m d all b before next l d_is all_is b_is so e =
    passing_push (λ m. covers schema (get_or maximal m empty) attributes) m b before next so
    (b_is ∙ ap (is_subset attributes) all_is ∙ ap (λ s. is_subset attributes (attributes_of_all schema (objects_of schema s))) (d_is ∙ get_or_default maximal m d empty l)) e
