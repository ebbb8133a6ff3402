-- The attributes of objects together, one object more.
use Rattle.std.proofs.Common.{ℕ, ◌+◌, ◌≡◌, true, false, List, [], ◌∷◌, ◌++◌, ap, sym, ◌∙◌, arith}
use Rattle.std.specs.Ordering.{nat_cmp}
use Rattle.std.specs.FinSet.{FinSet, contains, union, empty, members, same_set, nat_cmp-IsAntisymmetric}
use Rattle.std.specs.Cmp.{nat_cmp_total}
use Rattle.su_base.proofs.PassingNumbers.{passing, passing_in, passing_out}
use Rattle.su_schema.specs.SchemaValue.{SchemaValue}
use Rattle.su_steps.specs.Objects.{attributes_at, attributes_of_all}

together_one : (s : FinSet nat_cmp) → union s empty ≡ union empty s
together_one s = same_set nat_cmp_total nat_cmp-IsAntisymmetric _ _ (λ q. grind (arith, members))

together_three : (s t u : FinSet nat_cmp) → union s (union t u) ≡ union (union s t) u
together_three s t u = same_set nat_cmp_total nat_cmp-IsAntisymmetric _ _ (λ q. grind (arith, members))

together_push : (schema : SchemaValue) (os : List ℕ) (o : ℕ) → attributes_of_all schema (os ++ o ∷ []) ≡ union (attributes_of_all schema os) (attributes_at schema o)
together_push schema [] o = together_one (attributes_at schema o)
together_push schema (p ∷ os) o = ap (union (attributes_at schema p)) (together_push schema os o) ∙ together_three (attributes_at schema p) (attributes_of_all schema os) (attributes_at schema o)

pub together_more : (schema : SchemaValue) (set : FinSet nat_cmp) (o : ℕ) (all object next : FinSet nat_cmp) → all ≡ attributes_of_all schema (passing (contains set) o) → object ≡ attributes_at schema o → contains set o ≡ true → next ≡ union all object
    → next ≡ attributes_of_all schema (passing (contains set) (o + 1))
together_more schema set o all object next so is in' e =
    e ∙ ap (λ s. union s object) so ∙ ap (union (attributes_of_all schema (passing (contains set) o))) is ∙ sym (together_push schema (passing (contains set) o) o)
    ∙ ap (attributes_of_all schema) (sym (passing_in (contains set) o in'))

pub together_same : (schema : SchemaValue) (set : FinSet nat_cmp) (o : ℕ) (all next : FinSet nat_cmp) → all ≡ attributes_of_all schema (passing (contains set) o) → contains set o ≡ false → next ≡ all → next ≡ attributes_of_all schema (passing (contains set) (o + 1))
together_same schema set o all next so out e = e ∙ so ∙ ap (attributes_of_all schema) (sym (passing_out (contains set) o out))
