-- The order of breaches, part by part, and the first of some from the first of one dependency or through one object.
use Rattle.std.proofs.Common.{◌≡◌, ◌≢◌, ◌<◌, ℕ, refl, sym, subst, ◌∙◌, inl, inr, arith}
use Rattle.std.specs.Ordering.{nat_cmp, ordering_then}
use Rattle.std.specs.declared.cmp.Ordering.{Ordering}
use Rattle.std.specs.declared.cmp.Ordering.TheVariants.{Less, Equal, Greater}
use Rattle.std.proofs.lemmas.Bool.{cases_order}
use Rattle.std.proofs.lemmas.Cmp.{ranked, by_ranked}
use Rattle.su_base.specs.Value.{compare_lists}
use Rattle.su_base.proofs.Rows.{equal_rows}
use Rattle.su_state.specs.Breaches.{Breach, compare_breaches, IsFirstOf}
use Rattle.su_state.specs.inside.SomeBreaches.{OfDependency, ThroughObject}

then_at_most : (a b : Ordering) → a ≢ Greater → (a ≡ Equal → b ≢ Greater) → ordering_then a b ≢ Greater
then_at_most Less b out next = out
then_at_most Equal b out next = next refl
then_at_most Greater b out next = absurd (out refl)

number_at_most : (m n : ℕ) → ¬ (n < m) → nat_cmp m n ≢ Greater
number_at_most m n out greater = by_ranked (m < n) (m ≡ n) (n < m) (nat_cmp m n) (ranked m n (nat_cmp m n) refl) (λ less _. absurd (cc)) (λ same _. absurd (cc)) (λ more less. out less)

pub breach_at_most : (b c : Breach) → ¬ (c.dependency < b.dependency) → (b.dependency ≡ c.dependency → ¬ (c.object < b.object))
    → (b.dependency ≡ c.dependency → b.object ≡ c.object → compare_lists b.first c.first ≢ Greater)
    → (b.dependency ≡ c.dependency → b.object ≡ c.object → b.first ≡ c.first → compare_lists b.second c.second ≢ Greater) → compare_breaches b c ≢ Greater
breach_at_most b c fd object first second =
    then_at_most (nat_cmp b.dependency c.dependency) _ (number_at_most b.dependency c.dependency fd)
    (λ f.
    let one = ranked b.dependency c.dependency Equal (sym f) in
    then_at_most (nat_cmp b.object c.object) _ (number_at_most b.object c.object (object one))
    (λ o.
    let two = ranked b.object c.object Equal (sym o) in
    then_at_most (compare_lists b.first c.first) (compare_lists b.second c.second) (first one two) (λ r. second one two (equal_rows b.first c.first r))))

of_later : (b c : Breach) → b.dependency < c.dependency → compare_breaches b c ≢ Greater
of_later b c less =
    breach_at_most b c (λ more. absurd (omega (arith, less, more)))
    (λ same. absurd (omega (arith, less, same)))
    (λ same _. absurd (omega (arith, less, same)))
    (λ same _ _. absurd (omega (arith, less, same)))

through_later : (b c : Breach) → b.dependency ≡ c.dependency → b.object < c.object → compare_breaches b c ≢ Greater
through_later b c fd less =
    breach_at_most b c (λ more. absurd (omega (arith, fd, more)))
    (λ _ more. absurd (omega (arith, less, more)))
    (λ _ same. absurd (omega (arith, less, same)))
    (λ _ same _. absurd (omega (arith, less, same)))

-- the first of one dependency, where there is none of an earlier one
pub first_by_dependency : (Among : Breach → Type 0) (f : ℕ) (x : Breach) → IsFirstOf (OfDependency f Among) x → ((n : ℕ) → n < f → (b : Breach) → ¬ OfDependency n Among b) → IsFirstOf Among x
first_by_dependency Among f x first none = (
  first.0.0,
  λ c among. elim (cases_order c.dependency f) [
    | inl same ↦ first.1 c (among, same)
    | inr apart ↦ elim apart [
      | inl less ↦ absurd (none c.dependency less c (among, refl))
      | inr more ↦ of_later x c (subst (λ (n : ℕ). n < c.dependency) (sym first.0.1) more)
    ]
  ],
)

-- the first of a dependency through one object, where there is none through an earlier one
pub first_by_object : (Among : Breach → Type 0) (f o : ℕ) (x : Breach) → IsFirstOf (ThroughObject o (OfDependency f Among)) x
    → ((n : ℕ) → n < o → (b : Breach) → ¬ ThroughObject n (OfDependency f Among) b) → IsFirstOf (OfDependency f Among) x
first_by_object Among f o x first none = (
  first.0.0,
  λ c among. elim (cases_order c.object o) [
    | inl same ↦ first.1 c (among, same)
    | inr apart ↦ elim apart [
      | inl less ↦ absurd (none c.object less c (among, refl))
      | inr more ↦ through_later x c (first.0.0.1 ∙ sym among.1) (subst (λ (n : ℕ). n < c.object) (sym first.0.1) more)
    ]
  ],
)

-- the first through an object of one dependency, where there is none of an earlier one
pub first_through_object : (Among : Breach → Type 0) (f o : ℕ) (x : Breach) → IsFirstOf (ThroughObject o (OfDependency f Among)) x
    → ((n : ℕ) → n < f → (b : Breach) → ¬ ThroughObject o (OfDependency n Among) b) → IsFirstOf (ThroughObject o Among) x
first_through_object Among f o x first none = (
  (first.0.0.0, first.0.1),
  λ c among. elim (cases_order c.dependency f) [
    | inl same ↦ first.1 c ((among.0, same), among.1)
    | inr apart ↦ elim apart [
      | inl less ↦ absurd (none c.dependency less c ((among.0, refl), among.1))
      | inr more ↦ of_later x c (subst (λ (n : ℕ). n < c.dependency) (sym first.0.0.1) more)
    ]
  ],
)
