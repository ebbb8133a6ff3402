-- Of a set there is one closure and one derivation.
use Rattle.std.proofs.Common.{◌≡◌, ℕ, [], ◌∷◌, Some, None, refl, sym, ◌∙◌, subst}
use Rattle.std.specs.Prelude.{IsTrue}
use Rattle.std.specs.Ordering.{nat_cmp}
use Rattle.std.specs.Cmp.{nat_cmp_total}
use Rattle.std.specs.FinSet.{FinSet, contains, same_set, nat_cmp-IsAntisymmetric, union}
use Rattle.std.specs.Cmp.Derive.{one_truth}
use Rattle.su_fd.specs.Derivation.{IsDerivation, right_side}
use Rattle.su_once.specs.Closures.{OneClosure, OneDerivation}

-- sets with the same members are equal
pub one_set : (s t : FinSet nat_cmp) → ((a : ℕ) → IsTrue (contains s a) → IsTrue (contains t a)) → ((a : ℕ) → IsTrue (contains t a) → IsTrue (contains s a)) → s ≡ t
one_set s t f g = same_set nat_cmp_total nat_cmp-IsAntisymmetric s t (λ a. one_truth (contains s a) (contains t a) (f a) (g a))

pub one_closure : OneClosure
one_closure fds x s t h k = one_set s t (λ a in_s. (k a).1 ((h a).0 in_s)) (λ a in_t. (h a).1 ((k a).0 in_t))

pub one_derivation : OneDerivation
one_derivation fds x [] [] h k = refl
one_derivation fds x [] (j ∷ js) h k = absurd (let no : None ≡ Some j = sym h ∙ k.0 in cc)
one_derivation fds x (i ∷ is) [] h k = absurd (let no : None ≡ Some i = sym k ∙ h.0 in cc)
one_derivation fds x (i ∷ is) (j ∷ js) h k =
    let both : Some j ≡ Some i = sym k.0 ∙ h.0 in
    let same : j ≡ i = cc in
    let rest = one_derivation fds (union x (right_side fds i)) is js h.1 (subst (λ n. IsDerivation fds (union x (right_side fds n)) js) same k.1) in
    cc
