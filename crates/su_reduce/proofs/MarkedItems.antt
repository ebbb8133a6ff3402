-- Where the marked items of a list stood in it.
use Rattle.std.proofs.Common.{◌≡◌, ◌<◌, ℕ, zero, suc, Bool, true, false, List, [], ◌∷◌, length, get_or, Contains, refl, sym, arith}
use Rattle.std.specs.Prelude.{IsTrue}
use Rattle.std.proofs.lemmas.Bool.{true≢false}
use Rattle.su_reduce.specs.Left.{marked}

-- a marked item, and where it stood
pub marked_from : {A : Type 0} (ms : List Bool) (xs : List A) (x : A) → Contains (marked ms xs) x → (p : ℕ) × (p < length xs) × IsTrue (get_or ms p false) × (get_or xs p x ≡ x)
marked_from [] xs x (k, l, e) = absurd (omega (arith, l))
marked_from (m ∷ ms) [] x (k, l, e) = absurd (omega (arith, l))
marked_from (true ∷ ms) (y ∷ xs) x (zero, l, e) = (0, omega arith, refl, e)
marked_from (true ∷ ms) (y ∷ xs) x (suc k, l, e) = let r = marked_from ms xs x (k, omega (arith, l), e) in let low = r.1 in (suc r.0, omega (arith, low), r.2, r.3)
marked_from (false ∷ ms) (y ∷ xs) x c = let r = marked_from ms xs x c in let low = r.1 in (suc r.0, omega (arith, low), r.2, r.3)

-- the item at a place with a mark
pub marked_has : {A : Type 0} (ms : List Bool) (xs : List A) (p : ℕ) (d : A) → p < length xs → IsTrue (get_or ms p false) → Contains (marked ms xs) (get_or xs p d)
marked_has [] xs zero d h m = absurd (true≢false (sym m))
marked_has [] xs (suc p) d h m = absurd (true≢false (sym m))
marked_has (b ∷ ms) [] p d h m = absurd (omega (arith, h))
marked_has (true ∷ ms) (x ∷ xs) zero d h m = (0, omega arith, refl)
marked_has (true ∷ ms) (x ∷ xs) (suc p) d h m = let r = marked_has ms xs p d (omega (arith, h)) m in let low = r.1 in (suc r.0, omega (arith, low), r.2)
marked_has (false ∷ ms) (x ∷ xs) zero d h m = absurd (true≢false (sym m))
marked_has (false ∷ ms) (x ∷ xs) (suc p) d h m = marked_has ms xs p d (omega (arith, h)) m
