-- Lists that are made by a function of numbers.
use Rattle.std.proofs.Common.{◌≡◌, ℕ, ◌<◌, map, Contains, sym, ◌∙◌, subst}
use Rattle.std.specs.List.{range_with_len}
use Rattle.std.proofs.lemmas.List.FromFn.{length-map-range_with_len, fill_by_all}
use Rattle.su_base.proofs.Items.{get_or-map_range}

pub same_made : {X : Type 0} (f g : ℕ → X) (n : ℕ) (d : X) → ((a : ℕ) → a < n → f a ≡ g a) → map f (range_with_len 0 n) ≡ map g (range_with_len 0 n)
same_made f g n d same = fill_by_all g (map f (range_with_len 0 n)) n d (length-map-range_with_len f 0 n) (λ a l. get_or-map_range f n a d l ∙ same a l)

-- each member stands at some place
pub of_made : {X : Type 0} (f : ℕ → X) (n : ℕ) (x : X) → Contains (map f (range_with_len 0 n)) x → (a : ℕ) × (a < n) × (f a ≡ x)
of_made f n x c =
    let low : c.0 < n = subst (λ (k : ℕ). c.0 < k) (length-map-range_with_len f 0 n) c.1 in
    (c.0, low, sym (get_or-map_range f n c.0 x low) ∙ c.2)

pub in_made : {X : Type 0} (f : ℕ → X) (n a : ℕ) → a < n → Contains (map f (range_with_len 0 n)) (f a)
in_made f n a l = (a, subst (λ (k : ℕ). a < k) (sym (length-map-range_with_len f 0 n)) l, get_or-map_range f n a (f a) l)
