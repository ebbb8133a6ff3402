-- Lists that are made number by number.
use Rattle.std.proofs.Common.{◌≡◌, ℕ, ◌+◌, List, [], ◌∷◌, ◌++◌, map, flat_map, sym, ap, ◌∙◌, arith, append_assoc}
use Rattle.std.specs.List.{range_with_len}
use Rattle.std.proofs.lemmas.List.FromFn.{map-range_with_len_more}
use Rattle.su_base.proofs.Items.{flat_map-range_push}

-- the image of the next number, behind others
pub images_behind : {X : Type 0} (f : ℕ → X) (i : ℕ) (x : X) (old before after : List X) → before ≡ old ++ map f (range_with_len 0 i) → after ≡ before ++ x ∷ [] → x ≡ f i → after ≡ old ++ map f (range_with_len 0 (i + 1))
images_behind {X} f i x old before after so e is =
    e ∙ ap (λ (xs : List X). xs ++ x ∷ []) so ∙ append_assoc old (map f (range_with_len 0 i)) (x ∷ []) ∙ ap (λ (xs : List X). old ++ xs) (ap (λ (y : X). map f (range_with_len 0 i) ++ y ∷ []) is ∙ sym (map-range_with_len_more f 0 i i (omega arith)))

-- the images of the next number, which are lists
pub flat_next : {X : Type 0} (f : ℕ → List X) (i : ℕ) (before after : List X) → before ≡ flat_map f (range_with_len 0 i) → after ≡ before ++ f i → after ≡ flat_map f (range_with_len 0 (i + 1))
flat_next {X} f i before after so e =
    e ∙ ap (λ (t : List X). t ++ f i) so ∙ sym (flat_map-range_push f i)

-- five parts behind others
pub five_behind : (old a b c d e o1 o2 o3 o4 new : List ℕ) → o1 ≡ old ++ a → o2 ≡ o1 ++ b → o3 ≡ o2 ++ c → o4 ≡ o3 ++ d → new ≡ o4 ++ e → new ≡ old ++ (((a ++ b) ++ (c ++ d)) ++ e)
five_behind old a b c d e o1 o2 o3 o4 new e1 e2 e3 e4 e5 =
    let two : o2 ≡ old ++ (a ++ b) = e2 ∙ ap (λ (t : List ℕ). t ++ b) e1 ∙ append_assoc old a b in
    let four : o4 ≡ old ++ ((a ++ b) ++ (c ++ d)) =
    e4 ∙ ap (λ (t : List ℕ). t ++ d) e3 ∙ append_assoc o2 c d ∙ ap (λ (t : List ℕ). t ++ (c ++ d)) two ∙ append_assoc old (a ++ b) (c ++ d) in
    e5 ∙ ap (λ (t : List ℕ). t ++ e) four ∙ append_assoc old ((a ++ b) ++ (c ++ d)) e
