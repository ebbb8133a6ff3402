-- Pieces of a script, one after another.
use Rattle.std.proofs.Common.{◌≡◌, ◌+◌, ℕ, suc, List, [], ◌∷◌, ◌++◌, refl, sym, ap, append_assoc, arith, ◌∙◌}
use Rattle.std.specs.List.{flat_map, range_with_len}
use Rattle.std.proofs.lemmas.List.{flat_map_more}
use Rattle.su_base.proofs.Items.{range-suc}

-- the piece of one more number
pub pieces_more : (f : ℕ → List ℕ) (front : List ℕ) (n : ℕ) → (front ++ flat_map f (range_with_len 1 n)) ++ f (n + 1) ≡ front ++ flat_map f (range_with_len 1 (n + 1))
pieces_more f front n =
    let one : n + 1 ≡ 1 + n = omega arith in
    let next : suc n ≡ n + 1 = omega arith in
    flat_map_more f front (range_with_len 1 n) (n + 1)
    ∙ ap (λ xs. front ++ flat_map f xs) (ap (λ k. range_with_len 1 n ++ k ∷ []) one ∙ sym (range-suc 1 n (1 + n) refl) ∙ ap (range_with_len 1) next)

-- seven pieces
pub seven : (s t u v w x y z a b c d e f g : List ℕ) → t ≡ s ++ a → u ≡ t ++ b → v ≡ u ++ c → w ≡ v ++ d → x ≡ w ++ e → y ≡ x ++ f → z ≡ y ++ g
    → z ≡ s ++ (a ++ b ++ c ++ d ++ e ++ f ++ g)
seven s t u v w x y z a b c d e f g p q r k l m n = grind (arith, append_assoc, p, q, r, k, l, m, n)
