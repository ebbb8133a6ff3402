-- Parts of a text, one behind the other.
use Rattle.su_draw.specs.declared.shapes.Position.{Position}
use Rattle.su_draw.specs.Shapes.{text_pairs}
use Rattle.std.proofs.Common.{◌≡◌, ℕ, List, ◌++◌, sym, ap, ◌∙◌, append_assoc}

pub five_parts : (old a b c d f o1 o2 o3 o4 new : List ℕ) → o1 ≡ old ++ a → o2 ≡ o1 ++ b → o3 ≡ o2 ++ c → o4 ≡ o3 ++ d → new ≡ o4 ++ f → new ≡ old ++ (a ++ (b ++ (c ++ (d ++ f))))
five_parts old a b c d f o1 o2 o3 o4 new e1 e2 e3 e4 e5 =
    e5 ∙ ap (λ t. t ++ f) e4 ∙ append_assoc o3 d f
    ∙ ap (λ t. t ++ (d ++ f)) e3 ∙ append_assoc o2 c (d ++ f)
    ∙ ap (λ t. t ++ (c ++ (d ++ f))) e2 ∙ append_assoc o1 b (c ++ (d ++ f))
    ∙ ap (λ t. t ++ (b ++ (c ++ (d ++ f)))) e1 ∙ append_assoc old a (b ++ (c ++ (d ++ f)))

pub six_parts : (old a b c d e f o1 o2 o3 o4 o5 new : List ℕ) → o1 ≡ old ++ a → o2 ≡ o1 ++ b → o3 ≡ o2 ++ c → o4 ≡ o3 ++ d → o5 ≡ o4 ++ e → new ≡ o5 ++ f → new ≡ old ++ (a ++ (b ++ (c ++ (d ++ (e ++ f)))))
six_parts old a b c d e f o1 o2 o3 o4 o5 new e1 e2 e3 e4 e5 e6 = five_parts old a b c d (e ++ f) o1 o2 o3 o4 new e1 e2 e3 e4 (e6 ∙ ap (λ t. t ++ f) e5 ∙ append_assoc o4 e f)

pub three_parts : (old a b c o1 o2 new : List ℕ) → o1 ≡ old ++ a → o2 ≡ o1 ++ b → new ≡ o2 ++ c → new ≡ old ++ ((a ++ b) ++ c)
three_parts old a b c o1 o2 new e1 e2 e3 =
    e3 ∙ ap (λ t. t ++ c) (e2 ∙ ap (λ t. t ++ b) e1) ∙ append_assoc (old ++ a) b c ∙ append_assoc old a (b ++ c) ∙ ap (λ t. old ++ t) (sym (append_assoc a b c))

pub same_pairs : (p : Position) (a b c x y z : List ℕ) → a ≡ x → b ≡ y → c ≡ z → text_pairs p a b c ≡ text_pairs p x y z
same_pairs p a b c x y z e f g = ap (λ t. text_pairs p t b c) e ∙ ap (λ t. text_pairs p x t c) f ∙ ap (λ t. text_pairs p x y t) g
