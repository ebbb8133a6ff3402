-- One more item of a list with a separator, and one more part of a list of parts.
use Rattle.std.proofs.Common.{◌≡◌, ◌<◌, ◌+◌, ℕ, Bool, true, false, List, [], ◌∷◌, ◌++◌, length, map, take, get_or, nat_lt, refl, ap, sym, ◌∙◌, arith, append_assoc, append-nil}
use Rattle.std.specs.Prelude.{if◌then◌else◌}
use Rattle.std.specs.List.{flat_map}
use Rattle.std.proofs.lemmas.List.{take_more, map_push, length-take-le, length-map}
use Rattle.std.specs.List.{join_by}
use Rattle.su_base.proofs.Items.{flat_map-push, map-map_equal}
use Rattle.std.proofs.lemmas.Bool.Decides.{nat_tests}
use Rattle.su_lex.specs.declared.signs.Sign.TheVariants as sign
use Rattle.su_lex.specs.declared.meaning.Symbol.{Symbol}
use Rattle.su_lex.specs.declared.meaning.Symbol.TheVariants.{Sign}
use Rattle.su_query.specs.Refs.{NamedCond}
use Rattle.su_query.specs.ShownConditions.{ShownCond, shown_cond, cond_symbols, part, joined}
use Rattle.su_lex.specs.Wordings.{in_parens}

wrapped : (x : ShownCond) → (if x.many then Sign sign.Open ∷ [] else []) ++ (x.symbols ++ (if x.many then Sign sign.Close ∷ [] else [])) ≡ part x
wrapped x =
    elim (x.many) as (λ b. (if b then Sign sign.Open ∷ [] else []) ++ (x.symbols ++ (if b then Sign sign.Close ∷ [] else [])) ≡ (if b then in_parens x.symbols else x.symbols)) [
      | true ↦ refl
      | false ↦ append-nil x.symbols
    ]

-- an item more at the end
listed_push : {X : Type 0} (separator : List X) (items : List (List X)) (x : List X) (b : Bool) → b ≡ nat_lt 0 (length items) → join_by (λ x. x) separator (items ++ x ∷ []) ≡ join_by (λ x. x) separator items ++ ((if b then separator else []) ++ x)
listed_push separator [] x b e = rw e (append-nil x)
listed_push {X} separator (y ∷ ys) x b e =
    let t : b ≡ true = grind (arith, nat_tests, e) in
    let g : List X → List X = λ z. separator ++ z in
    rw t (ap (λ s. y ++ s) (flat_map-push g ys x) ∙ sym (append_assoc y (flat_map g ys) (separator ++ x)))

-- items that are made of others by f, one more of these
pub listed_more : {A X : Type 0} (separator : List X) (f : A → List X) (xs : List A) (i : ℕ) (x : A) (start out o1 o2 : List X) → i < length xs → x ≡ get_or xs i x → out ≡ start ++ join_by (λ x. x) separator (map f (take i xs))
    → o1 ≡ out ++ (if nat_lt 0 i then separator else []) → o2 ≡ o1 ++ f x → o2 ≡ start ++ join_by (λ x. x) separator (map f (take (i + 1) xs))
listed_more separator f xs i x start out o1 o2 l at e e1 e2 =
    let q = (if nat_lt 0 i then separator else []) in
    let items = map f (take i xs) in
    let count : length items ≡ i = length-map (take i xs) f ∙ length-take-le i xs (omega arith) in
    let more : map f (take (i + 1) xs) ≡ items ++ f x ∷ [] = ap (map f) (take_more xs i x l ∙ ap (λ y. take i xs ++ y ∷ []) (sym at)) ∙ map_push f (take i xs) x in
    let all : o2 ≡ start ++ (join_by (λ x. x) separator items ++ (q ++ f x)) = rw (e2, e1, e) (simp append_assoc) in
    all ∙ ap (λ s. start ++ s) (sym (listed_push separator items (f x) (nat_lt 0 i) (ap (nat_lt 0) (sym count)))) ∙ ap (λ ys. start ++ join_by (λ x. x) separator ys) (sym more)

pub joined_more : (w : Symbol) (parts : List NamedCond) (i : ℕ) (c : NamedCond) (start out o1 o2 o3 o4 : List Symbol) → i < length parts → c ≡ get_or parts i c
    → out ≡ start ++ joined w (map shown_cond (take i parts)) → o1 ≡ out ++ (if nat_lt 0 i then w ∷ [] else [])
    → o2 ≡ o1 ++ (if (shown_cond c).many then Sign sign.Open ∷ [] else []) → o3 ≡ o2 ++ cond_symbols c → o4 ≡ o3 ++ (if (shown_cond c).many then Sign sign.Close ∷ [] else [])
    → o4 ≡ start ++ joined w (map shown_cond (take (i + 1) parts))
joined_more w parts i c start out o1 o2 o3 o4 l at e e1 e2 e3 e4 =
    let a = (if (shown_cond c).many then Sign sign.Open ∷ [] else []) in
    let z = (if (shown_cond c).many then Sign sign.Close ∷ [] else []) in
    let f : NamedCond → List Symbol = λ x. part (shown_cond x) in
    let spelled : o4 ≡ o1 ++ (a ++ (cond_symbols c ++ z)) = rw (e4, e3, e2) (simp append_assoc) in
    let images = map-map_equal shown_cond part f (λ x. refl) in
    listed_more (w ∷ []) f parts i c start out o1 o4 l at (e ∙ ap (λ x. start ++ join_by (λ x. x) (w ∷ []) x) (images (take i parts))) e1 (spelled ∙ ap (λ x. o1 ++ x) (wrapped (shown_cond c)))
    ∙ ap (λ x. start ++ join_by (λ x. x) (w ∷ []) x) (sym (images (take (i + 1) parts)))
