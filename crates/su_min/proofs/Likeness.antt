-- Equal operators, and ends of heads that are alike symbol by symbol.
use Rattle.std.proofs.Common.{◌≡◌, ◌<◌, ◌≤◌, ◌+◌, ◌-◌, ◌∙◌, ℕ, Bool, List, map, drop, length, get_or, refl, sym, ap, subst, arith}
use Rattle.std.specs.Bool.{Decides}
use Rattle.std.specs.Cmp.Lexicographic.{pointwise}
use Rattle.std.proofs.lemmas.Slice.Eq.{slice_eq-Decides}
use Rattle.std.proofs.lemmas.List.{length-map, length-drop, get_or-map, get_or-drop, get_or_default, same_lists}
use Rattle.su_where.specs.declared.operators.Op.{Op}
use Rattle.su_where.specs.declared.operators.Op.TheVariants.{Equal, NotEqual, Less, LessEqual, Greater, GreaterEqual}
use Rattle.su_where.specs.contracts.operators.OpPartialEq.TheImpl.{ghosts}
use Rattle.su_tableau.specs.declared.symbols.Sym.{Sym}
use Rattle.su_tableau.specs.Mapping.{image_of, images_of}
use Rattle.su_tableau.specs.declared.symbols.Sym.TheVariants.{Var}
use Rattle.su_min.specs.inside.Constants.{with_one_variable}

op_eq-Decides : (a b : Op) → Decides (ghosts.eq a b) (a ≡ b)
op_eq-Decides Equal Equal = (λ h. refl, λ e. refl)
op_eq-Decides NotEqual NotEqual = (λ h. refl, λ e. refl)
op_eq-Decides Less Less = (λ h. refl, λ e. refl)
op_eq-Decides LessEqual LessEqual = (λ h. refl, λ e. refl)
op_eq-Decides Greater Greater = (λ h. refl, λ e. refl)
op_eq-Decides GreaterEqual GreaterEqual = (λ h. refl, λ e. refl)
op_eq-Decides a b = (λ h. cc, λ e. cc)

pub ops_eq-Decides : (xs ys : List Op) (r : Bool) → r ≡ pointwise ghosts.eq xs ys → Decides r (xs ≡ ys)
ops_eq-Decides = slice_eq-Decides op_eq-Decides

-- the symbols from the place on are alike
abbrev pub AlikeFrom : List Sym → List Sym → ℕ → ℕ → Type 0
AlikeFrom xs ys start end = (k : ℕ) (d : Sym) → start ≤ k → k < end → with_one_variable (get_or xs k d) ≡ with_one_variable (get_or ys k d)

constant_at : (xs : List Sym) (start k : ℕ) (d : Sym) → start + k < length xs → get_or (map with_one_variable (drop start xs)) k (with_one_variable d) ≡ with_one_variable (get_or xs (start + k) d)
constant_at xs start k d h =
    let l = length-drop start xs in
    get_or-map with_one_variable (drop start xs) k d (with_one_variable d) (omega arith) ∙ ap with_one_variable (get_or-drop start xs k d)

pub ends_same : (xs ys : List Sym) (start : ℕ) → length xs ≡ length ys → AlikeFrom xs ys start (length xs) → map with_one_variable (drop start xs) ≡ map with_one_variable (drop start ys)
ends_same xs ys start len f =
    let lx = length-map (drop start xs) with_one_variable in let dx = length-drop start xs in
    let ly = length-map (drop start ys) with_one_variable in let dy = length-drop start ys in
    same_lists (map with_one_variable (drop start xs)) (map with_one_variable (drop start ys)) (omega arith) (λ k d h.
    get_or_default (map with_one_variable (drop start xs)) k d (with_one_variable (Var 0)) h
    ∙ constant_at xs start k (Var 0) (omega arith)
    ∙ f (start + k) (Var 0) (omega arith) (omega arith)
    ∙ sym (constant_at ys start k (Var 0) (omega arith))
    ∙ get_or_default (map with_one_variable (drop start ys)) k (with_one_variable (Var 0)) d (omega arith))

pub ends_at : (xs ys : List Sym) (start k : ℕ) (d : Sym) → length xs ≡ length ys → map with_one_variable (drop start xs) ≡ map with_one_variable (drop start ys) → start ≤ k → k < length xs → with_one_variable (get_or xs k d) ≡ with_one_variable (get_or ys k d)
ends_at xs ys start k d len same low high =
    let e : start + (k - start) ≡ k = omega arith in
    subst (λ k. with_one_variable (get_or xs k d) ≡ with_one_variable (get_or ys k d)) e
    (sym (constant_at xs start (k - start) d (omega arith)) ∙ ap (λ l. get_or l (k - start) (with_one_variable d)) same ∙ constant_at ys start (k - start) d (omega arith))

-- the images of a head's symbols are the other head's, one by one
pub head_at : (symbols : ℕ → Sym) (xs ys : List Sym) (i : ℕ) (x y : Sym) → i < length xs → images_of symbols xs ≡ ys → x ≡ get_or xs i x → y ≡ get_or ys i y → image_of symbols x ≡ y
head_at symbols xs ys i x y low same ex ey = ap (image_of symbols) ex ∙ sym (get_or-map (image_of symbols) xs i x y low) ∙ ap (λ l. get_or l i y) same ∙ sym ey
