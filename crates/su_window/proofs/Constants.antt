-- Symbols whose names are constants, at attributes of a row and in all rows.
use Rattle.std.proofs.Common.{◌≡◌, ◌↔◌, ◌⊎◌, ℕ, ◌+◌, ◌<◌, pos, inl, inr, ⊎_elim, List, [], ◌∷◌, ◌++◌, map, take, length, get_or, Contains, refl, sym, ap, ◌∙◌, subst, arith}
use Rattle.std.proofs.lemmas.List.{length-map, take_more, get_or-map, get_or_default}
use Rattle.su_base.specs.declared.values.Value.{Value}
use Rattle.su_base.specs.declared.values.Value.TheVariants.{Int}
use Rattle.su_tableau.specs.declared.symbols.Sym.{Sym}
use Rattle.su_tableau.specs.declared.symbols.Sym.TheVariants.{Const, Var}
use Rattle.su_tableau.proofs.SymbolParts.{same_const}
use Rattle.su_chase.specs.inside.Rows.{name_by}
use Rattle.su_window.specs.inside.Readings.{AreConstants, AreConstantsIn}
use Rattle.su_window.proofs.Counted.{in_pushed, of_pushed}

abbrev name_at : List Sym → List Sym → ℕ → Sym
name_at names row a = name_by names (get_or row a (Var 0))

-- a symbol whose name is no constant
pub no_constants : (names row : List Sym) (attributes : List ℕ) (i a : ℕ) (x : Sym) → i < length attributes → a ≡ get_or attributes i a → a < length row → x ≡ get_or row a x → ((c : Value) → ¬ (name_by names x ≡ Const c)) → (h : List Value) → ¬ AreConstants names row attributes h
no_constants names row attributes i a x low at within x_is other h are =
    let same : x ≡ get_or row (get_or attributes i a) (Var 0) = x_is ∙ get_or_default row a x (Var 0) within ∙ ap (λ (k : ℕ). get_or row k (Var 0)) at in
    let long : length h ≡ length attributes = sym (length-map h Const) ∙ sym (ap (λ (xs : List Sym). length xs) are) ∙ length-map attributes (name_at names row) in
    let left : get_or (map (name_at names row) attributes) i (Var 0) ≡ name_by names x = get_or-map (name_at names row) attributes i a (Var 0) low ∙ ap (name_by names) (sym same) in
    let right : get_or (map Const h) i (Var 0) ≡ Const (get_or h i (Int (pos 0))) = get_or-map Const h i (Int (pos 0)) (Var 0) (omega (arith, low, long)) in
    other (get_or h i (Int (pos 0))) (sym left ∙ ap (λ (xs : List Sym). get_or xs i (Var 0)) are ∙ right)

one_list : (g h : List Value) → map Const g ≡ map Const h → g ≡ h
one_list [] [] e = refl
one_list [] (y ∷ h) e = absurd (cc)
one_list (x ∷ g) [] e = absurd (cc)
one_list (x ∷ g) (y ∷ h) e =
    let first : Const x ≡ Const y = cc in
    let rest : map Const g ≡ map Const h = cc in
    let head = same_const x y first in
    let tail = one_list g h rest in
    cc

pub added : (names row : List Sym) (attributes : List ℕ) (values : List Value) (found next : List (List Value)) → next ≡ found ++ values ∷ [] → AreConstants names row attributes values → (h : List Value) → Contains next h ↔ (Contains found h ⊎ AreConstants names row attributes h)
added names row attributes values found next push are h = (
  λ c.
      ⊎_elim
      (λ (before : Contains found h). inl before)
      (λ (e : h ≡ values). inr (subst (AreConstants names row attributes) (sym e) are))
      (of_pushed found values h (subst (λ (xs : List (List Value)). Contains xs h) push c)),
  λ s.
      subst (λ (xs : List (List Value)). Contains xs h) (sym push)
      (in_pushed found values h
      (⊎_elim
      (λ (before : Contains found h). inl before)
      (λ (other : AreConstants names row attributes h). inr (one_list h values (sym other ∙ are)))
      s)),
)

pub none_added : (names row : List Sym) (attributes : List ℕ) (found : List (List Value)) → ((h : List Value) → ¬ AreConstants names row attributes h) → (h : List Value) → Contains found h ↔ (Contains found h ⊎ AreConstants names row attributes h)
none_added names row attributes found none h = (
  λ c. inl c,
  λ s.
      ⊎_elim
      (λ (before : Contains found h). before)
      (λ (are : AreConstants names row attributes h). absurd (none h are))
      s,
)

-- ---- all rows

pub rows_more : (names : List Sym) (rows : List (List Sym)) (attributes : List ℕ) (i : ℕ) (row item : List Sym) (found next : List (List Value)) → i < length rows → item ≡ get_or rows i item → row ≡ item → ((h : List Value) → Contains next h ↔ (Contains found h ⊎ AreConstants names row attributes h)) → ((h : List Value) → Contains found h ↔ AreConstantsIn names (take i rows) attributes h) → (h : List Value) → Contains next h ↔ AreConstantsIn names (take (i + 1) rows) attributes h
rows_more names rows attributes i row item found next low at same adds so_far h =
    let here : get_or rows i item ≡ row = sym at ∙ sym same in
    let taken : take (i + 1) rows ≡ take i rows ++ row ∷ [] = take_more rows i item low ∙ ap (λ (r : List Sym). take i rows ++ r ∷ []) here in (
      λ c.
          ⊎_elim
          (λ (before : Contains found h). let w = (so_far h).0 before in (w.0, subst (λ (xs : List (List Sym)). Contains xs w.0) (sym taken) (in_pushed (take i rows) row w.0 (inl w.1)), w.2))
          (λ (are : AreConstants names row attributes h). (row, subst (λ (xs : List (List Sym)). Contains xs row) (sym taken) (in_pushed (take i rows) row row (inr refl)), are))
          ((adds h).0 c),
      λ w.
          (adds h).1
          (⊎_elim
          (λ (before : Contains (take i rows) w.0). inl ((so_far h).1 (w.0, before, w.2)))
          (λ (e : w.0 ≡ row). inr (subst (λ (r : List Sym). AreConstants names r attributes h) e w.2))
          (of_pushed (take i rows) row w.0 (subst (λ (xs : List (List Sym)). Contains xs w.0) taken w.1))),
    )
