-- The outputs so far, each pinned to the row's value beside it.
use Rattle.std.proofs.Common.{◌≡◌, ◌↔◌, ◌+◌, ◌<◌, ◌≤◌, ℕ, List, [], ◌∷◌, ◌++◌, length, min, Contains, Some, sym, ap, subst, ◌∙◌, ⊎_elim, arith}
use Rattle.std.specs.Prelude.{slice_get}
use Rattle.std.proofs.lemmas.Bool.{cases_lt}
use Rattle.std.proofs.lemmas.List.Elements.{Contains-append_left, Contains-push, Contains-push_cases}
use Rattle.std.proofs.lemmas.Option.{slice_get_within, same_Some}
use Rattle.su_base.specs.declared.values.Value.{Value}
use Rattle.su_base.proofs.Items.{Contains-nil}
use Rattle.su_tableau.specs.declared.symbols.Sym.{Sym}
use Rattle.su_exec.specs.declared.tasks.Compared.{Compared}
use Rattle.su_why.specs.WhyNot.{pin, IsPin, ArePins}

-- those of the first n places
abbrev pub ArePinsTo : List Sym → List Value → ℕ → List Compared → Type 0
ArePinsTo outputs h n list = (c : Compared) → Contains list c ↔ ((p : IsPin outputs h c) × (p.place < n))

module _ (outputs : List Sym) (h : List Value) where
  pub pins_none : (list : List Compared) → list ≡ [] → ArePinsTo outputs h 0 list
  pins_none list e c = (
    λ has. absurd (Contains-nil c (subst (λ (l : List Compared). Contains l c) e has)),
    λ w. absurd (let low = w.1 in omega (arith, low)),
  )

  pub pins_more : (n : ℕ) (list next : List Compared) (x : Sym) (w : Value) (one : Compared) → slice_get outputs n ≡ Some x → slice_get h n ≡ Some w → one ≡ pin x w → next ≡ list ++ one ∷ [] → ArePinsTo outputs h n list → ArePinsTo outputs h (n + 1) next
  pins_more n list next x w one stands beside is e before c = (
    λ has. ⊎_elim
        (λ (old : Contains list c). let p = (before c).0 old in (p.0, let low = p.1 in omega (arith, low)))
        (λ (new : one ≡ c). (record { place = n; output = x; value = w; stands = stands; beside = beside; is = sym new ∙ is }, omega arith))
        (Contains-push_cases list one c (subst (λ (l : List Compared). Contains l c) e has)),
    λ there.
        let p = there.0 in
        subst (λ (l : List Compared). Contains l c) (sym e)
        (⊎_elim
        (λ (lt : p.place < n). Contains-append_left list (one ∷ []) c ((before c).1 (p, lt)))
        (λ (le : n ≤ p.place).
        let low = there.1 in
        let here : p.place ≡ n = omega (arith, low) in
        let ox : x ≡ p.output = same_Some x p.output (sym stands ∙ ap (slice_get outputs) (sym here) ∙ p.stands) in
        let wv : w ≡ p.value = same_Some w p.value (sym beside ∙ ap (slice_get h) (sym here) ∙ p.beside) in
        let same : one ≡ c = is ∙ ap (λ (y : Sym). pin y w) ox ∙ ap (λ (v : Value). pin p.output v) wv ∙ sym p.is in
        subst (Contains (list ++ one ∷ [])) same (Contains-push list one))
        (cases_lt p.place n)),
  )

  pub pins_all : (n : ℕ) (list : List Compared) → min (length outputs) (length h) ≤ n → ArePinsTo outputs h n list → ArePins outputs h list
  pins_all n list end are c = (
    λ has. ((are c).0 has).0,
    λ p. (are c).1 (p, let a = slice_get_within outputs p.place p.output p.stands in let b = slice_get_within h p.place p.value p.beside in omega (arith, a, b, end)),
  )
