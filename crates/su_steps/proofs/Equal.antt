-- The equalities and the heads of the comparisons so far, one comparison more.
use Rattle.std.proofs.Common.{◌≡◌, ℕ, ◌+◌, ◌<◌, true, false, cond, List, [], ◌∷◌, ◌++◌, map, length, take, get_or, refl, sym, ap, ◌∙◌, subst, ⊎_elim, ◌≤◌, append_assoc, arith}
use Rattle.std.proofs.lemmas.Bool.{cases_lt}
use Rattle.std.proofs.lemmas.List.{take_more, take_all, map-append, get_or_default}
use Rattle.su_base.specs.declared.values.Value.{Value}
use Rattle.su_base.proofs.Items.{Contains-map, Contains-map_source}
use Rattle.su_where.specs.declared.literals.Literal.{Literal}
use Rattle.su_tableau.specs.declared.symbols.Sym.{Sym}
use Rattle.su_classes.specs.declared.items.Together.{Together}
use Rattle.su_classes.specs.inside.Symbols.{symbol_number}
use Rattle.su_query.specs.declared.places.Place.{Place}
use Rattle.su_steps.specs.declared.building.Head.{Head}
use Rattle.su_steps.specs.PairSymbols.{SymbolComparison, compared, comparisons}
use Rattle.su_steps.specs.Evaluated.{is_evaluated, left_over, sides, EvaluatesFalse}
use Rattle.su_steps.specs.inside.Heads.{with_compared, head_of, IsSomeFalse, IsNoneFalse}
use Rattle.su_steps.specs.inside.Numbers.{is_equality, equals}

equals-append : (vs : List Value) (xs ys : List SymbolComparison) → equals vs (xs ++ ys) ≡ equals vs xs ++ equals vs ys
equals-append vs [] ys = refl
equals-append vs (x ∷ xs) ys =
    let i = equals-append vs xs ys in
    let e : Together = record { left = symbol_number vs x.left; right = symbol_number vs x.right } in
    elim (is_equality x.op) as (λ b. cond b (e ∷ equals vs (xs ++ ys)) (equals vs (xs ++ ys)) ≡ cond b (e ∷ equals vs xs) (equals vs xs) ++ equals vs ys) [
      | true ↦ ap (λ zs. e ∷ zs) i
      | false ↦ i
    ]

comparisons_more : (n : ℕ) (places : List Place) (ls : List Literal) (i : ℕ) (l : Literal) → i < length ls → l ≡ get_or ls i l → comparisons n places (take (i + 1) ls) ≡ comparisons n places (take i ls) ++ comparisons n places (l ∷ [])
comparisons_more n places ls i l h is =
    ap (comparisons n places) (take_more ls i l h ∙ ap (λ x. take i ls ++ x ∷ []) (sym is)) ∙ map-append (compared n places) (take i ls) (l ∷ [])

pub equals_more : (vs : List Value) (n : ℕ) (places : List Place) (ls : List Literal) (i : ℕ) (l : Literal) (before next : List Together) → i < length ls → l ≡ get_or ls i l → before ≡ equals vs (comparisons n places (take i ls)) → next ≡ before ++ equals vs (comparisons n places (l ∷ []))
    → next ≡ equals vs (comparisons n places (take (i + 1) ls))
equals_more vs n places ls i l before next h is so e =
    e ∙ ap (λ z. z ++ equals vs (comparisons n places (l ∷ []))) so ∙ sym (ap (equals vs) (comparisons_more n places ls i l h is) ∙ equals-append vs (comparisons n places (take i ls)) (comparisons n places (l ∷ [])))

-- ---- heads

sides-append : (xs ys : List SymbolComparison) → sides (xs ++ ys) ≡ sides xs ++ sides ys
sides-append [] ys = refl
sides-append (x ∷ xs) ys = let i = sides-append xs ys in cc

left_over-append : (name : Sym → Sym) (xs ys : List SymbolComparison) → left_over name (xs ++ ys) ≡ left_over name xs ++ left_over name ys
left_over-append name [] ys = refl
left_over-append name (x ∷ xs) ys =
    let i = left_over-append name xs ys in
    let c : SymbolComparison = record { left = name x.left; op = x.op; right = name x.right } in
    elim (is_evaluated (name x.left) (name x.right)) as (λ b. cond b (left_over name (xs ++ ys)) (c ∷ left_over name (xs ++ ys)) ≡ cond b (left_over name xs) (c ∷ left_over name xs) ++ left_over name ys) [
      | true ↦ i
      | false ↦ ap (λ zs. c ∷ zs) i
    ]

same_head : (g h : Head) → g.symbols ≡ h.symbols → g.operators ≡ h.operators → g ≡ h
same_head g h s o = λ i. record { symbols = s i; operators = o i }

with-append : (name : Sym → Sym) (head : Head) (xs ys : List SymbolComparison) → with_compared name (with_compared name head xs) ys ≡ with_compared name head (xs ++ ys)
with-append name head xs ys =
    let l = left_over-append name xs ys in
    let s : (head.symbols ++ sides (left_over name xs)) ++ sides (left_over name ys) ≡ head.symbols ++ sides (left_over name (xs ++ ys)) =
    append_assoc head.symbols (sides (left_over name xs)) (sides (left_over name ys)) ∙ ap (λ z. head.symbols ++ z) (sym (ap sides l ∙ sides-append (left_over name xs) (left_over name ys))) in
    let o : (head.operators ++ map (λ c. c.op) (left_over name xs)) ++ map (λ c. c.op) (left_over name ys) ≡ head.operators ++ map (λ c. c.op) (left_over name (xs ++ ys)) =
    append_assoc head.operators (map (λ c. c.op) (left_over name xs)) (map (λ c. c.op) (left_over name ys))
    ∙ ap (λ z. head.operators ++ z) (sym (ap (map (λ c. c.op)) l ∙ map-append (λ c. c.op) (left_over name xs) (left_over name ys))) in
    same_head _ _ s o

pub head_more : (name : Sym → Sym) (outputs : List Sym) (n : ℕ) (places : List Place) (ls : List Literal) (i : ℕ) (l : Literal) (before next : Head) → i < length ls → l ≡ get_or ls i l → before ≡ head_of name outputs (comparisons n places (take i ls))
    → next ≡ with_compared name before (comparisons n places (l ∷ [])) → next ≡ head_of name outputs (comparisons n places (take (i + 1) ls))
head_more name outputs n places ls i l before next h is so e =
    e ∙ ap (λ z. with_compared name z (comparisons n places (l ∷ []))) so ∙ with-append name (record { symbols = outputs; operators = [] }) (comparisons n places (take i ls)) (comparisons n places (l ∷ []))
    ∙ ap (head_of name outputs) (sym (comparisons_more n places ls i l h is))

-- ---- comparisons that are evaluated and false

pub some_false : (name : Sym → Sym) (n : ℕ) (places : List Place) (ls : List Literal) (i : ℕ) (l : Literal) → i < length ls → l ≡ get_or ls i l → EvaluatesFalse name (compared n places l) → IsSomeFalse name (comparisons n places ls)
some_false name n places ls i l h is f = (compared n places l, Contains-map (compared n places) ls l (i, h, sym is), f)

pub none_more : (name : Sym → Sym) (n : ℕ) (places : List Place) (ls : List Literal) (i : ℕ) (l : Literal) → i < length ls → l ≡ get_or ls i l → ((k : ℕ) (d : Literal) → k < i → ¬ EvaluatesFalse name (compared n places (get_or ls k d))) → ¬ EvaluatesFalse name (compared n places l)
    → (k : ℕ) (d : Literal) → k < i + 1 → ¬ EvaluatesFalse name (compared n places (get_or ls k d))
none_more name n places ls i l h is before here k d below =
    ⊎_elim
    (λ (lt : k < i). before k d lt)
    (λ (ge : i ≤ k). let e : i ≡ k = omega arith in subst (λ (x : Literal). ¬ EvaluatesFalse name (compared n places x)) (is ∙ get_or_default ls i l d h ∙ ap (λ j. get_or ls j d) e) here)
    (cases_lt k i)

pub none_all : (name : Sym → Sym) (n : ℕ) (places : List Place) (ls : List Literal) (i : ℕ) → length ls ≤ i → ((k : ℕ) (d : Literal) → k < i → ¬ EvaluatesFalse name (compared n places (get_or ls k d))) → IsNoneFalse name (comparisons n places ls)
none_all name n places ls i l before c has =
    let w = Contains-map_source (compared n places) ls c has in
    let at : ¬ EvaluatesFalse name (compared n places w.0) = subst (λ (x : Literal). ¬ EvaluatesFalse name (compared n places x)) w.1.2 (before w.1.0 w.0 (let k = w.1.1 in omega arith)) in
    subst (λ (c : SymbolComparison). ¬ EvaluatesFalse name c) w.2 at

pub head_all : (name : Sym → Sym) (outputs : List Sym) (n : ℕ) (places : List Place) (ls : List Literal) (i : ℕ) (head : Head) → length ls ≤ i → head ≡ head_of name outputs (comparisons n places (take i ls)) → head ≡ head_of name outputs (comparisons n places ls)
head_all name outputs n places ls i head l e = e ∙ ap (λ xs. head_of name outputs (comparisons n places xs)) (take_all i ls l)
