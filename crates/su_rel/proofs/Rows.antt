-- What look-ups by `==` and the edits of an indexed set say of a set of rows.
use Rattle.std.proofs.Common.{◌≡◌, ◌≤◌, ℕ, take, Bool, true, false, not, List, [], ◌∷◌, ◌++◌, Option, None, Some, length, get_or, drop, ap, refl, sym, ◌∙◌, Contains, MatchOption, slice_get, arith, if◌then◌else◌, inl, inr, All}
use Rattle.std.specs.Bool.{Decides, MatchBool}
use Rattle.std.specs.List.{position, swap_remove, items_where_true, IsDistinct}
use Rattle.std.specs.List.Retain.{ReturnsInTurn}
use Rattle.std.specs.Cmp.Lexicographic.{pointwise}
use Rattle.std.proofs.lemmas.Bool.{false≢true}
use Rattle.std.proofs.lemmas.Option.{slice_get_read, slice_get_within, get_or_from_slice_get}
use Rattle.std.proofs.lemmas.List.{take-append-le, length_push}
use Rattle.std.proofs.lemmas.List.Elements.{All-push, All-nil, All-cons, All-head, All-tail, All-from_recursion, All-contains}
use Rattle.std.proofs.lemmas.List.Quantifiers.{position-Some}
use Rattle.std.proofs.lemmas.List.Sorted.{IsPermutation-swap_remove, IsPermutation-sym, Contains-permutation}
use Rattle.std.proofs.lemmas.Map.Keys.{apart_from_distinct, IsDistinct-IsPermutation, IsDistinct-head}
use Rattle.su_base.proofs.RemainingSets.{position-None}
use Rattle.su_base.proofs.Same.{row_eq-Decides}
use Rattle.su_base.specs.declared.values.Value.{Value}
use Rattle.su_base.specs.contracts.values.ValuePartialEq.TheImpl.{ghosts}
use Rattle.su_base.proofs.Items.{Contains-later, Contains-cases}
use Rattle.su_base.specs.Lists.{AllDiffer}
use Rattle.su_rel.specs.Stored.{Stored}
use Rattle.su_rel.specs.Changes.{PutIn, TakenOut}

-- `==` on rows
abbrev pub same : List Value → List Value → Bool
same = pointwise ghosts.eq

same_itself : (row : List Value) → same row row ≡ true
same_itself row = (row_eq-Decides row row _ refl).1 refl

-- the keys of an indexed set differ
pub AllDiffer-from_distinct : (rows : List (List Value)) → IsDistinct same rows → AllDiffer rows
AllDiffer-from_distinct rows distinct i j d less within e =
    false≢true (sym (apart_from_distinct same rows i j d distinct less within) ∙ (row_eq-Decides (get_or rows i d) (get_or rows j d) _ refl).1 e)

-- `==` on rows reads alike both ways
pub flips : (x y : List Value) → same x y ≡ same y x
flips x y =
    let d = row_eq-Decides x y (same x y) refl in
    let e = row_eq-Decides y x (same y x) refl in
    elim (same x y) as (λ b. same x y ≡ b → same x y ≡ same y x) [
      | true ↦ λ one. one ∙ sym (e.1 (sym (d.0 one)))
      | false ↦ λ none. elim (same y x) as (λ b. same y x ≡ b → same x y ≡ same y x) [
        | true ↦ λ one. absurd (false≢true (sym none ∙ d.1 (sym (e.0 one))))
        | false ↦ λ other. none ∙ sym other
      ] refl
    ] refl

-- the first place that `==` finds is the row's
pub found : (rows : List (List Value)) (row : List Value) (place : Option ℕ) → place ≡ position (same row) rows → MatchOption place (¬ Contains rows row) (λ i. slice_get rows i ≡ Some row)
found rows row None e = λ there.
    let one : same row (get_or rows there.0 row) ≡ true = (row_eq-Decides row (get_or rows there.0 row) _ refl).1 (sym there.2) in
    false≢true (sym (position-None (same row) rows (sym e) there.0 row there.1) ∙ one)
found rows row (Some i) e =
    let at = position-Some (same row) rows i row (sym e) in
    let is : row ≡ get_or rows i row = (row_eq-Decides row (get_or rows i row) _ refl).0 at.1 in
    slice_get_read rows (length rows) i row refl at.0 is

-- a row that is in the list with its last row moved is another row of the list, and the other way round
pub TakenOut-swap_remove : (rows : List (List Value)) (i : ℕ) (row : List Value) (news : List (List Value)) → IsDistinct same rows → slice_get rows i ≡ Some row → news ≡ swap_remove rows i row → TakenOut rows row news
TakenOut-swap_remove rows i row news distinct at e other =
    let moved = IsPermutation-swap_remove rows i row (slice_get_within rows i row at) (sym (get_or_from_slice_get rows i row row at)) in
    let apart = IsDistinct-head same row (swap_remove rows i row) (IsDistinct-IsPermutation same flips rows _ moved distinct) in
    let gone : All (λ y. same row y ≡ false) (swap_remove rows i row) = All-from_recursion (λ y. same row y ≡ false) (swap_remove rows i row) apart in (
      λ there.
          let still : Contains (swap_remove rows i row) other = rw e at there in (
            Contains-permutation _ _ other (IsPermutation-sym _ _ moved) (Contains-later row _ other still),
            λ is. false≢true (sym (All-contains (λ y. same row y ≡ false) (swap_remove rows i row) other gone still) ∙ ap (same row) is ∙ same_itself row),
          ),
      λ (there, apart'). rw e (
          elim (Contains-cases row (swap_remove rows i row) other (Contains-permutation _ _ other moved there)) [
            | inl is ↦ absurd (apart' (sym is))
            | inr still ↦ still
          ]),
    )

-- what an insert leaves, where b says whether the row was there
pub inserted : (rows : List (List Value)) (row : List Value) (b : Bool) → Decides b (Contains rows row) → (new : Bool) → new ≡ not b → (news : List (List Value)) → news ≡ (if b then rows else rows ++ row ∷ []) → (width : ℕ) (old : Stored) → ◌≡◌ {A = Stored} (record { width = width; rows = rows }) old
    → MatchBool new ((¬ Contains old.rows row) × (news ≡ old.rows ++ row ∷ [])) (Contains old.rows row × (◌≡◌ {A = Stored} (record { width = width; rows = news }) old))
inserted rows row true d new e news f width old v = rw (e, f, ← v) (d.0 refl, refl)
inserted rows row false d new e news f width old v = rw (e, f, ← v) (λ h. false≢true (d.1 h), refl)

-- the same as a step of a list of inserts
pub PutIn-insert : (rows : List (List Value)) (row : List Value) (b : Bool) → Decides b (Contains rows row) → (news : List (List Value)) → news ≡ (if b then rows else rows ++ row ∷ []) → PutIn rows row news
PutIn-insert rows row true d news e = inl (d.0 refl, e)
PutIn-insert rows row false d news e = inr ((λ h. false≢true (d.1 h)), e)

-- a test that reads one mark after another keeps the rows whose mark is set
pub kept_marks : {X P : Type 0} (R : P → X → Bool → P → Type 0) (left : P → List Bool) → ((p : P) (x : X) (b : Bool) (q : P) → R p x b q → (b ≡ get_or (left p) 0 false) × (left q ≡ drop 1 (left p))) → (bs : List Bool) (xs : List X) (p q : P) (marks : List Bool) → left p ≡ marks → length bs ≡ length xs → length marks ≡ length xs → ReturnsInTurn R p bs xs q → bs ≡ marks
kept_marks R left says [] [] p q [] at l m run = refl
kept_marks R left says [] [] p q (mark ∷ marks) at l m run = absurd (omega arith)
kept_marks R left says [] (x ∷ xs) p q marks at l m run = absurd (omega arith)
kept_marks R left says (b ∷ bs) [] p q marks at l m run = absurd (omega arith)
kept_marks R left says (b ∷ bs) (x ∷ xs) p q [] at l m run = absurd (omega arith)
kept_marks R left says (b ∷ bs) (x ∷ xs) p q (mark ∷ marks) at l m run =
    let one = says p x b run.0 run.1 in
    let first : b ≡ mark = one.0 ∙ ap (λ ms. get_or ms 0 false) at in
    let rest : bs ≡ marks = kept_marks R left says bs xs run.0 q marks (one.1 ∙ ap (drop 1) at) (omega arith) (omega arith) run.2 in
    cc

pub All-items_where_true : {X : Type 0} (P : X → Type 0) (bs : List Bool) (xs : List X) → All P xs → All P (items_where_true bs xs)
All-items_where_true P [] xs all = All-nil P
All-items_where_true P (b ∷ bs) [] all = All-nil P
All-items_where_true P (true ∷ bs) (x ∷ xs) all = All-cons P x (items_where_true bs xs) (All-head P x xs all) (All-items_where_true P bs xs (All-tail P x xs all))
All-items_where_true P (false ∷ bs) (x ∷ xs) all = All-items_where_true P bs xs (All-tail P x xs all)

pub take-inserted : {X : Type 0} (n : ℕ) (rows : List X) (row : X) (b : Bool) (news : List X) → news ≡ (if b then rows else rows ++ row ∷ []) → n ≤ length rows → take n news ≡ take n rows
take-inserted n rows row true news e h = ap (take n) e
take-inserted n rows row false news e h = ap (take n) e ∙ take-append-le n rows (row ∷ []) h

pub length-inserted : {X : Type 0} (rows : List X) (row : X) (b : Bool) (news : List X) → news ≡ (if b then rows else rows ++ row ∷ []) → length rows ≤ length news
length-inserted rows row true news e = omega (arith, ap length e)
length-inserted rows row false news e = omega (arith, ap length e, length_push rows row)

pub All-inserted : {X : Type 0} (P : X → Type 0) (rows : List X) (row : X) (b : Bool) (news : List X) → news ≡ (if b then rows else rows ++ row ∷ []) → All P rows → P row → All P news
All-inserted P rows row true news e all one = rw e all
All-inserted P rows row false news e all one = rw e (All-push P rows row all one)
