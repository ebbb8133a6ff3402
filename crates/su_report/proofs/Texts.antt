-- Texts that are added one behind another, and lines of numbers that pass a test.
use Rattle.std.proofs.Common.{ℕ, ◌≡◌, ◌+◌, ◌<◌, ◌≤◌, Bool, true, false, not, ◌==◌, cond, List, [], ◌∷◌, ◌++◌, filter, flat_map, take, length, get_or, sym, ap, ◌∙◌, subst, arith, append_assoc, append-nil}
use Rattle.std.specs.Prelude.{nat_lt}
use Rattle.std.specs.List.{range_with_len}
use Rattle.std.proofs.lemmas.Bool.Decides.{nat_tests}
use Rattle.std.proofs.lemmas.Grind.{flat_map-append}
use Rattle.std.proofs.lemmas.List.{length-append, take_more, take_all}
use Rattle.std.proofs.lemmas.List.Elements.{filter-append}
use Rattle.su_base.proofs.Items.{range-push_zero}
use Rattle.su_show.specs.Lines.{AreLines}
use Rattle.su_show.specs.inside.AddedTexts.{Adds}
use Rattle.su_show.proofs.Lines.{adds_one}

-- ---- one behind another

pub two_added : (old a b mid new : List ℕ) → mid ≡ old ++ a → new ≡ mid ++ b → new ≡ old ++ (a ++ b)
two_added old a b mid new e f = f ∙ ap (λ t. t ++ b) e ∙ append_assoc old a b

pub three_added : (old a b c m n new : List ℕ) → m ≡ old ++ a → n ≡ m ++ b → new ≡ n ++ c → new ≡ old ++ (a ++ b ++ c)
three_added old a b c m n new e f g = two_added old (a ++ b) c n new (two_added old a b m n e f) g

pub four_added : (old a b c d l m n new : List ℕ) → l ≡ old ++ a → m ≡ l ++ b → n ≡ m ++ c → new ≡ n ++ d → new ≡ old ++ (a ++ b ++ c ++ d)
four_added old a b c d l m n new e f g h = two_added old (a ++ b ++ c) d n new (three_added old a b c l m n e f g) h

pub six_added : (old a b c d v w i j l m n new : List ℕ) → i ≡ old ++ a → j ≡ i ++ b → l ≡ j ++ c → m ≡ l ++ d → n ≡ m ++ v → new ≡ n ++ w → new ≡ old ++ (a ++ b ++ c ++ d ++ v ++ w)
six_added old a b c d v w i j l m n new p q r s t u = two_added old (a ++ b ++ c ++ d ++ v) w n new (two_added old (a ++ b ++ c ++ d) v m n (four_added old a b c d i j l m p q r s) t) u

-- a text has grown exactly where something was added
pub grown_by : (text : List ℕ) (n : ℕ) → nat_lt n (n + length text) ≡ not (length text == 0)
grown_by [] n = grind (arith, nat_tests)
grown_by (x ∷ xs) n = grind (arith, nat_tests)

pub has_grown : (old text new : List ℕ) → new ≡ old ++ text → nat_lt (length old) (length new) ≡ not (length text == 0)
has_grown old text new e = ap (nat_lt (length old)) (ap length e ∙ length-append old text) ∙ grown_by text (length old)

-- ---- lines of the numbers that pass, one number more

module _ (P : ℕ → List ℕ → Type 0) (p : ℕ → Bool) (n : ℕ) (old mid new : List ℕ) (before : Adds (AreLines P (filter p (range_with_len 0 n))) old mid) where
  abbrev passed : List ℕ
  passed = filter p (range_with_len 0 n)

  one_more : filter p (range_with_len 0 (n + 1)) ≡ passed ++ cond (p n) (n ∷ []) []
  one_more = ap (filter p) (range-push_zero n) ∙ filter-append p (range_with_len 0 n) (n ∷ [])

  pub adds_passed : p n ≡ true → Adds (P n) mid new → Adds (AreLines P (filter p (range_with_len 0 (n + 1)))) old new
  adds_passed has line =
      subst (λ (ns : List ℕ). Adds (AreLines P ns) old new) (sym (one_more ∙ ap (λ b. passed ++ cond b (n ∷ []) []) has)) (adds_one P passed n old mid new before line)

  pub adds_left_out : p n ≡ false → new ≡ mid → Adds (AreLines P (filter p (range_with_len 0 (n + 1)))) old new
  adds_left_out lacks same =
      subst (λ (text : List ℕ). Adds (AreLines P (filter p (range_with_len 0 (n + 1)))) old text) (sym same)
      (subst (λ (ns : List ℕ). Adds (AreLines P ns) old mid) (sym (one_more ∙ ap (λ b. passed ++ cond b (n ∷ []) []) lacks ∙ append-nil passed)) before)

-- ---- lines of the items of a list, one more

pub adds_item : {A : Type 0} (P : A → List ℕ → Type 0) (xs : List A) (i : ℕ) (d : A) (old mid new : List ℕ) → i < length xs → Adds (AreLines P (take i xs)) old mid → Adds (P (get_or xs i d)) mid new → Adds (AreLines P (take (i + 1) xs)) old new
adds_item P xs i d old mid new low before line = subst (λ ys. Adds (AreLines P ys) old new) (sym (take_more xs i d low)) (adds_one P (take i xs) (get_or xs i d) old mid new before line)

pub adds_all : {A : Type 0} (P : A → List ℕ → Type 0) (xs : List A) (i : ℕ) (old new : List ℕ) → length xs ≤ i → Adds (AreLines P (take i xs)) old new → Adds (AreLines P xs) old new
adds_all P xs i old new past lines = subst (λ ys. Adds (AreLines P ys) old new) (take_all i xs past) lines

pub adds_read : {A : Type 0} (P : A → List ℕ → Type 0) (xs : List A) (i : ℕ) (x : A) (old mid new : List ℕ) → i < length xs → x ≡ get_or xs i x → Adds (AreLines P (take i xs)) old mid → Adds (P x) mid new → Adds (AreLines P (take (i + 1) xs)) old new
adds_read P xs i x old mid new low is before line = adds_item P xs i x old mid new low before (subst (λ y. Adds (P y) mid new) is line)

-- ---- texts of the items of a list, one more

pub flat_item : {A : Type 0} (f : A → List ℕ) (xs : List A) (i : ℕ) (d : A) (old mid new : List ℕ) → i < length xs → mid ≡ old ++ flat_map f (take i xs) → new ≡ mid ++ f (get_or xs i d) → new ≡ old ++ flat_map f (take (i + 1) xs)
flat_item f xs i d old mid new low before e =
    let x = get_or xs i d in
    let more : flat_map f (take (i + 1) xs) ≡ flat_map f (take i xs) ++ f x = ap (flat_map f) (take_more xs i d low) ∙ flat_map-append f (take i xs) (x ∷ []) ∙ ap (λ t. flat_map f (take i xs) ++ t) (append-nil (f x)) in
    e ∙ ap (λ t. t ++ f x) before ∙ append_assoc old (flat_map f (take i xs)) (f x) ∙ ap (λ t. old ++ t) (sym more)

pub flat_read : {A : Type 0} (f : A → List ℕ) (xs : List A) (i : ℕ) (x : A) (old mid new : List ℕ) → i < length xs → x ≡ get_or xs i x → mid ≡ old ++ flat_map f (take i xs) → new ≡ mid ++ f x → new ≡ old ++ flat_map f (take (i + 1) xs)
flat_read f xs i x old mid new low is before e = flat_item f xs i x old mid new low before (e ∙ ap (λ y. mid ++ f y) is)
