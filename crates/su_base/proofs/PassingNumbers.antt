-- The numbers of a range that pass a test, one number more.
use Rattle.std.proofs.Common.{◌≡◌, ℕ, ◌+◌, Bool, true, false, cond, if◌then◌else◌, List, [], ◌∷◌, ◌++◌, map, length, refl, sym, ap, ◌∙◌, append-nil, append_assoc}
use Rattle.std.specs.List.{filter, range_with_len}
use Rattle.std.proofs.lemmas.List.{map-append, length-append}
use Rattle.std.proofs.lemmas.List.Elements.{filter-append}
use Rattle.su_base.proofs.Items.{range-push_zero}

-- those of the numbers below n
abbrev pub passing : (ℕ → Bool) → ℕ → List ℕ
passing p n = filter p (range_with_len 0 n)

pub passing_more : (p : ℕ → Bool) (n : ℕ) → passing p (n + 1) ≡ passing p n ++ cond (p n) (n ∷ []) []
passing_more p n = ap (filter p) (range-push_zero n) ∙ filter-append p (range_with_len 0 n) (n ∷ [])

pub passing_in : (p : ℕ → Bool) (n : ℕ) → p n ≡ true → passing p (n + 1) ≡ passing p n ++ n ∷ []
passing_in p n e = passing_more p n ∙ ap (λ b. passing p n ++ cond b (n ∷ []) []) e

pub passing_out : (p : ℕ → Bool) (n : ℕ) → p n ≡ false → passing p (n + 1) ≡ passing p n
passing_out p n e = passing_more p n ∙ ap (λ b. passing p n ++ cond b (n ∷ []) []) e ∙ append-nil (passing p n)

pub passing_push : (p : ℕ → Bool) (n : ℕ) (b : Bool) (before next : List ℕ) → before ≡ passing p n → b ≡ p n → next ≡ before ++ (if b then n ∷ [] else []) → next ≡ passing p (n + 1)
passing_push p n b before next so is e = e ∙ ap (λ z. z ++ cond b (n ∷ []) []) so ∙ ap (λ z. passing p n ++ cond z (n ∷ []) []) is ∙ sym (passing_more p n)

-- ---- how many pass

pub count_more : (p : ℕ → Bool) (n count next : ℕ) → count ≡ length (passing p n) → p n ≡ true → next ≡ count + 1 → next ≡ length (passing p (n + 1))
count_more p n count next so in' e = let a = length-append (passing p n) (n ∷ []) in e ∙ ap (λ k. k + 1) so ∙ sym (ap length (passing_in p n in') ∙ a)

pub count_same : (p : ℕ → Bool) (n count next : ℕ) → count ≡ length (passing p n) → p n ≡ false → next ≡ count → next ≡ length (passing p (n + 1))
count_same p n count next so out e = e ∙ so ∙ ap length (sym (passing_out p n out))

-- ---- images of those that pass

image_if : {X : Type 0} (f : ℕ → X) (b : Bool) (n : ℕ) → map f (cond b (n ∷ []) []) ≡ cond b (f n ∷ []) []
image_if f true n = refl
image_if f false n = refl

pub images_push : {X : Type 0} (f : ℕ → X) (p : ℕ → Bool) (n : ℕ) → map f (passing p (n + 1)) ≡ map f (passing p n) ++ cond (p n) (f n ∷ []) []
images_push f p n = ap (map f) (passing_more p n) ∙ map-append f (passing p n) (cond (p n) (n ∷ []) []) ∙ ap (λ zs. map f (passing p n) ++ zs) (image_if f (p n) n)

pub images_more : {X : Type 0} (f : ℕ → X) (p : ℕ → Bool) (n : ℕ) (done before next : List X) → before ≡ done ++ map f (passing p n) → next ≡ before ++ (if p n then f n ∷ [] else []) → next ≡ done ++ map f (passing p (n + 1))
images_more f p n done before next so e =
    e ∙ ap (λ z. z ++ cond (p n) (f n ∷ []) []) so ∙ append_assoc done (map f (passing p n)) (cond (p n) (f n ∷ []) [])
    ∙ ap (λ z. done ++ z) (sym (images_push f p n))

-- the same where the code has the answer of the test
pub images_if : {X : Type 0} (f : ℕ → X) (p : ℕ → Bool) (n : ℕ) (b : Bool) (done before next : List X) → before ≡ done ++ map f (passing p n) → b ≡ p n → next ≡ before ++ (if b then f n ∷ [] else []) → next ≡ done ++ map f (passing p (n + 1))
images_if f p n b done before next so is e = images_more f p n done before next so (e ∙ ap (λ z. before ++ cond z (f n ∷ []) []) is)
