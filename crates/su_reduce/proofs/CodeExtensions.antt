-- Codes stay as more values get codes.
use Rattle.std.proofs.Common.{◌≡◌, ℕ, ◌<◌, ◌≤◌, ◌⊎◌, List, [], ◌∷◌, ◌++◌, Some, length, get_or, slice_get, refl, sym, ap, subst, ◌∙◌, inl, inr, arith}
use Rattle.std.specs.Prelude.{map, pos}
use Rattle.std.proofs.lemmas.List.{length_push, get_or_append_left, map_push}
use Rattle.std.proofs.lemmas.List.Elements.{All-head, All-tail, All-push}
use Rattle.std.proofs.lemmas.Option.{slice_get_within, get_or_from_slice_get}
use Rattle.su_base.specs.declared.values.Value.{Value}
use Rattle.su_base.specs.declared.values.Value.TheVariants.{Int}
use Rattle.su_reduce.specs.Codes.{decode, Extends}
use Rattle.su_reduce.specs.Sheets.{AreBelow}

pub extends_self : (values : List Value) → Extends values values
extends_self values = record { longer = omega arith; same = λ code l. refl }

pub extends_then : (a b c : List Value) → Extends a b → Extends b c → Extends a c
extends_then a b c first second =
    let l = first.longer in
    let m = second.longer in
    record { longer = omega arith; same = λ code h. second.same code (omega arith) ∙ first.same code h }

pub extends_kept : (old new : List Value) (value : Value) → (new ≡ old) ⊎ (new ≡ old ++ value ∷ []) → Extends old new
extends_kept old new value (inl e) = subst (λ (xs : List Value). Extends old xs) (sym e) (extends_self old)
extends_kept old new value (inr e) =
    let n = length_push old value in
    subst (λ (xs : List Value). Extends old xs) (sym e) (record { longer = omega arith; same = λ code h. get_or_append_left old (value ∷ []) (Int (pos 0)) code h })

-- the code of a value
pub code_is : (values : List Value) (code : ℕ) (value : Value) → slice_get values code ≡ Some value → decode values code ≡ value
code_is values code value e = get_or_from_slice_get values code value (Int (pos 0)) e

pub below_up : (r : List ℕ) (m n : ℕ) → m ≤ n → AreBelow r m → AreBelow r n
below_up r m n h all k d l = let x : get_or r k d < m = all k d l in omega arith

module _ (a b : List Value) (more : Extends a b) where
  pub decode_row : (r : List ℕ) → AreBelow r (length a) → map (decode b) r ≡ map (decode a) r
  decode_row [] h = refl
  decode_row (x ∷ r) h =
      let first : decode b x ≡ decode a x = more.same x (All-head (λ c. c < length a) x r h) in
      let rest : map (decode b) r ≡ map (decode a) r = decode_row r (All-tail (λ c. c < length a) x r h) in
      ap (λ y. y ∷ map (decode b) r) first ∙ ap (λ ys. decode a x ∷ ys) rest

-- one more code
pub row_more : (a b : List Value) (cells : List ℕ) (code : ℕ) (value : Value) → Extends a b → AreBelow cells (length a) → slice_get b code ≡ Some value → AreBelow (cells ++ code ∷ []) (length b)
row_more a b cells code value more below is = All-push (λ c. c < length b) cells code (below_up cells (length a) (length b) more.longer below) (slice_get_within b code value is)

pub values_more : (a b : List Value) (cells : List ℕ) (code : ℕ) (value : Value) → Extends a b → AreBelow cells (length a) → slice_get b code ≡ Some value → map (decode b) (cells ++ code ∷ []) ≡ map (decode a) cells ++ value ∷ []
values_more a b cells code value more below is =
    map_push (decode b) cells code ∙ ap (λ ys. ys ++ decode b code ∷ []) (decode_row a b more cells below) ∙ ap (λ y. map (decode a) cells ++ y ∷ []) (code_is b code value is)
