-- One more item of a list that is gone through.
use Rattle.std.proofs.Common.{◌≡◌, ◌∙◌, ◌+◌, ◌<◌, ℕ, List, [], ◌∷◌, ◌++◌, length, get_or, map, take, All, refl, sym, ap, add-one, append_assoc}
use Rattle.std.proofs.Math.Seq.{take-suc}
use Rattle.std.proofs.lemmas.List.{map-append, append-nil}
use Rattle.std.proofs.lemmas.List.Elements.{All-push}
use Rattle.std.specs.List.{flat_map}
use Rattle.csv.specs.Writing.{default_writer, row_text}
use Rattle.su_base.specs.declared.values.Value.{Value}
use Rattle.su_csv.specs.Written.{field_of, text_of}

module _ {A : Type 0} (xs : List A) (i : ℕ) (x : A) (lt : i < length xs) (is : x ≡ get_or xs i x) where
  take-one : take (i + 1) xs ≡ take i xs ++ x ∷ []
  take-one = ap (λ (n : ℕ). take n xs) (add-one i) ∙ take-suc xs i x lt ∙ ap (λ (y : A). take i xs ++ y ∷ []) (sym is)

  pub map-one : {B : Type 0} (f : A → B) (ys : List B) → ys ≡ map f (take i xs) → ys ++ f x ∷ [] ≡ map f (take (i + 1) xs)
  map-one f ys so = rw (take-one, map-append f (take i xs) (x ∷ []), so) refl

  pub all-one : (P : A → Type 0) → All P (take i xs) → P x → All P (take (i + 1) xs)
  all-one P all one = rw (take-one) (All-push P (take i xs) x all one)

text-push : (rows : List (List Value)) (row : List Value) → flat_map (row_text default_writer) (map (map field_of) (rows ++ row ∷ [])) ≡ flat_map (row_text default_writer) (map (map field_of) rows) ++ row_text default_writer (map field_of row)
text-push [] row = append-nil (row_text default_writer (map field_of row))
text-push (r ∷ rows) row = rw (text-push rows row) (sym (append_assoc (row_text default_writer (map field_of r)) (flat_map (row_text default_writer) (map (map field_of) rows)) (row_text default_writer (map field_of row))))

pub text-one : (start : List ℕ) (header : List (List ℕ)) (rows : List (List Value)) (i : ℕ) (row : List Value) (text : List ℕ) → i < length rows → row ≡ get_or rows i row
    → text ≡ start ++ text_of header (take i rows) → text ++ row_text default_writer (map field_of row) ≡ start ++ text_of header (take (i + 1) rows)
text-one start header rows i row text lt is so =
    let more = row_text default_writer (map field_of row) in
    let before = flat_map (row_text default_writer) (map (map field_of) (take i rows)) in
    rw (take-one rows i row lt is, text-push (take i rows) row, so)
    (append_assoc start (text_of header (take i rows)) more ∙ ap (λ (t : List ℕ). start ++ t) (append_assoc (row_text default_writer header) before more))
