-- Lists whose items are tied place by place.
use Rattle.std.proofs.Common.{◌≡◌, ◌<◌, ℕ, zero, suc, List, [], ◌∷◌, length, get_or, arith}
use Rattle.std.specs.List.{AllZip}

-- from each place
pub zip-each : {A : Type 0} (R : A → A → Type 0) (xs ys : List A) → length ys ≡ length xs → ((i : ℕ) (d : A) → i < length xs → R (get_or xs i d) (get_or ys i d)) → AllZip R xs ys
zip-each R [] [] long each = tt
zip-each R [] (b ∷ ys) long each = absurd (omega arith)
zip-each R (a ∷ xs) [] long each = absurd (omega arith)
zip-each R (a ∷ xs) (b ∷ ys) long each = (each zero a (omega arith), zip-each R xs ys (omega arith) (λ i d lt. each (suc i) d (omega arith)))

-- what goes into the places, what each place becomes, and what comes out of it
module _ {A P B : Type 0} (In : A → P → Type 0) (Becomes : P → P → Type 0) (Out : P → B → Type 0) (R : A → B → Type 0) (step : (a : A) (p q : P) (b : B) → In a p → Becomes p q → Out q b → R a b) where
  pub zip-through : (xs : List A) (ps qs : List P) (ys : List B) → AllZip In xs ps → AllZip Becomes ps qs → AllZip Out qs ys → AllZip R xs ys
  zip-through [] [] [] [] into between out = tt
  zip-through [] [] [] (b ∷ ys) into between out = absurd out
  zip-through [] [] (q ∷ qs) ys into between out = absurd between
  zip-through [] (p ∷ ps) qs ys into between out = absurd into
  zip-through (a ∷ xs) [] qs ys into between out = absurd into
  zip-through (a ∷ xs) (p ∷ ps) [] ys into between out = absurd between
  zip-through (a ∷ xs) (p ∷ ps) (q ∷ qs) [] into between out = absurd out
  zip-through (a ∷ xs) (p ∷ ps) (q ∷ qs) (b ∷ ys) into between out = (step a p q b into.0 between.0 out.0, zip-through xs ps qs ys into.1 between.1 out.1)
