-- A map that is copied entry by entry, under names that differ.
use Rattle.std.proofs.Common.{◌≡◌, ◌≢◌, ◌+◌, ◌<◌, ◌||◌, ℕ, true, false, List, [], ◌∷◌, ◌++◌, length, map, take, slice_get, get_or, Some, refl, sym, ap, ◌∙◌, AllPairs, zero, suc, arith}
use Rattle.std.specs.Str.{bytes_eq}
use Rattle.std.specs.String.{string_bytes, string_eq}
use Rattle.std.specs.declared.alloc.Global.{Global}
use Rattle.std.specs.declared.string.String.{String}
use Rattle.indexmap.specs.IndexMap.{insert_entry}
use Rattle.std.proofs.lemmas.List.{take-map, take_more, length-take, get_or-take, get_or_default}
use Rattle.std.proofs.lemmas.Option.{get_or_from_slice_get, slice_get_within, slice_get-map}
use Rattle.std.proofs.lemmas.Slice.Eq.{bytes_eq-Decides}
use Rattle.su_schema.specs.Known.{is_known}
use Rattle.su_schema.proofs.Entries.{added, added_last}

unknown_from : (names : List (List ℕ)) (name : List ℕ) → ((k : ℕ) (d : List ℕ) → k < length names → get_or names k d ≢ name) → is_known names name ≡ false
unknown_from [] name apart = refl
unknown_from (n ∷ names) name apart =
    elim (bytes_eq name n) as (λ b. bytes_eq name n ≡ b → (b || is_known names name) ≡ false) [
      | true ↦ λ same. absurd (apart zero n (omega arith) (sym ((bytes_eq-Decides name n).0 same)))
      | false ↦ λ _. unknown_from names name (λ k d within. apart (suc k) d (omega arith))
    ] refl

-- a name does not stand among those before its place
not_before : (names : List (List ℕ)) (a : ℕ) (n : List ℕ) → AllPairs (λ x y. x ≢ y) names → slice_get names a ≡ Some n → is_known (take a names) n ≡ false
not_before names a n apart at =
    let within : a < length names = slice_get_within names a n at in
    unknown_from (take a names) n (λ k d inside same.
    let below : k < a = omega (arith, length-take {A = List ℕ}) in
    let inner : k < length names = omega arith in
    let one : get_or names k n ≡ n = get_or_default names k n d inner ∙ sym (get_or-take a names k d below) ∙ same in
    let two : get_or names a n ≡ n = get_or_from_slice_get names a n n at in
    apart k a n below within (one ∙ sym two))

module _ {V X : Type 0} (show : String Global × V → X) (name : X → List ℕ) (named : (e : String Global × V) → name (show e) ≡ string_bytes e.0)
    (es news : List (String Global × V)) (key : String Global) (v : V) (xs : List X) (a : ℕ) (x : X) (apart : AllPairs (λ x y. x ≢ y) (map name xs)) (so_far : map show es ≡ take a xs) (at : slice_get xs a ≡ Some x) (same : show (key, v) ≡ x)
    (put : news ≡ insert_entry string_eq es key v) where
  new : is_known (map name (map show es)) (string_bytes key) ≡ false
  new =
      let text : name x ≡ string_bytes key = ap name (sym same) ∙ named (key, v) in
      let at_name : slice_get (map name xs) a ≡ Some (string_bytes key) = slice_get-map name xs a ∙ rw (at, ← text) refl in
      rw (so_far, ← take-map) (not_before (map name xs) a (string_bytes key) apart at_name)

  -- the next entry goes last
  pub copied_last : news ≡ es ++ (key, v) ∷ []
  copied_last = added_last show name named es news key v (string_bytes key) refl new put

  pub copied_more : map show news ≡ take (a + 1) xs
  copied_more =
      let more : take (a + 1) xs ≡ take a xs ++ x ∷ [] = take_more xs a x (slice_get_within xs a x at) ∙ ap (λ y. take a xs ++ y ∷ []) (get_or_from_slice_get xs a x x at) in
      added show name named es news key v (string_bytes key) refl new put ∙ rw (so_far, same, more) refl
