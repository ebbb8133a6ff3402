-- What contracts see of a map's entries, place by place and name by name.
use Rattle.std.proofs.Common.{◌≡◌, ◌+◌, ℕ, Bool, true, false, cond, not, ◌||◌, List, [], ◌∷◌, ◌++◌, map, slice_get, Some, refl, sym, ap, subst, ◌∙◌, All, arith}
use Rattle.std.specs.List.{position, position_or_len}
use Rattle.std.specs.Str.{bytes_eq}
use Rattle.std.specs.String.{string_bytes, string_eq}
use Rattle.std.specs.declared.alloc.Global.{Global}
use Rattle.std.specs.declared.string.String.{String}
use Rattle.std.proofs.lemmas.Grind.{common_steps}
use Rattle.std.proofs.lemmas.Option.{slice_get_within, get_or_from_slice_get}
use Rattle.std.proofs.lemmas.List.Elements.{All-get_or}
use Rattle.std.specs.Prelude.{if◌then◌else◌}
use Rattle.std.proofs.lemmas.Bool.{false≢true}
use Rattle.std.proofs.lemmas.List.{map-append}
use Rattle.indexmap.specs.IndexMap.{insert_entry}
use Rattle.su_schema.specs.Known.{is_known}
use Rattle.su_schema.specs.SchemaValue.{ObjectEntry}
use Rattle.su_schema.specs.Entries.{place_of}

-- what stands for an object where there is none
abbrev pub blank_object : ObjectEntry
blank_object = record { name = []; relation = 0; links = [] }

-- the place of the first that passes, before and after the items are mapped
pub position_or_len-map : {X Y : Type 0} (f : X → Y) (p : Y → Bool) (xs : List X) → position_or_len p (map f xs) ≡ position_or_len (λ x. p (f x)) xs
position_or_len-map f p [] = refl
position_or_len-map f p (x ∷ xs) = ap (λ n. cond (not (p (f x))) (1 + n) 0) (position_or_len-map f p xs)

pub position-map : {X Y : Type 0} (f : X → Y) (p : Y → Bool) (xs : List X) → position p (map f xs) ≡ position (λ x. p (f x)) xs
position-map f p xs = grind (arith, common_steps, position_or_len-map f p xs)

module _ {V X : Type 0} (show : String Global × V → X) (name : X → List ℕ) (named : (e : String Global × V) → name (show e) ≡ string_bytes e.0) where
  -- the names of a map's entries are its keys
  pub names-shown : (es : List (String Global × V)) → map name (map show es) ≡ map string_bytes (map (λ e. e.0) es)
  names-shown [] = refl
  names-shown (e ∷ es) = let head : name (show e) ≡ string_bytes e.0 = named e in let tail : map name (map show es) ≡ map string_bytes (map (λ e. e.0) es) = names-shown es in cc

  -- and are found as these are
  pub place_of-shown : (text : List ℕ) (es : List (String Global × V)) → place_of (map name (map show es)) text ≡ position (λ k. bytes_eq text (string_bytes k)) (map (λ e. e.0) es)
  place_of-shown text es = ap (λ names. place_of names text) (names-shown es) ∙ position-map string_bytes (λ n. bytes_eq text n) (map (λ e. e.0) es)

-- what holds of all items holds of the one at a place
pub All-at : {X : Type 0} (P : X → Type 0) (xs : List X) (i : ℕ) (x : X) → All P xs → slice_get xs i ≡ Some x → P x
All-at P xs i x all at = subst P (get_or_from_slice_get xs i x x at) (All-get_or P xs i x (slice_get_within xs i x at) all)

-- a new name goes last
insert-new : {V : Type 0} (es : List (String Global × V)) (key : String Global) (v : V) → is_known (map string_bytes (map (λ e. e.0) es)) (string_bytes key) ≡ false → insert_entry string_eq es key v ≡ es ++ (key, v) ∷ []
insert-new [] key v new = refl
insert-new (e ∷ es) key v new =
    elim (bytes_eq (string_bytes key) (string_bytes e.0))
    as (λ b. (b || is_known (map string_bytes (map (λ e. e.0) es)) (string_bytes key)) ≡ false → (if b then (e.0, v) ∷ es else e ∷ insert_entry string_eq es key v) ≡ e ∷ (es ++ (key, v) ∷ [])) [
      | true ↦ λ old. absurd (false≢true (sym old))
      | false ↦ λ rest. ap (λ later. e ∷ later) (insert-new es key v rest)
    ] new

module _ {V X : Type 0} (show : String Global × V → X) (name : X → List ℕ) (named : (e : String Global × V) → name (show e) ≡ string_bytes e.0)
    (es news : List (String Global × V)) (key : String Global) (v : V) (text : List ℕ) (k : string_bytes key ≡ text) (new : is_known (map name (map show es)) text ≡ false) (put : news ≡ insert_entry string_eq es key v) where
  pub added_last : news ≡ es ++ (key, v) ∷ []
  added_last =
      let fresh : is_known (map string_bytes (map (λ e. e.0) es)) (string_bytes key) ≡ false = rw (k, ← names-shown show name named es) new in
      put ∙ insert-new es key v fresh

  pub added : map show news ≡ map show es ++ show (key, v) ∷ []
  added = rw added_last (map-append show es ((key, v) ∷ []))
