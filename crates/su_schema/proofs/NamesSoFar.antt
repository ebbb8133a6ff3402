-- A list of names that is read name by name: what has been found when i names are read.
use Rattle.std.proofs.Common.{◌≡◌, ◌+◌, ◌<◌, ℕ, true, false, List, [], ◌∷◌, ◌++◌, length, take, drop, get_or, Some, None, refl, sym, ap, ◌∙◌, All, add-one, suc, arith}
use Rattle.std.proofs.Math.Seq.{drop-cons}
use Rattle.std.proofs.lemmas.List.{take_more, map-append}
use Rattle.std.proofs.lemmas.List.Elements.{All-push}
use Rattle.std.specs.Ordering.{nat_cmp}
use Rattle.std.specs.FinSet.{FinSet, empty, contains, insert}
use Rattle.su_schema.specs.declared.faults.SchemaFault.TheVariants.{Twice, Unknown}
use Rattle.su_schema.specs.Entries.{place_of}
use Rattle.su_schema.specs.NameChecks.{first_failing, name_checks, old_name, new_name}
use Rattle.su_schema.specs.Known.{is_known, number_of}
use Rattle.su_schema.specs.Definitions.{numbers_of}
use Rattle.su_schema.proofs.Numbers.{known-Some, known-None, contains-numbers_of, from_list-push}

-- no name that was read is refused, and the set holds their numbers
pub record NamesSoFar (known names : List (List ℕ)) (i : ℕ) (set : FinSet nat_cmp) : Type 0 where
  pub checks : first_failing (name_checks known [] names) ≡ first_failing (name_checks known (take i names) (drop i names))
  pub set_is : set ≡ numbers_of known (take i names)
  pub known_all : All (λ n. is_known known n ≡ true) (take i names)

pub names_start : (known names : List (List ℕ)) → NamesSoFar known names 0 empty
names_start known names = record { checks = refl; set_is = refl; known_all = λ k d h. absurd (omega arith) }

module _ (known names : List (List ℕ)) (i : ℕ) (set : FinSet nat_cmp) (far : NamesSoFar known names i set) (name : List ℕ) (within : i < length names) (at : name ≡ get_or names i name) where
  -- the checks that are left begin with those of this name
  here : first_failing (name_checks known [] names) ≡ first_failing (old_name known name ∷ new_name (take i names) name ∷ name_checks known (take i names ++ name ∷ []) (drop (i + 1) names))
  here =
      let cut : drop i names ≡ name ∷ drop (i + 1) names = rw add-one (drop-cons names i name within ∙ ap (λ n. n ∷ drop (suc i) names) (sym at)) in
      far.checks ∙ ap (λ rest. first_failing (name_checks known (take i names) rest)) cut

  pub names_unknown : place_of known name ≡ None → first_failing (name_checks known [] names) ≡ Some (Unknown name)
  names_unknown none = let out : is_known known name ≡ false = known-None known name none in here ∙ rw out refl

  pub names_twice : (a : ℕ) → place_of known name ≡ Some a → contains set a ≡ true → first_failing (name_checks known [] names) ≡ Some (Twice name)
  names_twice a found there =
      let k : (is_known known name ≡ true) × (number_of known name ≡ a) × (a < length known) = known-Some known name a found in
      let twice : is_known (take i names) name ≡ true = sym (contains-numbers_of known (take i names) name far.known_all k.0) ∙ rw (k.1, ← far.set_is) there in
      here ∙ rw (k.0, twice) refl

  pub names_next : (a : ℕ) → place_of known name ≡ Some a → contains set a ≡ false → NamesSoFar known names (i + 1) (insert set a)
  names_next a found out =
      let k : (is_known known name ≡ true) × (number_of known name ≡ a) × (a < length known) = known-Some known name a found in
      let new : is_known (take i names) name ≡ false = sym (contains-numbers_of known (take i names) name far.known_all k.0) ∙ rw (k.1, ← far.set_is) out in
      let more : take (i + 1) names ≡ take i names ++ name ∷ [] = take_more names i name within ∙ ap (λ n. take i names ++ n ∷ []) (sym at) in
      record {
        checks = here ∙ rw (k.0, new, more) refl;
        set_is = rw (more, map-append, from_list-push, k.1, ← far.set_is) refl;
        known_all = rw more (All-push (λ n. is_known known n ≡ true) (take i names) name far.known_all k.0);
      }
