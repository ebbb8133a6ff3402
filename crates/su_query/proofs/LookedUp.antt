-- Names that are looked up, one ref after the other.
use Rattle.std.proofs.Common.{◌≡◌, ◌<◌, ◌+◌, ℕ, Some, cond, List, [], ◌∷◌, ◌++◌, map, length, get_or, take, drop, Bor, sym, ap, ◌∙◌}
use Rattle.std.specs.Prelude.{is_none}
use Rattle.std.proofs.lemmas.List.{map_push, take_more}
use Rattle.su_schema.specs.SchemaValue.{SchemaValue}
use Rattle.su_schema.specs.Entries.{place_of}
use Rattle.su_query.specs.declared.refs.Ref.{Ref}
use Rattle.su_query.specs.declared.scopes.Scope.{Scope}
use Rattle.su_query.specs.Scopes.{names_in, first_unknown}
use Rattle.su_query.proofs.Found.{lent-drop}

abbrev lent : List (Bor Ref) → List Ref
lent = map (λ (r : Bor Ref). r.now)

module _ (refs : List (Bor Ref)) (i : ℕ) (r : Bor Ref) (h : i < length refs) (e : r ≡ get_or refs i r) where
  -- a number more, of this ref
  pub number_more : (f : Ref → ℕ) → map f (lent (take (i + 1) refs)) ≡ map f (lent (take i refs)) ++ f r.now ∷ []
  number_more f =
      ap (λ x. map f (lent x)) (take_more refs i r h ∙ ap (λ x. take i refs ++ x ∷ []) (sym e)) ∙ ap (map f) (map_push (λ (x : Bor Ref). x.now) (take i refs) r) ∙ map_push f (lent (take i refs)) r.now

  module _ (schema : SchemaValue) (scope : Scope) where
    pub known_here : (n : ℕ) → place_of (names_in schema scope) r.now.attribute ≡ Some n → first_unknown (names_in schema scope) (lent (drop i refs)) ≡ first_unknown (names_in schema scope) (lent (drop (i + 1) refs))
    known_here n is =
        ap (first_unknown (names_in schema scope)) (lent-drop refs i r h e)
        ∙ ap (λ o. cond (is_none o) (Some r.now.attribute) (first_unknown (names_in schema scope) (lent (drop (i + 1) refs)))) is
