-- The comparisons of a condition over numbers are those of the condition over names.
use Rattle.std.proofs.Common.{◌≡◌, ◌≤◌, ◌<◌, ℕ, Bool, true, false, not, cond, Option, Some, None, List, [], ◌∷◌, ◌++◌, map, length, refl, sym, ap, subst, ◌∙◌, All as Each, arith}
use Rattle.std.specs.Prelude.{slice_index_or, find, option_map}
use Rattle.std.specs.List.{flat_map}
use Rattle.std.proofs.lemmas.Bool.{not-false}
use Rattle.std.proofs.lemmas.List.{map-append, length-map}
use Rattle.std.proofs.lemmas.List.Elements.{All-nil, All-cons, All-head, All-tail, All-map}
use Rattle.su_base.specs.declared.values.Kind.{Kind}
use Rattle.su_base.specs.declared.values.Kind.TheVariants.{Int as IntKind}
use Rattle.su_where.specs.declared.literals.Literal.{Literal}
use Rattle.su_where.specs.Places.{IsBelow, HasPlacesBelow, Fits}
use Rattle.su_where.proofs.Layers.{comparisons_of-Compare, comparisons_of-Not, comparisons_of-All, comparisons_of-Any, parts_of, by_layers}
use Rattle.su_schema.specs.SchemaValue.{SchemaValue}
use Rattle.su_schema.proofs.Validity.{same_kinds}
use Rattle.su_base.specs.Value.{same_kind}
use Rattle.su_query.specs.declared.refs.Ref.{Ref as ARef}
use Rattle.su_query.specs.declared.refs.NamedOperand.{NamedOperand}
use Rattle.su_query.specs.declared.refs.NamedOperand.TheVariants.{Ref, Const}
use Rattle.su_where.specs.declared.conditions.Condition.TheVariants.{Compare, Not, All, Any}
use Rattle.su_query.specs.declared.scopes.Scope.{Scope}
use Rattle.su_query.specs.declared.conditions.Comparison.{Comparison}
use Rattle.su_where.specs.Truth.{Cond, comparisons_of}
use Rattle.su_query.specs.Refs.{NamedCond, refs_in, refs_beside, refs_of}
use Rattle.su_query.specs.Scopes.{kind_in}
use Rattle.su_query.specs.KindDifferences.{differs, differing_kinds}
use Rattle.su_query.specs.NumberedConditions.{literal_of, numbered, numbered_operand}
use Rattle.su_query.specs.Ranges.{operand_kind, IsOfOneKind, IsTypedCondition}
use Rattle.su_query.specs.inside.TwoKinds.{is_of_two, two_kinds}
use Rattle.su_query.proofs.Found.{numbered-Compare, numbered-Not, numbered-All, numbered-Any}
use Rattle.su_base.proofs.Items.{All-append_left, All-append_right}
use Rattle.su_query.proofs.Hits.{none_found}

abbrev IsSame : (ARef → ℕ) → NamedCond → Type 0
IsSame f c = comparisons_of (numbered f c) ≡ map (literal_of f) (comparisons_of c)

flat : (f : ARef → ℕ) (es : List ((c : NamedCond) × IsSame f c)) → flat_map comparisons_of (map (numbered f) (parts_of es)) ≡ map (literal_of f) (flat_map comparisons_of (parts_of es))
flat f [] = refl
flat f (e ∷ es) =
    ap (λ x. x ++ flat_map comparisons_of (map (numbered f) (parts_of es))) e.1 ∙ ap (λ x. map (literal_of f) (comparisons_of e.0) ++ x) (flat f es)
    ∙ sym (map-append (literal_of f) (comparisons_of e.0) (flat_map comparisons_of (parts_of es)))

same_compare : (f : ARef → ℕ) (k : Comparison) → IsSame f (Compare k)
same_compare f k = ap comparisons_of (numbered-Compare f k) ∙ comparisons_of-Compare (literal_of f k) ∙ sym (ap (map (literal_of f)) (comparisons_of-Compare k))

same_not : (f : ARef → ℕ) (c : NamedCond) → IsSame f c → IsSame f (Not c)
same_not f c h = ap comparisons_of (numbered-Not f c) ∙ comparisons_of-Not (numbered f c) ∙ h ∙ sym (ap (map (literal_of f)) (comparisons_of-Not c))

same_all : (f : ARef → ℕ) (es : List ((c : NamedCond) × IsSame f c)) → IsSame f (All (parts_of es))
same_all f es =
    ap comparisons_of (numbered-All f (parts_of es)) ∙ comparisons_of-All (map (numbered f) (parts_of es)) ∙ flat f es
    ∙ sym (ap (map (literal_of f)) (comparisons_of-All (parts_of es)))

same_any : (f : ARef → ℕ) (es : List ((c : NamedCond) × IsSame f c)) → IsSame f (Any (parts_of es))
same_any f es =
    ap comparisons_of (numbered-Any f (parts_of es)) ∙ comparisons_of-Any (map (numbered f) (parts_of es)) ∙ flat f es
    ∙ sym (ap (map (literal_of f)) (comparisons_of-Any (parts_of es)))

pub comparisons_of-numbered : (f : ARef → ℕ) (c : NamedCond) → comparisons_of (numbered f c) ≡ map (literal_of f) (comparisons_of c)
comparisons_of-numbered f = by_layers (IsSame f) (same_compare f) (same_not f) (same_all f) (same_any f)

same_first : {A B C : Type 0} (g : A → C) (g' : B → C) (x : A) (y : B) (m : Option A) (n : Option B) (b b' : Bool) → b ≡ b' → g x ≡ g' y → option_map g m ≡ option_map g' n → option_map g (cond b (Some x) m) ≡ option_map g' (cond b' (Some y) n)
same_first g g' x y m n b b' e p q =
    subst (λ (v : Bool). option_map g (cond b (Some x) m) ≡ option_map g' (cond v (Some y) n)) e (elim b as (λ v. option_map g (cond v (Some x) m) ≡ option_map g' (cond v (Some y) n)) [ true ↦ ap Some p | false ↦ q ])

-- a ref's number is in range and of the kind of its name
pub record IsNumbered (schema : SchemaValue) (scope : Scope) (kinds : List Kind) (f : ARef → ℕ) (r : ARef) : Type 0 where
  pub below : f r < length kinds
  pub kind : slice_index_or kinds (f r) IntKind ≡ kind_in schema scope (Ref r)

module _ (schema : SchemaValue) (scope : Scope) (kinds : List Kind) (f : ARef → ℕ) where
  operand_below : (a : NamedOperand) → Each (IsNumbered schema scope kinds f) (refs_in a) → IsBelow (length kinds) (numbered_operand f a)
  operand_below (Ref r) h = (All-head (IsNumbered schema scope kinds f) r [] h).below
  operand_below (Const v) h = tt

  operand_typed : (a : NamedOperand) → Each (IsNumbered schema scope kinds f) (refs_in a) → operand_kind kinds (numbered_operand f a) ≡ kind_in schema scope a
  operand_typed (Ref r) h = (All-head (IsNumbered schema scope kinds f) r [] h).kind
  operand_typed (Const v) h = refl

  all_below : (ks : List Comparison) → Each (IsNumbered schema scope kinds f) (flat_map refs_beside ks) → Each (λ k. HasPlacesBelow (length kinds) (literal_of f k)) ks
  all_below [] h = All-nil (λ k. HasPlacesBelow (length kinds) (literal_of f k))
  all_below (k ∷ ks) h =
      let here = All-append_left (IsNumbered schema scope kinds f) (refs_beside k) (flat_map refs_beside ks) h in
      let left = All-append_left (IsNumbered schema scope kinds f) (refs_in k.left) (refs_in k.right) here in
      let right = All-append_right (IsNumbered schema scope kinds f) (refs_in k.left) (refs_in k.right) here in
      All-cons (λ k. HasPlacesBelow (length kinds) (literal_of f k)) k ks (operand_below k.left left, operand_below k.right right)
      (all_below ks (All-append_right (IsNumbered schema scope kinds f) (refs_beside k) (flat_map refs_beside ks) h))

  all_typed : (ks : List Comparison) → Each (IsNumbered schema scope kinds f) (flat_map refs_beside ks) → Each (λ k. differs schema scope k ≡ false) ks → Each (λ k. IsOfOneKind kinds (literal_of f k)) ks
  all_typed [] h e = All-nil (λ k. IsOfOneKind kinds (literal_of f k))
  all_typed (k ∷ ks) h e =
      let here = All-append_left (IsNumbered schema scope kinds f) (refs_beside k) (flat_map refs_beside ks) h in
      let left = All-append_left (IsNumbered schema scope kinds f) (refs_in k.left) (refs_in k.right) here in
      let right = All-append_right (IsNumbered schema scope kinds f) (refs_in k.left) (refs_in k.right) here in
      let same = same_kinds (kind_in schema scope k.left) (kind_in schema scope k.right)
      (not-false (same_kind (kind_in schema scope k.left) (kind_in schema scope k.right)) (All-head (λ k. differs schema scope k ≡ false) k ks e)) in
      All-cons (λ k. IsOfOneKind kinds (literal_of f k)) k ks (operand_typed k.left left ∙ same ∙ sym (operand_typed k.right right))
      (all_typed ks (All-append_right (IsNumbered schema scope kinds f) (refs_beside k) (flat_map refs_beside ks) h) (All-tail (λ k. differs schema scope k ≡ false) k ks e))

  -- the first comparison of two kinds is the same over names and over numbers
  kinds_alike : (ks : List Comparison) → Each (IsNumbered schema scope kinds f) (flat_map refs_beside ks) → two_kinds kinds (map (literal_of f) ks) ≡ differing_kinds schema scope ks
  kinds_alike [] h = refl
  kinds_alike (k ∷ ks) h =
      let here = All-append_left (IsNumbered schema scope kinds f) (refs_beside k) (flat_map refs_beside ks) h in
      let left = operand_typed k.left (All-append_left (IsNumbered schema scope kinds f) (refs_in k.left) (refs_in k.right) here) in
      let right = operand_typed k.right (All-append_right (IsNumbered schema scope kinds f) (refs_in k.left) (refs_in k.right) here) in
      same_first (λ l. (operand_kind kinds l.left, operand_kind kinds l.right)) (λ c. (kind_in schema scope c.left, kind_in schema scope c.right)) (literal_of f k) k (find (is_of_two kinds) (map (literal_of f) ks)) (find (differs schema scope) ks)
      (is_of_two kinds (literal_of f k)) (differs schema scope k) (λ i. not (same_kind (left i) (right i))) (λ i. (left i, right i))
      (kinds_alike ks (All-append_right (IsNumbered schema scope kinds f) (refs_beside k) (flat_map refs_beside ks) h))

  -- a condition whose refs are so numbered
  module _ (c : NamedCond) (h : Each (IsNumbered schema scope kinds f) (refs_of c)) where
    pub fits : Fits (length kinds) (numbered f c)
    fits = subst (Each (HasPlacesBelow (length kinds))) (sym (comparisons_of-numbered f c)) (All-map (HasPlacesBelow (length kinds)) (literal_of f) (comparisons_of c) (all_below (comparisons_of c) h))

    pub same_differences : two_kinds kinds (comparisons_of (numbered f c)) ≡ differing_kinds schema scope (comparisons_of c)
    same_differences = ap (two_kinds kinds) (comparisons_of-numbered f c) ∙ kinds_alike (comparisons_of c) h

    -- the same, where the kinds and the condition are these
    module _ (listed : List Kind) (same : listed ≡ kinds) (made : Cond) (is : made ≡ numbered f c) where
      pub fits_here : Fits (length listed) made
      fits_here = subst (λ (ks : List Kind). Fits (length ks) made) (sym same) (subst (Fits (length kinds)) (sym is) fits)

      pub kinds_here : two_kinds listed (comparisons_of made) ≡ differing_kinds schema scope (comparisons_of c)
      kinds_here = ap (λ ks. two_kinds ks (comparisons_of made)) same ∙ ap (λ x. two_kinds kinds (comparisons_of x)) is ∙ same_differences

  -- a condition whose refs are so numbered, without a comparison of two kinds
  pub typed : (c : NamedCond) → length (comparisons_of c) ≤ 256 → Each (IsNumbered schema scope kinds f) (refs_of c) → differing_kinds schema scope (comparisons_of c) ≡ None → IsTypedCondition kinds (numbered f c)
  typed c few h e =
      let ks = comparisons_of c in
      let same = sym (comparisons_of-numbered f c) in
      record {
        fits = fits c h;
        few = subst (λ (x : List Literal). length x ≤ 256) same (omega (arith, length-map ks (literal_of f), few));
        typed = subst (Each (IsOfOneKind kinds)) same (All-map (IsOfOneKind kinds) (literal_of f) ks (all_typed ks h (none_found (λ k. (kind_in schema scope k.left, kind_in schema scope k.right)) (differs schema scope) ks e)));
      }
