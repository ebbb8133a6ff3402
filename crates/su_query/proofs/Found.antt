-- The first comparison of two kinds, and a condition over numbers from its parts.
use Rattle.std.proofs.Common.{◌≡◌, ℕ, Bool, true, false, cond, Some, None, List, [], ◌∷◌, ◌++◌, ◌+◌, ◌<◌, suc, map, length, get_or, drop, Bor, refl, sym, ap, subst, ◌∙◌, add-one, drop-cons, arith, All as Each}
use Rattle.std.specs.Prelude.{find, option_map}
use Rattle.std.proofs.lemmas.List.{length-map, get_or-map}
use Rattle.su_base.specs.declared.values.Kind.{Kind}
use Rattle.su_query.specs.declared.refs.Ref.{Ref as ARef}
use Rattle.su_where.specs.declared.conditions.Condition.TheOpen as open'
use Rattle.su_where.specs.declared.conditions.Condition.TheVariants.{Compare, Not, All, Any, rolls-Compare, rolls-Not, rolls-All, rolls-Any}
use Rattle.su_where.specs.declared.conditions.Condition.TheFolds.{fold-roll-Condition}
use Rattle.su_query.specs.declared.conditions.Comparison.{Comparison}
use Rattle.su_where.specs.declared.literals.Literal.{Literal}
use Rattle.su_where.specs.Truth.{Cond}
use Rattle.su_query.specs.Refs.{NamedCond}
use Rattle.su_query.specs.Ranges.{operand_kind}
use Rattle.su_query.specs.inside.TwoKinds.{is_of_two, two_kinds}
use Rattle.su_query.specs.NumberedConditions.{literal_of, numbered, numbered_step}

find-none : {A B : Type 0} (f : A → B) (p : A → Bool) (xs ys : List A) → option_map f (find p xs) ≡ None → option_map f (find p (xs ++ ys)) ≡ option_map f (find p ys)
find-none f p [] ys e = refl
find-none f p (x ∷ xs) ys e =
    elim (p x) as (λ b. option_map f (cond b (Some x) (find p xs)) ≡ None → option_map f (cond b (Some x) (find p (xs ++ ys))) ≡ option_map f (find p ys)) [
      | true ↦ λ k. absurd (cc)
      | false ↦ λ k. find-none f p xs ys k
    ] e

find-some : {A B : Type 0} (f : A → B) (p : A → Bool) (xs ys : List A) (b : B) → option_map f (find p xs) ≡ Some b → option_map f (find p (xs ++ ys)) ≡ Some b
find-some f p [] ys b e = absurd (cc)
find-some f p (x ∷ xs) ys b e =
    elim (p x) as (λ v. option_map f (cond v (Some x) (find p xs)) ≡ Some b → option_map f (cond v (Some x) (find p (xs ++ ys))) ≡ Some b) [
      | true ↦ λ k. k
      | false ↦ λ k. find-some f p xs ys b k
    ] e

-- what is lent, from the place i on
pub lent-drop : {A : Type 0} (ks : List (Bor A)) (i : ℕ) (k : Bor A) → i < length ks → k ≡ get_or ks i k → map (λ (b : Bor A). b.now) (drop i ks) ≡ k.now ∷ map (λ (b : Bor A). b.now) (drop (i + 1) ks)
lent-drop {A} ks i k h e = ap (map (λ (b : Bor A). b.now)) (drop-cons ks i k h ∙ ap (λ x. x ∷ drop (suc i) ks) (sym e) ∙ ap (λ n. k ∷ drop n ks) (sym (add-one i)))

-- what holds of all that is lent holds of one
pub of_lent : {A : Type 0} (P : A → Type 0) (xs : List (Bor A)) (i : ℕ) (x : Bor A) → i < length xs → x ≡ get_or xs i x → Each P (map (λ (b : Bor A). b.now) xs) → P x.now
of_lent {A} P xs i x h e all =
    let at : get_or (map (λ (b : Bor A). b.now) xs) i x.now ≡ x.now = get_or-map (λ (b : Bor A). b.now) xs i x x.now h ∙ ap (λ (b : Bor A). b.now) (sym e) in
    subst P at (all i x.now (omega (arith, h, length-map xs (λ (b : Bor A). b.now))))

-- at the comparison number i
module _ (kinds : List Kind) (ls : List (Bor Literal)) (i : ℕ) (l : Bor Literal) (h : i < length ls) (e : l ≡ get_or ls i l) where
  pub kinds_here : (d : Kind × Kind) → two_kinds kinds (l.now ∷ []) ≡ Some d → two_kinds kinds (map (λ (b : Bor Literal). b.now) (drop i ls)) ≡ Some d
  kinds_here d is =
      ap (two_kinds kinds) (lent-drop ls i l h e) ∙ find-some (λ x. (operand_kind kinds x.left, operand_kind kinds x.right)) (is_of_two kinds) (l.now ∷ []) (map (λ (b : Bor Literal). b.now) (drop (i + 1) ls)) d is

  pub kinds_later : two_kinds kinds (l.now ∷ []) ≡ None → two_kinds kinds (map (λ (b : Bor Literal). b.now) (drop i ls)) ≡ two_kinds kinds (map (λ (b : Bor Literal). b.now) (drop (i + 1) ls))
  kinds_later is =
      ap (two_kinds kinds) (lent-drop ls i l h e) ∙ find-none (λ x. (operand_kind kinds x.left, operand_kind kinds x.right)) (is_of_two kinds) (l.now ∷ []) (map (λ (b : Bor Literal). b.now) (drop (i + 1) ls)) is

pub numbered-Compare : (f : ARef → ℕ) (k : Comparison) → numbered f (Compare k) ≡ Compare (literal_of f k)
numbered-Compare f k = ap (numbered f) (sym (rolls-Compare k)) ∙ fold-roll-Condition Comparison Cond (numbered_step f) (open'.Compare k)

pub numbered-Not : (f : ARef → ℕ) (part : NamedCond) → numbered f (Not part) ≡ Not (numbered f part)
numbered-Not f part = ap (numbered f) (sym (rolls-Not part)) ∙ fold-roll-Condition Comparison Cond (numbered_step f) (open'.Not part)

pub numbered-All : (f : ARef → ℕ) (parts : List NamedCond) → numbered f (All parts) ≡ All (map (numbered f) parts)
numbered-All f parts = ap (numbered f) (sym (rolls-All parts)) ∙ fold-roll-Condition Comparison Cond (numbered_step f) (open'.All parts)

pub numbered-Any : (f : ARef → ℕ) (parts : List NamedCond) → numbered f (Any parts) ≡ Any (map (numbered f) parts)
numbered-Any f parts = ap (numbered f) (sym (rolls-Any parts)) ∙ fold-roll-Condition Comparison Cond (numbered_step f) (open'.Any parts)

-- for `grind`
pub ruleset layers = (numbered-Compare, numbered-Not, numbered-All, numbered-Any)
