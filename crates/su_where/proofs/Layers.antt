-- What a condition says and which comparisons it has, from its parts.
use Rattle.std.proofs.Common.{◌≡◌, ℕ, Bool, not, ◌&&◌, ◌||◌, List, [], ◌∷◌, ◌++◌, map, refl, sym, ap, subst, ◌∙◌, arith, All as Each}
use Rattle.std.specs.List.{list_all, list_any, flat_map}
use Rattle.std.proofs.lemmas.List.Elements.{All-nil, All-cons}
use Rattle.su_base.specs.declared.values.Value.{Value}
use Rattle.su_base.proofs.Items.{All-append_left, All-append_right}
use Rattle.su_where.specs.declared.literals.Literal.{Literal}
use Rattle.su_where.specs.declared.conditions.Condition.{Condition, roll-Condition}
use Rattle.su_where.specs.declared.conditions.Condition.TheOpen as open'
use Rattle.su_where.specs.declared.conditions.Condition.TheVariants.{Compare, Not, All, Any, rolls-Compare, rolls-Not, rolls-All, rolls-Any}
use Rattle.su_where.specs.declared.conditions.Condition.TheFolds.{map-Condition, ind-Condition, fold-roll-Condition}
use Rattle.su_where.specs.Truth.{Cond, holds, truth_of, truth_step, comparisons_of, comparisons_step}
use Rattle.su_where.specs.Places.{HasPlacesBelow, Fits}

all-map : (vs : List Value) (cs : List Cond) → list_all (λ p. p vs) (map truth_of cs) ≡ list_all (λ c. truth_of c vs) cs
all-map vs [] = refl
all-map vs (c ∷ cs) = ap (λ b. truth_of c vs && b) (all-map vs cs)

any-map : (vs : List Value) (cs : List Cond) → list_any (λ p. p vs) (map truth_of cs) ≡ list_any (λ c. truth_of c vs) cs
any-map vs [] = refl
any-map vs (c ∷ cs) = ap (λ b. truth_of c vs || b) (any-map vs cs)

pub truth_of-Compare : (l : Literal) (vs : List Value) → truth_of (Compare l) vs ≡ holds l vs
truth_of-Compare l vs = ap (λ d. truth_of d vs) (sym (rolls-Compare l)) ∙ ap (λ f. f vs) (fold-roll-Condition Literal (List Value → Bool) truth_step (open'.Compare l))

pub truth_of-Not : (part : Cond) (vs : List Value) → truth_of (Not part) vs ≡ not (truth_of part vs)
truth_of-Not part vs = ap (λ d. truth_of d vs) (sym (rolls-Not part)) ∙ ap (λ f. f vs) (fold-roll-Condition Literal (List Value → Bool) truth_step (open'.Not part))

pub truth_of-All : (parts : List Cond) (vs : List Value) → truth_of (All parts) vs ≡ list_all (λ c. truth_of c vs) parts
truth_of-All parts vs =
    ap (λ d. truth_of d vs) (sym (rolls-All parts)) ∙ ap (λ f. f vs) (fold-roll-Condition Literal (List Value → Bool) truth_step (open'.All parts)) ∙ all-map vs parts

pub truth_of-Any : (parts : List Cond) (vs : List Value) → truth_of (Any parts) vs ≡ list_any (λ c. truth_of c vs) parts
truth_of-Any parts vs =
    ap (λ d. truth_of d vs) (sym (rolls-Any parts)) ∙ ap (λ f. f vs) (fold-roll-Condition Literal (List Value → Bool) truth_step (open'.Any parts)) ∙ any-map vs parts

flat-map : {C : Type 0} (cs : List (Condition C)) → flat_map (λ p. p) (map comparisons_of cs) ≡ flat_map comparisons_of cs
flat-map [] = refl
flat-map (c ∷ cs) = ap (λ ls. comparisons_of c ++ ls) (flat-map cs)

pub comparisons_of-Compare : {C : Type 0} (l : C) → comparisons_of (Compare l) ≡ l ∷ []
comparisons_of-Compare {C} l = ap comparisons_of (sym (rolls-Compare l)) ∙ fold-roll-Condition C (List C) comparisons_step (open'.Compare l)

pub comparisons_of-Not : {C : Type 0} (part : Condition C) → comparisons_of (Not part) ≡ comparisons_of part
comparisons_of-Not {C} part = ap comparisons_of (sym (rolls-Not part)) ∙ fold-roll-Condition C (List C) comparisons_step (open'.Not part)

pub comparisons_of-All : {C : Type 0} (parts : List (Condition C)) → comparisons_of (All parts) ≡ flat_map comparisons_of parts
comparisons_of-All {C} parts = ap comparisons_of (sym (rolls-All parts)) ∙ fold-roll-Condition C (List C) comparisons_step (open'.All parts) ∙ flat-map parts

pub comparisons_of-Any : {C : Type 0} (parts : List (Condition C)) → comparisons_of (Any parts) ≡ flat_map comparisons_of parts
comparisons_of-Any {C} parts = ap comparisons_of (sym (rolls-Any parts)) ∙ fold-roll-Condition C (List C) comparisons_step (open'.Any parts) ∙ flat-map parts

-- for `grind`: the comparisons of a condition from those of its parts
pub ruleset comparisons_layers = (comparisons_of-Compare, comparisons_of-Not, comparisons_of-All, comparisons_of-Any)

-- what fits as a whole fits part by part
each_flat : (P : Literal → Type 0) (cs : List Cond) → Each P (flat_map comparisons_of cs) → Each (λ c. Each P (comparisons_of c)) cs
each_flat P [] all = All-nil (λ c. Each P (comparisons_of c))
each_flat P (c ∷ cs) all =
    All-cons (λ d. Each P (comparisons_of d)) c cs (All-append_left P (comparisons_of c) (flat_map comparisons_of cs) all) (each_flat P cs (All-append_right P (comparisons_of c) (flat_map comparisons_of cs) all))

pub fits_compare : (n : ℕ) (c : Cond) (l : Literal) → c ≡ Compare l → Fits n c → HasPlacesBelow n l
fits_compare n c l e fits = (subst (Each (HasPlacesBelow n)) (ap comparisons_of e ∙ comparisons_of-Compare l) fits) 0 l (omega arith)

pub fits_not : (n : ℕ) (c part : Cond) → c ≡ Not part → Fits n c → Fits n part
fits_not n c part e fits = subst (Each (HasPlacesBelow n)) (ap comparisons_of e ∙ comparisons_of-Not part) fits

pub fits_all : (n : ℕ) (c : Cond) (parts : List Cond) → c ≡ All parts → Fits n c → Each (Fits n) parts
fits_all n c parts e fits = each_flat (HasPlacesBelow n) parts (subst (Each (HasPlacesBelow n)) (ap comparisons_of e ∙ comparisons_of-All parts) fits)

pub fits_any : (n : ℕ) (c : Cond) (parts : List Cond) → c ≡ Any parts → Fits n c → Each (Fits n) parts
fits_any n c parts e fits = each_flat (HasPlacesBelow n) parts (subst (Each (HasPlacesBelow n)) (ap comparisons_of e ∙ comparisons_of-Any parts) fits)

pub compare_fits : (n : ℕ) (l : Literal) → HasPlacesBelow n l → Fits n (Compare l)
compare_fits n l below =
    subst (Each (HasPlacesBelow n)) (sym (comparisons_of-Compare l)) (All-cons (HasPlacesBelow n) l [] below (All-nil (HasPlacesBelow n)))

-- ---- what holds layer by layer

-- conditions without what holds of each
abbrev pub parts_of : {C : Type 0} {P : Condition C → Type 0} → List ((c : Condition C) × P c) → List (Condition C)
parts_of es = map (λ e. e.0) es

module _ {C : Type 0} (P : Condition C → Type 0) (compare : (l : C) → P (Compare l)) (negated : (c : Condition C) → P c → P (Not c)) (all : (es : List ((c : Condition C) × P c)) → P (All (parts_of es))) (any : (es : List ((c : Condition C) × P c)) → P (Any (parts_of es))) where
  layer : (y : open'.Condition-F C ((c : Condition C) × P c)) → P (roll-Condition C (map-Condition C ((c : Condition C) × P c) (Condition C) (λ e. e.0) y))
  layer (open'.Compare l) = subst P (sym (rolls-Compare l)) (compare l)
  layer (open'.Not e) = subst P (sym (rolls-Not e.0)) (negated e.0 e.1)
  layer (open'.All es) = subst P (sym (rolls-All (parts_of es))) (all es)
  layer (open'.Any es) = subst P (sym (rolls-Any (parts_of es))) (any es)

  -- what holds of a condition where it holds of its parts holds of each condition
  pub by_layers : (c : Condition C) → P c
  by_layers = ind-Condition C P (λ x y is. subst (λ z. P (roll-Condition C z)) is (layer y))
