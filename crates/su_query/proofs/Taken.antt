-- Numbers of refs, taken from the front of a list.
use Rattle.std.proofs.Common.{◌≡◌, ℕ, List, [], ◌∷◌, ◌++◌, map, refl, sym, ap, subst, ◌∙◌}
use Rattle.std.specs.List.{flat_map}
use Rattle.std.proofs.lemmas.List.Concat.{flat_map-append}
use Rattle.su_where.specs.declared.conditions.Condition.TheVariants.{All, Any}
use Rattle.su_where.specs.Truth.{comparisons_of}
use Rattle.su_where.proofs.Layers.{comparisons_of-All, comparisons_of-Any}
use Rattle.su_query.specs.declared.refs.Ref.{Ref as ARef}
use Rattle.su_query.specs.Refs.{NamedCond, refs_beside, refs_of}
use Rattle.su_query.specs.inside.RefNumbers.{HasNumbers, Takes}

-- ---- the refs of a condition, by its form

flat : (cs : List NamedCond) → flat_map refs_beside (flat_map comparisons_of cs) ≡ flat_map refs_of cs
flat [] = refl
flat (c ∷ cs) = flat_map-append refs_beside (comparisons_of c) (flat_map comparisons_of cs) ∙ ap (λ x. refs_of c ++ x) (flat cs)

pub refs_of-All : (cs : List NamedCond) → refs_of (All cs) ≡ flat_map refs_of cs
refs_of-All cs = ap (flat_map refs_beside) (comparisons_of-All cs) ∙ flat cs

pub refs_of-Any : (cs : List NamedCond) → refs_of (Any cs) ≡ flat_map refs_of cs
refs_of-Any cs = ap (flat_map refs_beside) (comparisons_of-Any cs) ∙ flat cs

-- ---- numbers of refs

-- the same refs, and more made of the same
pub made_of : {A B : Type 0} (refs same : List ARef) (old new : List ℕ) (of : (ARef → ℕ) → A) (a : A) (of' : (ARef → ℕ) → B) (g : A → B) → same ≡ refs → ((f : ARef → ℕ) → g (of f) ≡ of' f) → Takes refs old new of a → Takes same old new of' (g a)
made_of refs same old new of a of' g p q h f rest e = let t = h f rest (e ∙ ap (λ r. map f r ++ rest) p) in (ap g t.0 ∙ q f, t.1)

-- numbers for a condition are numbers for its parts
pub numbers_of_all : (c : NamedCond) (cs parts : List NamedCond) (numbers : List ℕ) → c ≡ All cs → parts ≡ cs → HasNumbers (refs_of c) numbers → HasNumbers (flat_map refs_of parts) numbers
numbers_of_all c cs parts numbers is same h = subst (λ (rs : List ARef). HasNumbers rs numbers) (ap refs_of is ∙ refs_of-All cs ∙ ap (flat_map refs_of) (sym same)) h

pub numbers_of_any : (c : NamedCond) (cs parts : List NamedCond) (numbers : List ℕ) → c ≡ Any cs → parts ≡ cs → HasNumbers (refs_of c) numbers → HasNumbers (flat_map refs_of parts) numbers
numbers_of_any c cs parts numbers is same h = subst (λ (rs : List ARef). HasNumbers rs numbers) (ap refs_of is ∙ refs_of-Any cs ∙ ap (flat_map refs_of) (sym same)) h
