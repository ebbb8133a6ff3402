-- The steps of the reader.
use Rattle.std.proofs.Common.{◌≡◌, ◌<◌, List, [], ◌∷◌, ◌++◌, length, refl, ap, sym, ◌∙◌, arith, subst, codes, append-nil}
use Rattle.su_lex.specs.declared.signs.Sign.TheVariants as sign
use Rattle.su_lex.specs.declared.meaning.Symbol.{Symbol}
use Rattle.su_lex.specs.declared.meaning.Symbol.TheVariants.{Word, Sign}
use Rattle.su_query.specs.Refs.{NamedCond}
use Rattle.su_query.specs.inside.ReadConditions as g
use Rattle.su_query.specs.Grammar.{any_of, all_of}
use Rattle.su_query.specs.inside.ReadConditions.{ReadsCond, ReadsOrs, ReadsConj, ReadsAnds, ReadsFactor, ReadsPrimary, ReadsComparison}
use Rattle.su_lex.specs.Names.{Begins}
use Rattle.su_query.proofs.Items.{comparison_open}
use Rattle.su_query.proofs.Unique.{same_cond, same_conj, same_factor, primary_not}

-- ---- conj { "or" conj }

abbrev pub ReadsConjs : List NamedCond → List Symbol → List Symbol → Type 0
ReadsConjs cs s r = (d : NamedCond) × (ds : List NamedCond) × (t : List Symbol) × (cs ≡ d ∷ ds) × ReadsConj d s t × ReadsOrs ds t r

pub or_first : (parts : List NamedCond) (d : NamedCond) (s t : List Symbol) → parts ≡ d ∷ [] → ReadsConj d s t → (more : List NamedCond) (r : List Symbol) → ReadsOrs more t r → ReadsConjs (parts ++ more) s r
or_first parts d s t e h more r hs = rw e (d, more, t, refl, h, hs)

pub or_first_only : (parts : List NamedCond) (d : NamedCond) (s t : List Symbol) → parts ≡ d ∷ [] → ReadsConj d s t → (all : List NamedCond) (r : List Symbol) → ReadsConjs all s r
    → (more : List NamedCond) × (all ≡ parts ++ more) × ReadsOrs more t r
or_first_only parts d s t e h all r hs =
    let p = same_conj hs.0 s hs.2 hs.4 d t h in
    rw e (hs.1, hs.3 ∙ ap (λ x. x ∷ hs.1) p.cond, subst (λ (x : List Symbol). ReadsOrs hs.1 x r) p.rest hs.5)

pub or_next : (d : NamedCond) (s t u : List Symbol) → s ≡ Word (codes "or") ∷ t → ReadsConj d t u → (more : List NamedCond) (r : List Symbol) → ReadsOrs more u r → ReadsOrs (d ∷ more) s r
or_next d s t u w h more r hs = g.one_or (d ∷ more) d more s t u r refl w h hs

pub or_next_only : (d : NamedCond) (s t u : List Symbol) → s ≡ Word (codes "or") ∷ t → ReadsConj d t u → (all : List NamedCond) (r : List Symbol) → ReadsOrs all s r
    → (more : List NamedCond) × (all ≡ d ∷ more) × ReadsOrs more u r
or_next_only d s t u w h all r (g.no_or _ _ _ e same none) = absurd (none (t, w))
or_next_only d s t u w h all r (g.one_or _ d' ds _ t' u' _ e w' h' hs) =
    let at : t' ≡ t = cc in
    let p = same_conj d' t u' (subst (λ (x : List Symbol). ReadsConj d' x u') at h') d u h in
    (ds, e ∙ ap (λ x. x ∷ ds) p.cond, subst (λ (x : List Symbol). ReadsOrs ds x r) p.rest hs)

pub or_next_none : (s t : List Symbol) → s ≡ Word (codes "or") ∷ t → ((c : NamedCond) (r : List Symbol) → ReadsConj c t r → ⊥) → (all : List NamedCond) (r : List Symbol) → ReadsOrs all s r → ⊥
or_next_none s t w bad all r (g.no_or _ _ _ e same none) = none (t, w)
or_next_none s t w bad all r (g.one_or _ d' ds _ t' u' _ e w' h' hs) =
    let at : t' ≡ t = cc in
    bad d' u' (subst (λ (x : List Symbol). ReadsConj d' x u') at h')

pub or_last : (s : List Symbol) → ¬ (Begins (Word (codes "or")) s) → ReadsOrs [] s s
or_last s none = g.no_or [] s s refl refl none

pub or_all : (c : NamedCond) (parts : List NamedCond) (s r : List Symbol) → c ≡ any_of parts → ReadsConjs (parts ++ []) s r → ReadsCond c s r
or_all c parts s r e h =
    let same : parts ≡ h.0 ∷ h.1 = sym (append-nil parts) ∙ h.3 in
    g.cond c h.0 h.1 s h.2 r (e ∙ ap any_of same) h.4 h.5

pub or_parts : (c : NamedCond) (s r : List Symbol) → ReadsCond c s r → (all : List NamedCond) × ReadsConjs all s r
or_parts c s r (g.cond _ d ds _ t _ e h hs) = (d ∷ ds, (d, ds, t, refl, h, hs))

pub or_none : (s : List Symbol) → ((c : NamedCond) (r : List Symbol) → ReadsConj c s r → ⊥) → (c : NamedCond) (r : List Symbol) → ReadsCond c s r → ⊥
or_none s bad c r (g.cond _ d ds _ t _ e h hs) = bad d t h

-- ---- factor { "and" factor }

abbrev pub ReadsFactors : List NamedCond → List Symbol → List Symbol → Type 0
ReadsFactors cs s r = (d : NamedCond) × (ds : List NamedCond) × (t : List Symbol) × (cs ≡ d ∷ ds) × ReadsFactor d s t × ReadsAnds ds t r

pub and_first : (parts : List NamedCond) (d : NamedCond) (s t : List Symbol) → parts ≡ d ∷ [] → ReadsFactor d s t → (more : List NamedCond) (r : List Symbol) → ReadsAnds more t r → ReadsFactors (parts ++ more) s r
and_first parts d s t e h more r hs = rw e (d, more, t, refl, h, hs)

pub and_first_only : (parts : List NamedCond) (d : NamedCond) (s t : List Symbol) → parts ≡ d ∷ [] → ReadsFactor d s t → (all : List NamedCond) (r : List Symbol) → ReadsFactors all s r
    → (more : List NamedCond) × (all ≡ parts ++ more) × ReadsAnds more t r
and_first_only parts d s t e h all r hs =
    let p = same_factor hs.0 s hs.2 hs.4 d t h in
    rw e (hs.1, hs.3 ∙ ap (λ x. x ∷ hs.1) p.cond, subst (λ (x : List Symbol). ReadsAnds hs.1 x r) p.rest hs.5)

pub and_next : (d : NamedCond) (s t u : List Symbol) → s ≡ Word (codes "and") ∷ t → ReadsFactor d t u → (more : List NamedCond) (r : List Symbol) → ReadsAnds more u r → ReadsAnds (d ∷ more) s r
and_next d s t u w h more r hs = g.one_and (d ∷ more) d more s t u r refl w h hs

pub and_next_only : (d : NamedCond) (s t u : List Symbol) → s ≡ Word (codes "and") ∷ t → ReadsFactor d t u → (all : List NamedCond) (r : List Symbol) → ReadsAnds all s r
    → (more : List NamedCond) × (all ≡ d ∷ more) × ReadsAnds more u r
and_next_only d s t u w h all r (g.no_and _ _ _ e same none) = absurd (none (t, w))
and_next_only d s t u w h all r (g.one_and _ d' ds _ t' u' _ e w' h' hs) =
    let at : t' ≡ t = cc in
    let p = same_factor d' t u' (subst (λ (x : List Symbol). ReadsFactor d' x u') at h') d u h in
    (ds, e ∙ ap (λ x. x ∷ ds) p.cond, subst (λ (x : List Symbol). ReadsAnds ds x r) p.rest hs)

pub and_next_none : (s t : List Symbol) → s ≡ Word (codes "and") ∷ t → ((c : NamedCond) (r : List Symbol) → ReadsFactor c t r → ⊥) → (all : List NamedCond) (r : List Symbol) → ReadsAnds all s r → ⊥
and_next_none s t w bad all r (g.no_and _ _ _ e same none) = none (t, w)
and_next_none s t w bad all r (g.one_and _ d' ds _ t' u' _ e w' h' hs) =
    let at : t' ≡ t = cc in
    bad d' u' (subst (λ (x : List Symbol). ReadsFactor d' x u') at h')

pub and_last : (s : List Symbol) → ¬ (Begins (Word (codes "and")) s) → ReadsAnds [] s s
and_last s none = g.no_and [] s s refl refl none

pub and_all : (c : NamedCond) (parts : List NamedCond) (s r : List Symbol) → c ≡ all_of parts → ReadsFactors (parts ++ []) s r → ReadsConj c s r
and_all c parts s r e h =
    let same : parts ≡ h.0 ∷ h.1 = sym (append-nil parts) ∙ h.3 in
    g.conj c h.0 h.1 s h.2 r (e ∙ ap all_of same) h.4 h.5

pub and_parts : (c : NamedCond) (s r : List Symbol) → ReadsConj c s r → (all : List NamedCond) × ReadsFactors all s r
and_parts c s r (g.conj _ d ds _ t _ e h hs) = (d ∷ ds, (d, ds, t, refl, h, hs))

pub and_none : (s : List Symbol) → ((c : NamedCond) (r : List Symbol) → ReadsFactor c s r → ⊥) → (c : NamedCond) (r : List Symbol) → ReadsConj c s r → ⊥
and_none s bad c r (g.conj _ d ds _ t _ e h hs) = bad d t h

-- ---- [ "not" ] primary

pub not_none : (s t : List Symbol) → s ≡ Word (codes "not") ∷ t → ((c : NamedCond) (r : List Symbol) → ReadsPrimary c t r → ⊥) → (c : NamedCond) (r : List Symbol) → ReadsFactor c s r → ⊥
not_none s t w bad c r (g.plain _ _ _ h) = primary_not c s r t h w
not_none s t w bad c r (g.negated _ d _ t' _ e w' h) =
    let at : t' ≡ t = cc in
    bad d r (subst (λ (x : List Symbol). ReadsPrimary d x r) at h)

pub plain_none : (s : List Symbol) → ¬ (Begins (Word (codes "not")) s) → ((c : NamedCond) (r : List Symbol) → ReadsPrimary c s r → ⊥) → (c : NamedCond) (r : List Symbol) → ReadsFactor c s r → ⊥
plain_none s none bad c r (g.plain _ _ _ h) = bad c r h
plain_none s none bad c r (g.negated _ d _ t' _ e w' h) = none (t', w')

-- ---- "(" cond ")"

pub open_none : (s t : List Symbol) → s ≡ Sign sign.Open ∷ t → ((c : NamedCond) (r : List Symbol) → ReadsCond c t r → ⊥) → (c : NamedCond) (r : List Symbol) → ReadsPrimary c s r → ⊥
open_none s t w bad c r (g.nested _ _ t' u _ e h w') =
    let at : t' ≡ t = cc in
    bad c u (subst (λ (x : List Symbol). ReadsCond c x u) at h)
open_none s t w bad c r (g.compare _ _ _ h) = comparison_open c s r t h w

pub close_none : (s t u : List Symbol) (d : NamedCond) → s ≡ Sign sign.Open ∷ t → ReadsCond d t u → ¬ (Begins (Sign sign.Close) u) → (c : NamedCond) (r : List Symbol) → ReadsPrimary c s r → ⊥
close_none s t u d w h none c r (g.nested _ _ t' u' _ e h' w') =
    let at : t' ≡ t = cc in
    let p = same_cond c t u' (subst (λ (x : List Symbol). ReadsCond c x u') at h') d u h in
    none (r, sym p.rest ∙ w')
close_none s t u d w h none c r (g.compare _ _ _ h') = comparison_open c s r t h' w

pub compared_none : (s : List Symbol) → ¬ (Begins (Sign sign.Open) s) → ((c : NamedCond) (r : List Symbol) → ReadsComparison c s r → ⊥) → (c : NamedCond) (r : List Symbol) → ReadsPrimary c s r → ⊥
compared_none s none bad c r (g.nested _ _ t' u' _ e h' w') = none (t', e)
compared_none s none bad c r (g.compare _ _ _ h) = bad c r h

pub shorter_step : (x : Symbol) (s t u e : List Symbol) → s ≡ x ∷ t → length u < length t → length s < length e → length u < length e
shorter_step x s t u e w a b = omega (arith, ap length w)
