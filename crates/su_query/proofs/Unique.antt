-- Symbols are read in one way.
use Rattle.std.proofs.Common.{◌≡◌, List, ◌∷◌, ap, sym, ◌∙◌, subst, codes}
use Rattle.su_lex.specs.declared.meaning.Symbol.{Symbol}
use Rattle.su_lex.specs.declared.meaning.Symbol.TheVariants.{Word}
use Rattle.su_query.specs.Refs.{NamedCond}
use Rattle.su_where.specs.declared.conditions.Condition.TheVariants.{Not}
use Rattle.su_query.specs.inside.ReadConditions as g
use Rattle.su_query.specs.Grammar.{any_of, all_of}
use Rattle.su_query.specs.inside.ReadConditions.{ReadsCond, ReadsOrs, ReadsConj, ReadsAnds, ReadsFactor, ReadsPrimary}
use Rattle.su_query.proofs.Items.{comparison_not, comparison_open, comparison_unique}

pub record Same (c c' : NamedCond) (r r' : List Symbol) : Type 0 where
  pub cond : c ≡ c'
  pub rest : r ≡ r'

pub record SameParts (cs cs' : List NamedCond) (r r' : List Symbol) : Type 0 where
  pub parts : cs ≡ cs'
  pub rest : r ≡ r'

heads : {c c' : NamedCond} {cs cs' : List NamedCond} → c ≡ c' → cs ≡ cs' → (c ∷ cs) ≡ (c' ∷ cs')
heads p q = cc

-- no primary begins with `not`
pub primary_not : (c : NamedCond) (s r t : List Symbol) → ReadsPrimary c s r → s ≡ Word (codes "not") ∷ t → ⊥
primary_not c s r t (g.nested _ _ _ _ _ e h e') not_ = cc
primary_not c s r t (g.compare _ _ _ h) not_ = comparison_not c s r t h not_

mutual
  pub same_cond : (c : NamedCond) (s r : List Symbol) → ReadsCond c s r → (c' : NamedCond) (r' : List Symbol) → ReadsCond c' s r' → Same c c' r r'
  same_cond c s r (g.cond _ d ds _ t _ e h hs) c' r' (g.cond _ d' ds' _ t' _ e' h' hs') =
      let p = same_conj d s t h d' t' h' in
      let q = same_ors ds t r hs ds' r' (subst (λ (x : List Symbol). ReadsOrs ds' x r') (sym p.rest) hs') in
      record { cond = e ∙ ap any_of (heads p.cond q.parts) ∙ sym e'; rest = q.rest }

  pub same_ors : (cs : List NamedCond) (s r : List Symbol) → ReadsOrs cs s r → (cs' : List NamedCond) (r' : List Symbol) → ReadsOrs cs' s r' → SameParts cs cs' r r'
  same_ors cs s r (g.no_or _ _ _ e same no') cs' r' (g.no_or _ _ _ e' same' _) = record { parts = e ∙ sym e'; rest = sym same ∙ same' }
  same_ors cs s r (g.no_or _ _ _ e same none) cs' r' (g.one_or _ d ds _ t u _ e' w h hs) = absurd (none (t, w))
  same_ors cs s r (g.one_or _ d ds _ t u _ e w h hs) cs' r' (g.no_or _ _ _ e' same none) = absurd (none (t, w))
  same_ors cs s r (g.one_or _ d ds _ t u _ e w h hs) cs' r' (g.one_or _ d' ds' _ t' u' _ e' w' h' hs') =
      let at : t' ≡ t = cc in
      let p = same_conj d t u h d' u' (subst (λ (x : List Symbol). ReadsConj d' x u') at h') in
      let q = same_ors ds u r hs ds' r' (subst (λ (x : List Symbol). ReadsOrs ds' x r') (sym p.rest) hs') in
      record { parts = e ∙ heads p.cond q.parts ∙ sym e'; rest = q.rest }

  pub same_conj : (c : NamedCond) (s r : List Symbol) → ReadsConj c s r → (c' : NamedCond) (r' : List Symbol) → ReadsConj c' s r' → Same c c' r r'
  same_conj c s r (g.conj _ d ds _ t _ e h hs) c' r' (g.conj _ d' ds' _ t' _ e' h' hs') =
      let p = same_factor d s t h d' t' h' in
      let q = same_ands ds t r hs ds' r' (subst (λ (x : List Symbol). ReadsAnds ds' x r') (sym p.rest) hs') in
      record { cond = e ∙ ap all_of (heads p.cond q.parts) ∙ sym e'; rest = q.rest }

  pub same_ands : (cs : List NamedCond) (s r : List Symbol) → ReadsAnds cs s r → (cs' : List NamedCond) (r' : List Symbol) → ReadsAnds cs' s r' → SameParts cs cs' r r'
  same_ands cs s r (g.no_and _ _ _ e same no') cs' r' (g.no_and _ _ _ e' same' _) = record { parts = e ∙ sym e'; rest = sym same ∙ same' }
  same_ands cs s r (g.no_and _ _ _ e same none) cs' r' (g.one_and _ d ds _ t u _ e' w h hs) = absurd (none (t, w))
  same_ands cs s r (g.one_and _ d ds _ t u _ e w h hs) cs' r' (g.no_and _ _ _ e' same none) = absurd (none (t, w))
  same_ands cs s r (g.one_and _ d ds _ t u _ e w h hs) cs' r' (g.one_and _ d' ds' _ t' u' _ e' w' h' hs') =
      let at : t' ≡ t = cc in
      let p = same_factor d t u h d' u' (subst (λ (x : List Symbol). ReadsFactor d' x u') at h') in
      let q = same_ands ds u r hs ds' r' (subst (λ (x : List Symbol). ReadsAnds ds' x r') (sym p.rest) hs') in
      record { parts = e ∙ heads p.cond q.parts ∙ sym e'; rest = q.rest }

  pub same_factor : (c : NamedCond) (s r : List Symbol) → ReadsFactor c s r → (c' : NamedCond) (r' : List Symbol) → ReadsFactor c' s r' → Same c c' r r'
  same_factor c s r (g.plain _ _ _ h) c' r' (g.plain _ _ _ h') = same_primary c s r h c' r' h'
  same_factor c s r (g.plain _ _ _ h) c' r' (g.negated _ d' _ t' _ e' w' h') = absurd (primary_not c s r t' h w')
  same_factor c s r (g.negated _ d _ t _ e w h) c' r' (g.plain _ _ _ h') = absurd (primary_not c' s r' t h' w)
  same_factor c s r (g.negated _ d _ t _ e w h) c' r' (g.negated _ d' _ t' _ e' w' h') =
      let at : t' ≡ t = cc in
      let p = same_primary d t r h d' r' (subst (λ (x : List Symbol). ReadsPrimary d' x r') at h') in
      record { cond = e ∙ ap Not p.cond ∙ sym e'; rest = p.rest }

  pub same_primary : (c : NamedCond) (s r : List Symbol) → ReadsPrimary c s r → (c' : NamedCond) (r' : List Symbol) → ReadsPrimary c' s r' → Same c c' r r'
  same_primary c s r (g.nested _ _ t u _ e h w) c' r' (g.nested _ _ t' u' _ e' h' w') =
      let at : t' ≡ t = cc in
      let p = same_cond c t u h c' u' (subst (λ (x : List Symbol). ReadsCond c' x u') at h') in
      let same = p.rest in
      record { cond = p.cond; rest = cc }
  same_primary c s r (g.nested _ _ t u _ e h w) c' r' (g.compare _ _ _ h') = absurd (comparison_open c' s r' t h' e)
  same_primary c s r (g.compare _ _ _ h) c' r' (g.nested _ _ t' u' _ e' h' w') = absurd (comparison_open c s r t' h e')
  same_primary c s r (g.compare _ _ _ h) c' r' (g.compare _ _ _ h') = let p = comparison_unique c c' s r r' h h' in record { cond = p.item; rest = p.rest }
