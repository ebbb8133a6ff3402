-- Lists with commas: one item more, and the ways in which there is none.
use Rattle.std.proofs.Common.{◌≡◌, ℕ, List, [], ◌∷◌, ◌++◌, refl, ap, sym, ◌∙◌, subst, append-nil, arith}
use Rattle.su_lex.specs.declared.signs.Sign.TheVariants as sign
use Rattle.su_lex.specs.declared.meaning.Symbol.{Symbol}
use Rattle.su_lex.specs.declared.meaning.Symbol.TheVariants.{Sign, Word}
use Rattle.su_query.specs.inside.ReadItems as g
use Rattle.std.specs.List.{AllByRecursion}
use Rattle.std.proofs.lemmas.List.Elements.{All-from_recursion, recursion_from_All}
use Rattle.su_base.specs.Name.{IsName, AreNames}
use Rattle.su_lex.specs.Names.{Begins, ListsNoNames, names_symbols}
use Rattle.su_lex.proofs.Listed.{more_names}
use Rattle.su_query.specs.inside.ReadItems.{ReadsName, More, Several}
use Rattle.su_query.proofs.Items.{SameItem}

-- an item is read in one way
abbrev pub IsUnique : {A : Type 0} → (A → List Symbol → List Symbol → Type 0) → Type 0
IsUnique {A} Item = (a b : A) (s r q : List Symbol) → Item a s r → Item b s q → SameItem a b r q

pub first_then : {A : Type 0} (Item : A → List Symbol → List Symbol → Type 0) (items : List A) (b : A) (s t : List Symbol) → items ≡ b ∷ [] → Item b s t → (more : List A) (r : List Symbol) → More Item more t r → Several Item (items ++ more) s r
first_then Item items b s t e h more r hs = (b, more, t, ap (λ x. x ++ more) e, h, hs)

pub first_only : {A : Type 0} (Item : A → List Symbol → List Symbol → Type 0) → IsUnique Item → (items : List A) (b : A) (s t : List Symbol) → items ≡ b ∷ [] → Item b s t → (all : List A) (r : List Symbol) → Several Item all s r
    → (more : List A) × (all ≡ items ++ more) × More Item more t r
first_only Item unique items b s t e h all r hs =
    let p = unique hs.0 b s hs.2 t hs.4 h in
    (hs.1, hs.3 ∙ ap (λ x. x ∷ hs.1) p.item ∙ ap (λ x. x ++ hs.1) (sym e), subst (λ (x : List Symbol). More Item hs.1 x r) p.rest hs.5)

pub next_then : {A : Type 0} (Item : A → List Symbol → List Symbol → Type 0) (b : A) (s t u : List Symbol) → s ≡ Sign sign.Comma ∷ t → Item b t u → (more : List A) (r : List Symbol) → More Item more u r → More Item (b ∷ more) s r
next_then Item b s t u w h more r hs = g.more (b ∷ more) b more s t u r refl w h hs

pub next_only : {A : Type 0} (Item : A → List Symbol → List Symbol → Type 0) → IsUnique Item → (b : A) (s t u : List Symbol) → s ≡ Sign sign.Comma ∷ t → Item b t u → (all : List A) (r : List Symbol) → More Item all s r
    → (more : List A) × (all ≡ b ∷ more) × More Item more u r
next_only Item unique b s t u w h all r (g.none _ _ _ e same none) = absurd (none (t, w))
next_only Item unique b s t u w h all r (g.more _ d ds _ t' u' _ e w' h' hs) =
    let at : t' ≡ t = cc in
    let p = unique d b t u' u (subst (λ (x : List Symbol). Item d x u') at h') h in
    (ds, e ∙ ap (λ x. x ∷ ds) p.item, subst (λ (x : List Symbol). More Item ds x r) p.rest hs)

pub next_none : {A : Type 0} (Item : A → List Symbol → List Symbol → Type 0) (s t : List Symbol) → s ≡ Sign sign.Comma ∷ t → ((b : A) (r : List Symbol) → ¬ (Item b t r)) → (all : List A) (r : List Symbol) → ¬ (More Item all s r)
next_none Item s t w bad all r (g.none _ _ _ e same none) = none (t, w)
next_none Item s t w bad all r (g.more _ d ds _ t' u' _ e w' h' hs) =
    let at : t' ≡ t = cc in
    bad d u' (subst (λ (x : List Symbol). Item d x u') at h')

pub last : {A : Type 0} (Item : A → List Symbol → List Symbol → Type 0) (s : List Symbol) → ¬ (Begins (Sign sign.Comma) s) → More Item [] s s
last Item s none = g.none [] s s refl refl none

pub whole : {A : Type 0} (Item : A → List Symbol → List Symbol → Type 0) (items : List A) (s r : List Symbol) → Several Item (items ++ []) s r → Several Item items s r
whole Item items s r h = (h.0, h.1, h.2, sym (append-nil items) ∙ h.3, h.4, h.5)

more_unique : {A : Type 0} (Item : A → List Symbol → List Symbol → Type 0) → IsUnique Item → (xs ys : List A) (s r q : List Symbol) → More Item xs s r → More Item ys s q → SameItem xs ys r q
more_unique Item unique xs ys s r q (g.none _ _ _ e same none) (g.none _ _ _ e' same' none') = record { item = e ∙ sym e'; rest = sym same ∙ same' }
more_unique Item unique xs ys s r q (g.none _ _ _ e same none) (g.more _ d ds _ t u _ e' w h hs) = absurd (none (t, w))
more_unique Item unique xs ys s r q (g.more _ d ds _ t u _ e w h hs) (g.none _ _ _ e' same none) = absurd (none (t, w))
more_unique Item unique xs ys s r q (g.more _ d ds _ t u _ e w h hs) (g.more _ d' ds' _ t' u' _ e' w' h' hs') =
    let at : t' ≡ t = cc in
    let p = unique d d' t u u' h (subst (λ (x : List Symbol). Item d' x u') at h') in
    let m = more_unique Item unique ds ds' u r q hs (subst (λ (x : List Symbol). More Item ds' x q) (sym p.rest) hs') in
    record { item = e ∙ ap (λ x. x ∷ ds) p.item ∙ ap (λ x. d' ∷ x) m.item ∙ sym e'; rest = m.rest }

pub several_unique : {A : Type 0} (Item : A → List Symbol → List Symbol → Type 0) → IsUnique Item → (xs ys : List A) (s r q : List Symbol) → Several Item xs s r → Several Item ys s q → SameItem xs ys r q
several_unique Item unique xs ys s r q h k =
    let p = unique h.0 k.0 s h.2 k.2 h.4 k.4 in
    let m = more_unique Item unique h.1 k.1 h.2 r q h.5 (subst (λ (x : List Symbol). More Item k.1 x q) (sym p.rest) k.5) in
    record { item = h.3 ∙ ap (λ x. x ∷ h.1) p.item ∙ ap (λ x. k.0 ∷ x) m.item ∙ sym k.3; rest = m.rest }

-- ---- names, read by the reader of symbols

more_of : (names : List (List ℕ)) (s r : List Symbol) → s ≡ more_names names ++ r → AllByRecursion IsName names → ¬ (Begins (Sign sign.Comma) r) → More ReadsName names s r
more_of [] s r e are none = g.none [] s r refl e (subst (λ (x : List Symbol). ¬ (Begins (Sign sign.Comma) x)) (sym e) none)
more_of (n ∷ names) s r e are none = g.more (n ∷ names) n names s (Word n ∷ (more_names names ++ r)) (more_names names ++ r) r refl e (refl, are.0) (more_of names (more_names names ++ r) r refl are.1 none)

pub several_names : (names : List (List ℕ)) (s r : List Symbol) → (s ≡ names_symbols names ++ r) × AreNames names → ¬ (Begins (Sign sign.Comma) r) → Several ReadsName names s r
several_names [] s r found none = absurd (omega (arith, found.1.some))
several_names (n ∷ names) s r found none =
    let each = recursion_from_All IsName (n ∷ names) found.1.named in
    (n, names, more_names names ++ r, refl, (found.0, each.0), more_of names (more_names names ++ r) r refl each.1 none)

-- a name and more of them
are_names : (n : List ℕ) (ns : List (List ℕ)) → IsName n → AllByRecursion IsName ns → AreNames (n ∷ ns)
are_names n ns is are = record { some = omega arith; named = All-from_recursion IsName (n ∷ ns) (is, are) }

record AreMore (names : List (List ℕ)) (s r : List Symbol) : Type 0 where
  whole : s ≡ more_names names ++ r
  are : AllByRecursion IsName names
  none : ¬ (Begins (Sign sign.Comma) r)

are_more : (names : List (List ℕ)) (s r : List Symbol) → More ReadsName names s r → AreMore names s r
are_more names s r (g.none _ _ _ e same none) =
    record { whole = same ∙ ap (λ x. more_names x ++ r) (sym e); are = subst (AllByRecursion IsName) (sym e) tt; none = subst (λ (x : List Symbol). ¬ (Begins (Sign sign.Comma) x)) same none }
are_more names s r (g.more _ n ns _ t u _ e w h hs) =
    let m = are_more ns u r hs in
    record {
      whole = w ∙ ap (λ x. Sign sign.Comma ∷ x) (h.0 ∙ ap (λ x. Word n ∷ x) m.whole) ∙ ap (λ x. more_names x ++ r) (sym e);
      are = subst (AllByRecursion IsName) (sym e) (h.1, m.are);
      none = m.none;
    }

-- names that are read are in front
pub names_front : (names : List (List ℕ)) (s r : List Symbol) → Several ReadsName names s r → (s ≡ names_symbols names ++ r) × AreNames names
names_front names s r (n, ns, t, e, h, hs) =
    let m = are_more ns t r hs in
    (h.0 ∙ ap (λ x. Word n ∷ x) m.whole ∙ ap (λ x. names_symbols x ++ r) (sym e), subst AreNames (sym e) (are_names n ns h.1 m.are))

-- names that don't begin the symbols aren't read from them
pub no_names : (s : List Symbol) → ListsNoNames s → (names : List (List ℕ)) (r : List Symbol) → ¬ (Several ReadsName names s r)
no_names s bad names r h =
    let m = are_more h.1 h.2 r h.5 in
    bad (h.0 ∷ h.1) r (are_names h.0 h.1 h.4.1 m.are) m.none (h.4.0 ∙ ap (λ x. Word h.0 ∷ x) m.whole)
