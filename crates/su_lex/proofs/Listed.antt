-- Lists of names.
use Rattle.std.proofs.Common.{◌≡◌, ℕ, List, [], ◌∷◌, ◌++◌, map, refl, ap, sym, ◌∙◌, append_assoc, append-nil, length-append, arith}
use Rattle.std.specs.List.{AllByRecursion, flat_map}
use Rattle.std.proofs.lemmas.List.Elements.{All-from_recursion, recursion_from_All}
use Rattle.su_base.specs.Name.{IsName, AreNames}
use Rattle.su_base.proofs.Items.{AllByRecursion-append}
use Rattle.su_lex.specs.declared.signs.Sign.TheVariants as sign
use Rattle.su_lex.specs.declared.meaning.Symbol.{Symbol}
use Rattle.su_lex.specs.declared.meaning.Symbol.TheVariants.{Word, Sign}
use Rattle.su_lex.specs.Names.{Begins, names_symbols}

-- names that each stand behind a comma
abbrev pub more_names : List (List ℕ) → List Symbol
more_names names = flat_map (λ symbols. Sign sign.Comma ∷ symbols) (map (λ name. Word name ∷ []) names)

-- each is a name, from the first on
pub each_name : (ns : List (List ℕ)) → AreNames ns → AllByRecursion IsName ns
each_name ns are = recursion_from_All IsName ns are.named

no_names : AreNames [] → ⊥
no_names are = let some = are.some in omega (arith, some)

pub names_push : (ns : List (List ℕ)) (n : List ℕ) (s r : List Symbol) → AreNames ns → s ≡ Sign sign.Comma ∷ Word n ∷ r → names_symbols ns ++ s ≡ names_symbols (ns ++ n ∷ []) ++ r
names_push [] n s r are e = absurd (no_names are)
names_push (m ∷ ns) n s r are e = ap (λ x. Word m ∷ x) (more ns e)
  where
    more : (ns : List (List ℕ)) → s ≡ Sign sign.Comma ∷ Word n ∷ r → more_names ns ++ s ≡ more_names (ns ++ n ∷ []) ++ r
    more [] e = e
    more (m ∷ ns) e = ap (λ x. Sign sign.Comma ∷ Word m ∷ x) (more ns e)

-- what was read, and a little more
pub further : (done more e s r : List Symbol) → e ≡ done ++ s → s ≡ more ++ r → (front : List Symbol) × (e ≡ front ++ r)
further done more e s r w h = (done ++ more, w ∙ ap (λ x. done ++ x) h ∙ sym (append_assoc done more r))

pub are_push : (ns : List (List ℕ)) (n : List ℕ) → AreNames ns → IsName n → AreNames (ns ++ n ∷ [])
are_push ns n are is = record {
  some = rw length-append (omega arith);
  named = All-from_recursion IsName (ns ++ n ∷ []) (AllByRecursion-append IsName ns (n ∷ []) (each_name ns are) (is, tt));
}

-- what is left of the names behind those that were read
pub record Left (done all : List (List ℕ)) (s r : List Symbol) : Type 0 where
  pub more : List (List ℕ)
  pub all_is : all ≡ done ++ more
  pub rest_is : s ≡ more_names more ++ r
  pub are : AllByRecursion IsName more

more_left : (done all : List (List ℕ)) (s r : List Symbol) → ¬ (Begins (Sign sign.Comma) r) → AllByRecursion IsName all → more_names done ++ s ≡ more_names all ++ r → Left done all s r
more_left [] all s r none are e = record { more = all; all_is = refl; rest_is = e; are = are }
more_left (n ∷ done) [] s r none are e = absurd (none (Word n ∷ (more_names done ++ s), sym e))
more_left (n ∷ done) (m ∷ all) s r none are e =
    let h : n ≡ m = cc in
    let e' : more_names done ++ s ≡ more_names all ++ r = cc in
    let l = more_left done all s r none are.1 e' in
    let left = l.all_is in
    record { more = l.more; all_is = cc; rest_is = l.rest_is; are = l.are }

pub names_left : (done all : List (List ℕ)) (s r : List Symbol) → ¬ (Begins (Sign sign.Comma) r) → AreNames done → AreNames all → names_symbols done ++ s ≡ names_symbols all ++ r → Left done all s r
names_left [] all s r none are are' e = absurd (no_names are)
names_left (n ∷ done) [] s r none are are' e = absurd (no_names are')
names_left (n ∷ done) (m ∷ all) s r none are are' e =
    let h : n ≡ m = cc in
    let e' : more_names done ++ s ≡ more_names all ++ r = cc in
    let l = more_left done all s r none (each_name (m ∷ all) are').1 e' in
    let left = l.all_is in
    record { more = l.more; all_is = cc; rest_is = l.rest_is; are = l.are }

pub record SameNames (ns ms : List (List ℕ)) (s r : List Symbol) : Type 0 where
  pub names : ns ≡ ms
  pub rest : s ≡ r

-- names are read in one way
pub names_unique : (ns ms : List (List ℕ)) (s r : List Symbol) → ¬ (Begins (Sign sign.Comma) s) → ¬ (Begins (Sign sign.Comma) r) → AreNames ns → AreNames ms
    → names_symbols ns ++ s ≡ names_symbols ms ++ r → SameNames ns ms s r
names_unique ns ms s r none none' are are' e =
    let l = names_left ns ms s r none' are are' e in
    ended l.more l.all_is l.rest_is
  where
    ended : (more : List (List ℕ)) → ms ≡ ns ++ more → s ≡ more_names more ++ r → SameNames ns ms s r
    ended [] a b = record { names = sym (a ∙ append-nil ns); rest = b }
    ended (m ∷ more) a b = absurd (none (Word m ∷ (more_names more ++ r), b))

-- where another name has to stand, and none does
pub no_name : (done all : List (List ℕ)) (e s t r : List Symbol) → ¬ (Begins (Sign sign.Comma) r) → AreNames done → AreNames all → e ≡ names_symbols done ++ s → s ≡ Sign sign.Comma ∷ t
    → ((n : List ℕ) → IsName n → ¬ (Begins (Word n) t)) → e ≡ names_symbols all ++ r → ⊥
no_name done all e s t r none are are' w comma bad k =
    let l = names_left done all s r none are are' (sym w ∙ k) in
    ended l.more l.rest_is l.are
  where
    ended : (more : List (List ℕ)) → s ≡ more_names more ++ r → AllByRecursion IsName more → ⊥
    ended [] b is = none (t, sym b ∙ comma)
    ended (m ∷ more) b is = let h : t ≡ Word m ∷ (more_names more ++ r) = cc in bad m is.0 (more_names more ++ r, h)

pub no_first : (all : List (List ℕ)) (e r : List Symbol) → AreNames all → ((n : List ℕ) → IsName n → ¬ (Begins (Word n) e)) → e ≡ names_symbols all ++ r → ⊥
no_first [] e r are bad k = no_names are
no_first (n ∷ all) e r are bad k = bad n (each_name (n ∷ all) are).0 (more_names all ++ r, k)
