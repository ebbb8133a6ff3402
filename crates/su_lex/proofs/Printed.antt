-- One more symbol of a text.
use Rattle.std.proofs.Common.{◌≡◌, ◌<◌, ◌+◌, ℕ, Bool, true, false, not, ◌||◌, List, [], ◌∷◌, ◌++◌, length, refl, ap, sym, ◌∙◌, append_assoc, append-nil, take, get_or, drop}
use Rattle.std.specs.Prelude.{if◌then◌else◌}
use Rattle.std.proofs.lemmas.List.{take_more, take-append-drop}
use Rattle.su_lex.specs.AddedFronts.{AddsFront}
use Rattle.su_lex.proofs.AddedFronts.{adds_first, adds_later}
use Rattle.su_lex.specs.TokenForms.{doubled, quoted, twice}
use Rattle.su_lex.specs.declared.meaning.Symbol.{Symbol}
use Rattle.su_lex.specs.Spelling.{closes, opens, spaced, spelled, after}

-- whether nothing need stand before the next symbol
abbrev pub tight_of : Bool → List Symbol → Bool
tight_of b [] = b
tight_of b (x ∷ xs) = tight_of (opens x) xs

after_push : (x : Symbol) (ys : List Symbol) (z : Symbol) → after x (ys ++ z ∷ []) ≡ after x ys ++ ((if not (tight_of (opens x) ys || closes z) then 32 ∷ [] else []) ++ spelled z)
after_push x [] z = elim (opens x || closes z) as (λ v. (opens x || closes z) ≡ v → after x (z ∷ []) ≡ ((if not (opens x || closes z) then 32 ∷ [] else []) ++ spelled z)) [
  | true ↦ λ e. rw e (append-nil (spelled z))
  | false ↦ λ e. rw e (ap (λ s. 32 ∷ s) (append-nil (spelled z)))
] refl
after_push x (y ∷ ys) z = elim (opens x || closes y) as (λ v. (opens x || closes y) ≡ v → after x (y ∷ ys ++ z ∷ []) ≡ after x (y ∷ ys) ++ ((if not (tight_of (opens y) ys || closes z) then 32 ∷ [] else []) ++ spelled z)) [
  | true ↦ λ e. rw e (ap (λ s. spelled y ++ s) (after_push y ys z) ∙ sym (append_assoc (spelled y) (after y ys) ((if not (tight_of (opens y) ys || closes z) then 32 ∷ [] else []) ++ spelled z)))
  | false ↦ λ e. rw e (ap (λ s. 32 ∷ (spelled y ++ s)) (after_push y ys z) ∙ ap (λ s. 32 ∷ s) (sym (append_assoc (spelled y) (after y ys) ((if not (tight_of (opens y) ys || closes z) then 32 ∷ [] else []) ++ spelled z))))
] refl

spaced_push : (xs : List Symbol) (z : Symbol) → spaced (xs ++ z ∷ []) ≡ spaced xs ++ ((if not (tight_of true xs || closes z) then 32 ∷ [] else []) ++ spelled z)
spaced_push [] z = append-nil (spelled z)
spaced_push (x ∷ xs) z = ap (λ s. spelled x ++ s) (after_push x xs z) ∙ sym (append_assoc (spelled x) (after x xs) ((if not (tight_of (opens x) xs || closes z) then 32 ∷ [] else []) ++ spelled z))

tight_push : (b : Bool) (xs : List Symbol) (z : Symbol) → tight_of b (xs ++ z ∷ []) ≡ opens z
tight_push b [] z = refl
tight_push b (x ∷ xs) z = tight_push (opens x) xs z

pub record OneMore (symbols : List Symbol) (i : ℕ) (out : List ℕ) (tight : Bool) : Type 0 where
  pub text : out ≡ spaced (take i symbols)
  pub tight_is : tight ≡ tight_of true (take i symbols)

pub one_more : (symbols : List Symbol) (i : ℕ) (z : Symbol) (out o1 o2 : List ℕ) (tight tight' : Bool) → i < length symbols → z ≡ get_or symbols i z → OneMore symbols i out tight
    → o1 ≡ out ++ (if not (tight || closes z) then 32 ∷ [] else []) → o2 ≡ o1 ++ spelled z → tight' ≡ opens z → OneMore symbols (i + 1) o2 tight'
one_more symbols i z out o1 o2 tight tight' l at before e1 e2 t =
    let more : take (i + 1) symbols ≡ take i symbols ++ z ∷ [] = take_more symbols i z l ∙ ap (λ x. take i symbols ++ x ∷ []) (sym at) in
    record {
      text = e2 ∙ ap (λ s. s ++ spelled z) e1 ∙ append_assoc out (if not (tight || closes z) then 32 ∷ [] else []) (spelled z)
          ∙ ap (λ s. s ++ ((if not (tight || closes z) then 32 ∷ [] else []) ++ spelled z)) before.text
          ∙ ap (λ (b : Bool). spaced (take i symbols) ++ ((if not (b || closes z) then 32 ∷ [] else []) ++ spelled z)) before.tight_is
          ∙ sym (spaced_push (take i symbols) z) ∙ ap spaced (sym more);
      tight_is = t ∙ sym (tight_push true (take i symbols) z) ∙ ap (tight_of true) (sym more);
    }

pub doubled_push : (content : List ℕ) (b : ℕ) → doubled (content ++ b ∷ []) ≡ doubled content ++ twice b
doubled_push [] b = append-nil (twice b)
doubled_push (c ∷ cs) b = ap (λ x. twice c ++ x) (doubled_push cs b) ∙ sym (append_assoc (twice c) (doubled cs) (twice b))

pub quoted_more : (content start out new : List ℕ) (i : ℕ) → i < length content → out ≡ start ++ 39 ∷ doubled (take i content) → new ≡ out ++ twice (get_or content i 0)
    → new ≡ start ++ 39 ∷ doubled (take (i + 1) content)
quoted_more content start out new i l e n =
    n ∙ ap (λ x. x ++ twice (get_or content i 0)) e ∙ append_assoc start (39 ∷ doubled (take i content)) (twice (get_or content i 0))
    ∙ ap (λ x. start ++ 39 ∷ x) (sym (doubled_push (take i content) (get_or content i 0)) ∙ ap doubled (sym (take_more content i 0 l)))

-- symbols behind bytes that stand before them
pub record MoreBehind (symbols : List Symbol) (i : ℕ) (start out : List ℕ) (tight : Bool) : Type 0 where
  pub text : out ≡ start ++ spaced (take i symbols)
  pub tight_is : tight ≡ tight_of true (take i symbols)

pub one_behind : (symbols : List Symbol) (i : ℕ) (z : Symbol) (start out o1 o2 : List ℕ) (tight tight' : Bool) → i < length symbols → z ≡ get_or symbols i z → MoreBehind symbols i start out tight
    → o1 ≡ out ++ (if not (tight || closes z) then 32 ∷ [] else []) → o2 ≡ o1 ++ spelled z → tight' ≡ opens z → MoreBehind symbols (i + 1) start o2 tight'
one_behind symbols i z start out o1 o2 tight tight' l at before e1 e2 t =
    let space : List ℕ = if not (tight || closes z) then 32 ∷ [] else [] in
    let written = spaced (take i symbols) in
    let h = one_more symbols i z written (written ++ space) ((written ++ space) ++ spelled z) tight tight' l at (record { text = refl; tight_is = before.tight_is }) refl refl t in
    record {
      text = e2 ∙ ap (λ s. s ++ spelled z) (e1 ∙ ap (λ s. s ++ space) before.text ∙ append_assoc start written space) ∙ append_assoc start (written ++ space) (spelled z)
          ∙ ap (λ s. start ++ s) h.text;
      tight_is = h.tight_is;
    }

-- what is written is written from its front on
pub record Further (now all : List ℕ) : Type 0 where
  pub rest : List ℕ
  pub whole : all ≡ now ++ rest

doubled-append : (xs ys : List ℕ) → doubled (xs ++ ys) ≡ doubled xs ++ doubled ys
doubled-append [] ys = refl
doubled-append (x ∷ xs) ys = ap (λ s. twice x ++ s) (doubled-append xs ys) ∙ sym (append_assoc (twice x) (doubled xs) (doubled ys))

-- a text up to some byte of its content is a front of the text
pub quoted_front : (content old new : List ℕ) (i : ℕ) → new ≡ old ++ 39 ∷ doubled (take i content) → AddsFront old new (quoted content)
quoted_front content old new i e =
    let parts : doubled content ≡ doubled (take i content) ++ doubled (drop i content) = ap doubled (sym (take-append-drop i content)) ∙ doubled-append (take i content) (drop i content) in
    record {
      front = 39 ∷ doubled (take i content);
      rest = doubled (drop i content) ++ 39 ∷ [];
      whole = ap (λ s. 39 ∷ (s ++ 39 ∷ [])) parts ∙ ap (λ s. 39 ∷ s) (append_assoc (doubled (take i content)) (doubled (drop i content)) (39 ∷ []));
      added = e;
    }

spelled_further : (tight : Bool) (s t u r : List ℕ) → t ≡ u ++ r → (if tight then s ++ t else 32 ∷ (s ++ t)) ≡ (if tight then s ++ u else 32 ∷ (s ++ u)) ++ r
spelled_further true s t u r e = ap (λ x. s ++ x) e ∙ sym (append_assoc s u r)
spelled_further false s t u r e = ap (λ x. 32 ∷ (s ++ x)) e ∙ ap (λ x. 32 ∷ x) (sym (append_assoc s u r))

after_further : (x : Symbol) (ys zs : List Symbol) → Further (after x ys) (after x (ys ++ zs))
after_further x [] zs = record { rest = after x zs; whole = refl }
after_further x (y ∷ ys) zs =
    let f = after_further y ys zs in
    record { rest = f.rest; whole = spelled_further (opens x || closes y) (spelled y) (after y (ys ++ zs)) (after y ys) f.rest f.whole }

spaced_further : (xs ys : List Symbol) → Further (spaced xs) (spaced (xs ++ ys))
spaced_further [] ys = record { rest = spaced ys; whole = refl }
spaced_further (x ∷ xs) ys =
    let f = after_further x xs ys in
    record { rest = f.rest; whole = ap (λ s. spelled x ++ s) f.whole ∙ sym (append_assoc (spelled x) (after x xs) f.rest) }

-- so many symbols are a front of what is written
pub spaced_take : (symbols : List Symbol) (i : ℕ) → Further (spaced (take i symbols)) (spaced symbols)
spaced_take symbols i =
    let f = spaced_further (take i symbols) (drop i symbols) in
    record { rest = f.rest; whole = ap spaced (sym (take-append-drop i symbols)) ∙ f.whole }

pub spaced_front : (symbols : List Symbol) (i : ℕ) (start out new : List ℕ) (tight : Bool) → MoreBehind symbols i start out tight → new ≡ out → AddsFront start new (spaced symbols)
spaced_front symbols i start out new tight before e =
    let f = spaced_take symbols i in
    record { front = spaced (take i symbols); rest = f.rest; whole = f.whole; added = e ∙ before.text }

-- with a space and a front of the next symbol
pub symbol_front : (symbols : List Symbol) (i : ℕ) (z : Symbol) (start out o1 o2 : List ℕ) (tight : Bool) → i < length symbols → z ≡ get_or symbols i z → MoreBehind symbols i start out tight
    → o1 ≡ out ++ (if not (tight || closes z) then 32 ∷ [] else []) → AddsFront o1 o2 (spelled z) → AddsFront start o2 (spaced symbols)
symbol_front symbols i z start out o1 o2 tight l at before e1 a =
    let space : List ℕ = if not (tight || closes z) then 32 ∷ [] else [] in
    let written = spaced (take i symbols) in
    let more : take (i + 1) symbols ≡ take i symbols ++ z ∷ [] = take_more symbols i z l ∙ ap (λ x. take i symbols ++ x ∷ []) (sym at) in
    let next : spaced (take (i + 1) symbols) ≡ written ++ (space ++ spelled z) =
    ap spaced more ∙ spaced_push (take i symbols) z ∙ ap (λ (b : Bool). written ++ ((if not (b || closes z) then 32 ∷ [] else []) ++ spelled z)) (sym before.tight_is) in
    let f = spaced_take symbols (i + 1) in
    let whole : spaced symbols ≡ ((written ++ space) ++ spelled z) ++ f.rest = f.whole ∙ ap (λ s. s ++ f.rest) (next ∙ sym (append_assoc written space (spelled z))) in
    let mid : o1 ≡ start ++ (written ++ space) = e1 ∙ ap (λ s. s ++ space) before.text ∙ append_assoc start written space in
    let h = adds_first start o2 ((written ++ space) ++ spelled z) f.rest (adds_later start o1 o2 (written ++ space) (spelled z) mid a) in
    record { front = h.front; rest = h.rest; whole = whole ∙ h.whole; added = h.added }
