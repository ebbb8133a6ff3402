-- A text is read in one way up to where it goes wrong: where one reading stops no token goes on, and the other reading would.
use Rattle.std.proofs.Common.{◌≡◌, ◌+◌, ◌++◌, ◌∷◌, ◌∙◌, ◌||◌, ℕ, Bool, true, false, List, [], length, Option, Some, None, cond, codes, decimal, bytes_eq, inl, inr, refl, ap, sym, subst, arith}
use Rattle.std.specs.List.{list_any}
use Rattle.su_lex.specs.Symbols.{symbol_at}
use Rattle.su_lex.specs.declared.meaning.Symbol.{Symbol}
use Rattle.su_lex.proofs.Gaps.{IsSolid, gap_same}
use Rattle.su_lex.proofs.Lists.{token_solid, token_unique}
use Rattle.su_faults.specs.declared.faults.Fault.{Fault}
use Rattle.su_faults.specs.declared.sorts.Sort.{Sort}
use Rattle.su_faults.specs.Faults.{IsTokenFor, Reads, Begins, MayCome, IsListed, IsFault, Tells}
use Rattle.su_places.specs.Places.{kind_text, is_wanted, kinds_from, place_text}
use Rattle.su_places.specs.Laws.{told}
use Rattle.su_places.specs.declared.kinds.TheConstants.{KINDS}

-- no token goes on behind these symbols
abbrev Stops : (List Symbol → Type 0) → List Symbol → List ℕ → Type 0
Stops W xs rest = (x : Symbol) (front r : List ℕ) → rest ≡ front ++ r → IsTokenFor x front r → ¬ (Begins W (xs ++ x ∷ []))

-- what is behind a gap that ends before a token
token_start : (text u front r : List ℕ) (x : Symbol) → u ≡ front ++ r → IsTokenFor x front r → IsSolid u
token_start text u front r x is token = subst IsSolid (sym is) (token_solid token.0 front r token.1)

same_reading : (W : List Symbol → Type 0) (xs ys : List Symbol) (text rest other : List ℕ) → IsSolid rest → IsSolid other → Stops W xs rest → Stops W ys other
    → Begins W xs → Begins W ys → Reads xs text rest → Reads ys text other → (xs ≡ ys) × (rest ≡ other)
same_reading W [] [] text rest other s t w v g h a b = (refl, gap_same text rest other a s b t)
same_reading W [] (y ∷ ys) text rest other s t w v g h a (u, front, r, gap, is, token, more) =
    let same : rest ≡ u = gap_same text rest u a s gap (token_start text u front r y is token) in
    absurd (w y front r (same ∙ is) token (ys ++ h.0, h.1))
same_reading W (x ∷ xs) [] text rest other s t w v g h (u, front, r, gap, is, token, more) b =
    let same : other ≡ u = gap_same text other u b t gap (token_start text u front r x is token) in
    absurd (v x front r (same ∙ is) token (xs ++ g.0, g.1))
same_reading W (x ∷ xs) (y ∷ ys) text rest other s t w v g h (u, front, r, gap, is, token, more) (z, start, q, between, at, sign, later) =
    let same : u ≡ z = gap_same text u z gap (token_start text u front r x is token) between (token_start text z start q y at sign) in
    let one = token_unique token.0 sign.0 front r start q token.1 sign.1 (sym is ∙ same ∙ at) in
    let heads : x ≡ y = sym token.2 ∙ ap (λ k. symbol_at k front) one.kind ∙ ap (symbol_at sign.0) one.front ∙ sign.2 in
    let tails = same_reading (λ zs. W (x ∷ zs)) xs ys r rest other s t w (subst (λ (m : Symbol). Stops (λ zs. W (m ∷ zs)) ys other) (sym heads) v)
    g (subst (λ (m : Symbol). Begins (λ zs. W (m ∷ zs)) ys) (sym heads) h) more (subst (λ (m : List ℕ). Reads ys m other) (sym one.rest) later) in
    (λ i. heads i ∷ tails.0 i, tails.1)

-- ---- what could have stood there

-- one of the list passes
pub record Passing (p : Sort → Bool) (ws : List Sort) : Type 0 where
  pub sort : Sort
  pub listed : IsListed ws sort
  pub passes : p sort ≡ true

-- by the first of them
module _ (p : Sort → Bool) (w : Sort) (ws : List Sort) where
  any_first : (b : Bool) → p w ≡ b → (list_any p ws ≡ true → Passing p ws) → list_any p (w ∷ ws) ≡ true → Passing p (w ∷ ws)
  any_first true is later some = record { sort = w; listed = inl refl; passes = is }
  any_first false is later some =
      let rest = later (rw is at some) in
      record { sort = rest.sort; listed = inr rest.listed; passes = rest.passes }

any_listed : (p : Sort → Bool) (ws : List Sort) → list_any p ws ≡ true → Passing p ws
any_listed p [] none = absurd cc
any_listed p (w ∷ ws) some = any_first p w ws (p w) refl (any_listed p ws) some

or-true : (a : Bool) → (a || true) ≡ true
or-true true = refl
or-true false = refl

listed_any : (p : Sort → Bool) (ws : List Sort) (s : Sort) → IsListed ws s → p s ≡ true → list_any p ws ≡ true
listed_any p [] s none passes = absurd none
listed_any p (w ∷ ws) s (inl is) passes = ap (λ (b : Bool). b || list_any p ws) (ap p is ∙ passes)
listed_any p (w ∷ ws) s (inr later) passes = ap (λ (b : Bool). p w || b) (listed_any p ws s later passes) ∙ or-true (p w)

same_bool : (a b : Bool) → (a ≡ true → b ≡ true) → (b ≡ true → a ≡ true) → a ≡ b
same_bool true b to from = sym (to refl)
same_bool false true to from = from refl
same_bool false false to from = refl

module _ (ws vs : List Sort) (to : (s : Sort) → IsListed ws s → IsListed vs s) (from : (s : Sort) → IsListed vs s → IsListed ws s) where
  same_any : (p : Sort → Bool) → list_any p ws ≡ list_any p vs
  same_any p = same_bool (list_any p ws) (list_any p vs)
      (λ some. let one = any_listed p ws some in listed_any p vs one.sort (to one.sort one.listed) one.passes)
      (λ some. let one = any_listed p vs some in listed_any p ws one.sort (from one.sort one.listed) one.passes)

  same_kinds : (kinds : List Sort) → kinds_from ws kinds ≡ kinds_from vs kinds
  same_kinds [] = refl
  same_kinds (kind ∷ kinds) =
      let one : is_wanted ws kind ≡ is_wanted vs kind = same_any (λ s. bytes_eq (kind_text s) (kind_text kind)) in
      λ i. cond (one i) (codes " " ++ kind_text kind) [] ++ same_kinds kinds i

-- ---- one fault

module _ (W : List Symbol → Type 0) (text : List ℕ) (f g : Fault) (one : IsFault W text f) (other : IsFault W text g) where
  same : (one.before ≡ other.before) × (one.rest ≡ other.rest)
  same = same_reading W one.before other.before text one.rest other.rest
      (record { no_space = one.no_space; no_comment = one.no_comment }) (record { no_space = other.no_space; no_comment = other.no_comment })
      one.wrong other.wrong one.good other.good one.reads other.reads

  same_place : f.place ≡ g.place
  same_place = omega (arith, one.stands, other.stands, ap (λ (l : List ℕ). length l) same.1)

  comes_too : (s : Sort) → IsListed f.wanted s → IsListed g.wanted s
  comes_too s listed = (other.wanted s).1 (subst (λ (xs : List Symbol). MayCome W xs s) same.0 ((one.wanted s).0 listed))

pub one_fault : (W : List Symbol → Type 0) (text : List ℕ) (f g : Fault) (before : ℕ) → IsFault W text f → IsFault W text g → place_text before f ≡ place_text before g
one_fault W text f g before one other =
    let place : f.place ≡ g.place = same_place W text f g one other in
    let kinds = same_kinds f.wanted g.wanted (comes_too W text f g one other) (comes_too W text g f other one) KINDS in
    λ i. codes " at " ++ decimal (before + place i) ++ codes " expected" ++ kinds i

pub one_told : (W : List Symbol → Type 0) (text : List ℕ) (one other : Option Fault) (before : ℕ) → Tells W text one → Tells W text other → told before one ≡ told before other
one_told W text None None before h k = refl
one_told W text None (Some g) before whole k = absurd (k.1 whole)
one_told W text (Some f) None before h whole = absurd (h.1 whole)
one_told W text (Some f) (Some g) before h k = one_fault W text f g before h.0 k.0
