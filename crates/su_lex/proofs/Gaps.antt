-- White space and comments: a gap that ends before a token ends there alone.
use Rattle.std.proofs.Common.{◌≡◌, ◌≤◌, ℕ, true, false, not, List, [], ◌∷◌, ◌++◌, ◌==◌, length, length-append, append_assoc, take, drop, get_or, ◌-◌, refl, ap, sym, ◌∙◌, arith, subst}
use Rattle.std.proofs.lemmas.Bool.{false≢true}
use Rattle.std.proofs.lemmas.Bool.Decides.{nat_tests}
use Rattle.su_lex.specs.Blanks.{begins, is_space, Comment, begins_comment, Gap}
use Rattle.su_lex.specs.Blanks as b
use Rattle.std.proofs.lemmas.List.{take_rest, length-drop}
use Rattle.su_lex.proofs.Runs.{run_same, run_at}
use Rattle.std.specs.List.{prefix_len}

-- neither a space nor a comment stands at the front
pub record IsSolid (s : List ℕ) : Type 0 where
  pub no_space : begins is_space s ≡ false
  pub no_comment : begins_comment s ≡ false

pub comment_begins : (s r : List ℕ) → Comment s r → begins_comment s ≡ true
comment_begins s r c = rw (c.1) refl

comment_no_space : (s r : List ℕ) → Comment s r → begins is_space s ≡ false
comment_no_space s r c = rw (c.1) refl

pub comment_same : (s r t : List ℕ) → Comment s r → Comment s t → r ≡ t
comment_same s r t c d =
    let e : c.0 ++ r ≡ d.0 ++ t = let h = sym c.1 ∙ d.1 in cc in
    (run_same (λ b. not (b == 10)) c.0 r d.0 t c.2 d.2 e).1

-- a gap goes on behind a space or a comment
pub gap_space : (x : ℕ) (t r : List ℕ) → is_space x ≡ true → Gap (x ∷ t) r → IsSolid r → Gap t r
gap_space x t r h (b.none s _ e) solid = absurd (false≢true (sym solid.no_space ∙ ap (begins is_space) (sym e) ∙ h))
gap_space x t r h (b.space y s u _ e k g) solid = let same : u ≡ t = cc in subst (λ (v : List ℕ). Gap v r) same g
gap_space x t r h (b.comment s u _ c g) solid = absurd (false≢true (sym (comment_no_space (x ∷ t) u c) ∙ h))

pub gap_comment : (s t r : List ℕ) → Comment s t → Gap s r → IsSolid r → Gap t r
gap_comment s t r c (b.none _ _ e) solid = absurd (false≢true (sym solid.no_comment ∙ ap begins_comment (sym e) ∙ comment_begins s t c))
gap_comment s t r c (b.space y _ u _ e k g) solid = absurd (false≢true (sym (comment_no_space s t c) ∙ ap (begins is_space) e ∙ k))
gap_comment s t r c (b.comment _ u _ d g) solid = subst (λ (v : List ℕ). Gap v r) (comment_same s u t d c) g

pub gap_solid : (s r : List ℕ) → IsSolid s → Gap s r → s ≡ r
gap_solid s r solid (b.none _ _ e) = e
gap_solid s r solid (b.space y _ u _ e k g) = absurd (false≢true (sym solid.no_space ∙ ap (begins is_space) e ∙ k))
gap_solid s r solid (b.comment _ u _ c g) = absurd (false≢true (sym solid.no_comment ∙ comment_begins s u c))

-- two gaps from one place that end where none goes on end at one place
pub gap_same : (s r t : List ℕ) → Gap s r → IsSolid r → Gap s t → IsSolid t → r ≡ t
gap_same s r t (b.none _ _ e) solid h solid' = gap_solid r t solid (subst (λ (v : List ℕ). Gap v t) e h)
gap_same s r t (b.space y _ u _ e k g) solid h solid' = gap_same u r t g solid (gap_space y u t k (subst (λ (v : List ℕ). Gap v t) e h) solid') solid'
gap_same s r t (b.comment _ u _ c g) solid h solid' = gap_same u r t g solid (gap_comment s u t c h solid') solid'

pub gap_trans : (s r t : List ℕ) → Gap s r → Gap r t → Gap s t
gap_trans s r t (b.none _ _ e) h = subst (λ (v : List ℕ). Gap v t) (sym e) h
gap_trans s r t (b.space y _ u _ e k g) h = b.space y s u t e k (gap_trans u r t g h)
gap_trans s r t (b.comment _ u _ c g) h = b.comment s u t c (gap_trans u r t g h)

-- a gap's end is an end of the text
pub gap_suffix : (s r : List ℕ) → Gap s r → (gap : List ℕ) × (s ≡ gap ++ r)
gap_suffix s r (b.none _ _ e) = ([], e)
gap_suffix s r (b.space y _ u _ e k g) = let h = gap_suffix u r g in (y ∷ h.0, e ∙ ap (λ v. y ∷ v) h.1)
gap_suffix s r (b.comment _ u _ c g) =
    let h = gap_suffix u r g in
    (45 ∷ 45 ∷ (c.0 ++ h.0), c.1 ∙ ap (λ v. 45 ∷ 45 ∷ (c.0 ++ v)) h.1 ∙ ap (λ v. 45 ∷ 45 ∷ v) (sym (append_assoc c.0 h.0 r)))

pub gap_within : (s r : List ℕ) → Gap s r → length r ≤ length s
gap_within s r g = let h = gap_suffix s r g in omega (arith, ap length h.1, length-append h.0 r)

begins_two : (s : List ℕ) → begins_comment s ≡ true → s ≡ 45 ∷ 45 ∷ drop 2 s
begins_two [] h = absurd (false≢true h)
begins_two (x ∷ []) h = absurd (grind (arith, nat_tests, h))
begins_two (x ∷ y ∷ s) h = let e : (x ≡ 45) × (y ≡ 45) = grind (arith, nat_tests, h) in rw (e.0, e.1) refl

-- the comment at the front ends before the first line feed
pub comment_at : (s : List ℕ) (n : ℕ) → begins_comment s ≡ true → n ≡ prefix_len (λ b. not (b == 10)) (drop 2 s) → Comment s (drop n (drop 2 s))
comment_at s n h e =
    let run = run_at (λ b. not (b == 10)) (drop 2 s) n e in
    (take n (drop 2 s), begins_two s h ∙ ap (λ v. 45 ∷ 45 ∷ v) run.0, run.1)

pub space_step : (s r : List ℕ) → 1 ≤ length s → is_space (get_or s 0 0) ≡ true → Gap (take (length s - 1) (drop 1 s)) r → Gap s r
space_step [] r some h g = absurd (omega arith)
space_step (x ∷ s) r some h g = b.space x (x ∷ s) s r refl h (rw take_rest at g)

pub solid_at : (s : List ℕ) → 1 ≤ length s → is_space (get_or s 0 0) ≡ false → begins_comment s ≡ false → IsSolid s
solid_at [] some h k = absurd (omega arith)
solid_at (x ∷ s) some h k = record { no_space = h; no_comment = k }

pub behind_within : (s : List ℕ) (n : ℕ) → length s ≤ n → length (take (length s - 1) (drop 1 s)) ≤ n
behind_within s n h = rw take_rest (omega (arith, length-drop 1 s))
