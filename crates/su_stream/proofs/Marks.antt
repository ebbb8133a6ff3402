-- The byte order mark that may stand at the front of what has come.
use Rattle.std.proofs.Common.{zero, suc, ◌≡◌, ◌<◌, ℕ, Bool, true, false, ◌==◌, List, [], ◌∷◌, ◌++◌, append-nil, length, drop, get_or, refl, ap, sym, ◌∙◌, arith}
use Rattle.std.proofs.lemmas.Bool.Decides.{nat_tests}
use Rattle.su_lex.specs.Pieces.{after_mark, Parts}
use Rattle.su_lex.specs.Pieces as p
use Rattle.su_lex.proofs.Cuts.{parts_trans, parts_same}
use Rattle.su_stream.specs.declared.fronts.Front.TheVariants.{Mark, Other, Unknown}
use Rattle.su_stream.specs.inside.Fronts.{front_at}
use Rattle.su_stream.proofs.Steps.{plain_byte}

pub mark_drops : (held : List ℕ) → front_at held ≡ Mark → (more : List ℕ) → after_mark (held ++ more) ≡ drop 3 held ++ more
mark_drops [] e more = absurd (cc)
mark_drops (x ∷ []) e more = absurd (grind (arith, nat_tests, e))
mark_drops (x ∷ y ∷ []) e more = absurd (grind (arith, nat_tests, e))
mark_drops (x ∷ y ∷ z ∷ held) e more = let h : (x ≡ 239) × ((y ≡ 187) × (z ≡ 191)) = grind (arith, nat_tests, e) in rw (h.0, h.1.0, h.1.1) refl

pub other_stays : (held : List ℕ) → front_at held ≡ Other → (more : List ℕ) → after_mark (held ++ more) ≡ held ++ more
other_stays [] e more = absurd (cc)
other_stays (x ∷ []) e more = let h : (239 == x) ≡ false = grind (arith, nat_tests, e) in rw h refl
other_stays (x ∷ y ∷ []) e more = two (239 == x) (187 == y) refl refl
  where
    two : (v w : Bool) → (239 == x) ≡ v → (187 == y) ≡ w → after_mark (x ∷ y ∷ more) ≡ x ∷ y ∷ more
    two false w h k = rw h refl
    two true false h k = rw (h, k) refl
    two true true h k = absurd (grind (arith, nat_tests, h, k, e))
other_stays (x ∷ y ∷ z ∷ held) e more = three (239 == x) (187 == y) (191 == z) refl refl refl
  where
    three : (u v w : Bool) → (239 == x) ≡ u → (187 == y) ≡ v → (191 == z) ≡ w → after_mark (x ∷ y ∷ z ∷ (held ++ more)) ≡ x ∷ y ∷ z ∷ (held ++ more)
    three false v w h k l = rw h refl
    three true false w h k l = rw (h, k) refl
    three true true false h k l = rw (h, k, l) refl
    three true true true h k l = absurd (grind (arith, nat_tests, h, k, l, e))

-- where it is known, more that comes changes nothing
pub mark_stays : (come rest : List ℕ) → ((more : List ℕ) → after_mark (come ++ more) ≡ rest ++ more) → (more : List ℕ) → after_mark (come ++ more) ≡ after_mark come ++ more
mark_stays come rest same more = same more ∙ ap (λ v. v ++ more) (sym (ap after_mark (sym (append-nil come)) ∙ same [] ∙ append-nil rest))

-- ---- where it isn't known

pub unknown_mark : (held : List ℕ) → front_at held ≡ Unknown → after_mark held ≡ held
unknown_mark [] e = refl
unknown_mark (x ∷ []) e = let h : x ≡ 239 = grind (arith, nat_tests, e) in rw h refl
unknown_mark (x ∷ y ∷ []) e = let h : (x ≡ 239) × (y ≡ 187) = grind (arith, nat_tests, e) in rw (h.0, h.1) refl
unknown_mark (x ∷ y ∷ z ∷ held) e = absurd (grind (arith, nat_tests, e))

-- no byte of a front of the mark is a `;`
pub unknown_no_cut : (held : List ℕ) (k : ℕ) → front_at held ≡ Unknown → k < length held → get_or held k 0 ≡ 59 → ⊥
unknown_no_cut [] k e within cut = omega (arith, within)
unknown_no_cut (x ∷ []) zero e within cut = let h : x ≡ 239 = grind (arith, nat_tests, e) in omega (arith, h, cut)
unknown_no_cut (x ∷ []) (suc k) e within cut = omega (arith, within)
unknown_no_cut (x ∷ y ∷ []) zero e within cut = let h : (x ≡ 239) × (y ≡ 187) = grind (arith, nat_tests, e) in omega (arith, h.0, cut)
unknown_no_cut (x ∷ y ∷ []) (suc zero) e within cut = let h : (x ≡ 239) × (y ≡ 187) = grind (arith, nat_tests, e) in omega (arith, h.1, cut)
unknown_no_cut (x ∷ y ∷ []) (suc (suc k)) e within cut = omega (arith, within)
unknown_no_cut (x ∷ y ∷ z ∷ held) k e within cut = absurd (grind (arith, nat_tests, e))

unknown_parts : (come : List ℕ) → front_at come ≡ Unknown → Parts come []
unknown_parts [] e = p.none [] [] refl
unknown_parts (x ∷ []) e = let h : x ≡ 239 = grind (arith, nat_tests, e) in rw h (plain_byte 239 [] refl refl refl)
unknown_parts (x ∷ y ∷ []) e =
    let h : (x ≡ 239) × (y ≡ 187) = grind (arith, nat_tests, e) in
    rw (h.0, h.1) (parts_trans (239 ∷ 187 ∷ []) (187 ∷ []) [] (plain_byte 239 (187 ∷ []) refl refl refl) (plain_byte 187 [] refl refl refl))
unknown_parts (x ∷ y ∷ z ∷ come) e = absurd (grind (arith, nat_tests, e))

-- so no piece has ended
pub unknown_none : (come t : List ℕ) → front_at come ≡ Unknown → Parts (after_mark come) (59 ∷ t) → ⊥
unknown_none come t e parts =
    let h : [] ≡ 59 ∷ t = parts_same come [] (59 ∷ t) (unknown_parts come e) refl (rw (unknown_mark come e) at parts) refl in
    absurd (cc)
