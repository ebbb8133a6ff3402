-- Covering is reflexive and transitive.
use Rattle.std.proofs.Common.{◌≡◌, ◌∙◌, ◌↔◌, ℕ, Bool, true, false, List, length, refl, sym, ap, arith, ⊎_elim}
use Rattle.std.proofs.lemmas.Bool.{cases_Bool}
use Rattle.su_tableau.specs.Tableaux.{Tab, IsValid}
use Rattle.su_tableau.specs.Parts.{part}
use Rattle.su_tableau.proofs.Containment.{maps_compose}
use Rattle.su_map.specs.Lists.{IsMapping}
use Rattle.su_map.proofs.Containment.{list_maps, maps_list}
use Rattle.su_min.specs.Kept.{Minimised}
use Rattle.su_min.specs.Cover.{AreAlike, Covers}
use Rattle.su_min.proofs.Parts.{same_maps}

pub alike_same : (t : Tab) → AreAlike t t
alike_same t = record { width = refl; outputs = refl; operators = refl; constants = refl }

pub alike_back : (s t : Tab) → AreAlike s t → AreAlike t s
alike_back s t a = record { width = sym a.width; outputs = sym a.outputs; operators = sym a.operators; constants = sym a.constants }

pub alike_through : (r s t : Tab) → AreAlike r s → AreAlike s t → AreAlike r t
alike_through r s t a b = record {
  width = a.width ∙ b.width;
  outputs = a.outputs ∙ b.outputs;
  operators = a.operators ∙ b.operators;
  constants = a.constants ∙ b.constants;
}

-- like terms have heads of one length
pub alike_heads : (s t : Tab) → IsValid s → IsValid t → AreAlike s t → length s.head ≡ length t.head
alike_heads s t vs vt a =
    let hs = vs.head_length in let ht = vt.head_length in
    let o = a.outputs in let l = ap length a.operators in
    omega arith

pub covers_itself : (one : Minimised) → Covers one one
covers_itself one =
    let f = maps_list one.tableau one.tableau one.mask one.mask (same_maps (part one.tableau one.mask)) in
    record { alike = alike_same one.tableau; list = f.0; maps = f.1 }

pub covers_through : (a b c : Minimised) → Covers a b → Covers b c → Covers a c
covers_through a b c f g =
    let to = list_maps a.tableau b.tableau a.mask b.mask f.list f.maps in
    let on = list_maps b.tableau c.tableau b.mask c.mask g.list g.maps in
    let h = maps_list a.tableau c.tableau a.mask c.mask (maps_compose (part a.tableau a.mask) (part b.tableau b.mask) (part c.tableau c.mask) to on) in
    record { alike = alike_through a.tableau b.tableau c.tableau f.alike g.alike; list = h.0; maps = h.1 }

-- a search that finds a mapping exactly where there is one, over like terms, tells whether the one covers the other
pub tells_covers : (one other : Minimised) (b : Bool) (list : List ℕ)
    → AreAlike one.tableau other.tableau
    → (b ≡ true → IsMapping one.tableau one.mask other.tableau other.mask list)
    → (b ≡ false → (l : List ℕ) → IsMapping one.tableau one.mask other.tableau other.mask l → ⊥)
    → (b ≡ true) ↔ Covers one other
tells_covers one other b list alike found none = (
  λ yes'. record { alike = alike; list = list; maps = found yes' },
  λ c.
      ⊎_elim
      (λ (is : b ≡ true). is)
      (λ (is : b ≡ false). absurd (none is c.list c.maps))
      (cases_Bool b),
)
