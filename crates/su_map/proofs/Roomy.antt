-- The parts of a room.
use Rattle.std.proofs.Common.{◌≡◌, ◌≤◌, ◌*◌, ℕ, List, Vec, length, sym, subst, ◌∙◌, arith}
use Rattle.std.proofs.lemmas.Nat.{mul-le}
use Rattle.std.specs.Vec.{with_items}
use Rattle.su_map.specs.declared.notes.Notes.{Notes}
use Rattle.su_map.specs.inside.Netted.{Netted}
use Rattle.su_map.specs.inside.RoomParts.{AreRoomy, IsSound}

pub refill_length : {X Z : Type 0} (v : Vec X Z) (ws : List X) → length (with_items v ws).items ≡ length v.items
refill_length v ws = sym (with_items v ws).ok.0 ∙ v.ok.0

pub levels_in : (n rows room : ℕ) → n ≤ rows → rows * rows ≤ room → n * n ≤ room
levels_in n rows room h l = let s = mul-le n n rows rows h h in omega arith

-- the parts have a place for each of n rows
pub rows_enough : (net : Netted) (notes : Notes) (room rows domains levels choice count n : ℕ) → IsSound net notes room rows domains levels choice count → n ≤ room → n ≤ 64 → (n ≤ rows) × (n ≤ domains) × (n ≤ choice) × (n * n ≤ levels)
rows_enough net notes room rows domains levels choice count n s low small =
    let e = s.enough n low small in let d = s.domains_room in let c = s.choice_room in
    (e, omega arith, omega arith, levels_in n rows levels e s.levels_room)

pub less_roomy : (a b : ℕ) (notes : Notes) → a ≤ b → AreRoomy b notes → AreRoomy a notes
less_roomy a b notes h r = record { alike = r.alike; columns = r.columns; domains = let x = r.domains in omega arith }

pub sound_same : (net : Netted) (notes : Notes) (room r r' d d' l l' ch ch' k k' : ℕ) → IsSound net notes room r d l ch k → r' ≡ r → d' ≡ d → l' ≡ l → ch' ≡ ch → k' ≤ r → IsSound net notes room r' d' l' ch' k'
sound_same net notes room r r' d d' l l' ch ch' k k' s er ed el ech low =
    subst (λ r. IsSound net notes room r d' l' ch' k') (sym er) (record {
      small = s.small;
      enough = s.enough;
      net_room = s.net_room;
      notes_room = s.notes_room;
      domains_room = let x = s.domains_room in omega arith;
      levels_room = subst (λ l. r * r ≤ l) (sym el) s.levels_room;
      choice_room = let x = s.choice_room in omega arith;
      count_in = low;
    })
