-- A room for all of some terms is one for each of them.
use Rattle.std.proofs.Common.{◌≡◌, ◌<◌, ◌≤◌, ◌+◌, ◌∙◌, ℕ, List, [], length, get_or, Contains, sym, subst, arith, below_more}
use Rattle.std.proofs.lemmas.List.{get_or_default}
use Rattle.su_tableau.specs.Tableaux.{AreVarsBelow}
use Rattle.su_map.specs.Rooms.{Space, IsRoomFor, HasSizesOf}
use Rattle.su_map.proofs.NotedRows.{vars_below}
use Rattle.su_min.specs.Kept.{Minimised}
use Rattle.su_min.specs.Reduction.{term_at}
use Rattle.su_min.specs.inside.Rooms.{IsRoomForAll}
use Rattle.su_min.proofs.MatrixRows.{room_same, item_at}

-- a member of a list has its place there
pub member_is : (terms : List Minimised) (one : Minimised) (c : Contains terms one) → term_at terms c.0 ≡ one
member_is terms one c = let low = c.1 in get_or_default terms c.0 (term_at [] 0) one low ∙ c.2

pub room_of_one : (terms : List Minimised) (one : Minimised) (room : Space) → Contains terms one → IsRoomForAll terms room → IsRoomFor one.tableau room
room_of_one terms one room c all = subst (λ (m : Minimised). IsRoomFor m.tableau room) (member_is terms one c) (all c.0 c.1)

pub room_all_same : (terms : List Minimised) (old new : Space) → IsRoomForAll terms old → HasSizesOf old new → IsRoomForAll terms new
room_all_same terms old new all s = λ i h. room_same (term_at terms i).tableau old new (all i h) s

-- so many rows and symbols are enough for the first n terms
abbrev pub AreEnough : List Minimised → ℕ → ℕ → ℕ → Type 0
AreEnough terms n rows symbols = (k : ℕ) → k < n → (length (term_at terms k).tableau.rows ≤ rows) × AreVarsBelow symbols (term_at terms k).tableau

pub enough_more : (terms : List Minimised) (n : ℕ) (x : Minimised) (rows symbols more_rows more_symbols : ℕ)
    → n < length terms → x ≡ get_or terms n x
    → rows ≤ more_rows → length x.tableau.rows ≤ more_rows → symbols ≤ more_symbols → AreVarsBelow more_symbols x.tableau
    → AreEnough terms n rows symbols → AreEnough terms (n + 1) more_rows more_symbols
enough_more terms n x rows symbols more_rows more_symbols low at up own_rows over own_symbols before =
    below_more (λ k. (length (term_at terms k).tableau.rows ≤ more_rows) × AreVarsBelow more_symbols (term_at terms k).tableau) n
    (λ k l. let b = before k l in (let r = b.0 in omega arith, vars_below (term_at terms k).tableau symbols more_symbols over b.1))
    (subst (λ (m : Minimised). (length m.tableau.rows ≤ more_rows) × AreVarsBelow more_symbols m.tableau) (item_at terms n x low at) (own_rows, own_symbols))

pub room_enough : (terms : List Minimised) (rows symbols : ℕ) (room : Space) → AreEnough terms (length terms) rows symbols → (room.rows ≡ rows) × (room.symbols ≡ symbols) → IsRoomForAll terms room
room_enough terms rows symbols room enough is = λ i h.
    let e = enough i h in record {
      rows = let l = e.0 in let r = is.0 in omega arith;
      symbols = subst (λ n. AreVarsBelow n (term_at terms i).tableau) (sym is.1) e.1;
    }
