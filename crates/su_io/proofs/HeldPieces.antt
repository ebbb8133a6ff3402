-- What is over at a sink in memory stays so.
use Rattle.std.proofs.Common.{◌≡◌, ◌≤◌, ◌+◌, ◌++◌, ◌&&◌, ◌∙◌, ℕ, List, [], ◌∷◌, Bool, true, false, cond, take, drop, length, length-append, nat_le, sym, ap, arith, take-append-drop}
use Rattle.std.proofs.lemmas.Bool.{leb-true}
use Rattle.std.proofs.lemmas.Grind.{flat_map-append}
use Rattle.std.proofs.lemmas.List.{take_all, take-append-le}
use Rattle.su_io.specs.Ends.{Extends, says}
use Rattle.su_io.specs.WrittenTexts.{joined}
use Rattle.su_io.proofs.WrittenPieces.{Extends-refl}

-- bytes were kept up to a room, and are told no more where they didn't fit
pub kept_over : (told all : Bool) (room : ℕ) (old bytes new : List ℕ) → new ≡ take room (old ++ bytes) → all ≡ nat_le (length old + length bytes) room → Extends (says told old) (says (told && all) new)
kept_over false all room old bytes new stored fits = ([], tt)
kept_over true false room old bytes new stored fits = ([], tt)
kept_over true true room old bytes new stored fits = (bytes, stored ∙ take_all room (old ++ bytes) (let long = length-append old bytes in let all = leb-true (length old + length bytes) room (sym fits) in omega (arith, long, all)))

-- all pieces are over now
pub all_over : (told : Bool) (n m : ℕ) (pieces : List (List ℕ)) → length pieces ≤ m → Extends (says told (joined (take n pieces))) (says told (joined (take m pieces)))
all_over false n m pieces upto = ([], tt)
all_over true n m pieces upto = (
  joined (drop n pieces),
  ap joined (take_all m pieces upto ∙ sym (take-append-drop n pieces)) ∙ flat_map-append (λ (piece : List ℕ). piece) (take n pieces) (drop n pieces),
)

-- one piece more was taken, or none and it is not told
pub one_held : (told kept : Bool) (n : ℕ) (pieces : List (List ℕ)) (piece : List ℕ) → n ≤ length pieces
    → Extends (says told (joined (take n pieces))) (says (told && kept) (joined (take n (cond kept (pieces ++ piece ∷ []) pieces))))
one_held false kept n pieces piece within = ([], tt)
one_held true false n pieces piece within = ([], tt)
one_held true true n pieces piece within = rw (take-append-le n pieces (piece ∷ []) within) (Extends-refl (says true (joined (take n pieces))))
