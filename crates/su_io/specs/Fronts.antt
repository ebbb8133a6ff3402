-- What was handed over is a front of what was written.
use Rattle.std.proofs.Common.{◌++◌, ◌∙◌, ℕ, List, [], drop, take, Option, Some, None, Bool, true, false, sym, ap, append-nil, append_assoc, take-append-drop}
use Rattle.std.proofs.lemmas.Grind.{flat_map-append}
use Rattle.su_io.specs.Ends.{IsFrontOf, says, held_behind}
use Rattle.su_io.specs.WrittenTexts.{joined}

pub front_of_all : (told : Option (List ℕ)) → IsFrontOf told told
front_of_all None = tt
front_of_all (Some all) = ([], sym (append-nil all))

pub says_front : (told : Bool) (bytes : List ℕ) → IsFrontOf (says told bytes) (says told bytes)
says_front told bytes = front_of_all (says told bytes)

-- of a sink that handed over the first pieces
pub joined_front : (told : Bool) (over : ℕ) (pieces : List (List ℕ)) → IsFrontOf (says told (joined (take over pieces))) (says told (joined pieces))
joined_front false over pieces = tt
joined_front true over pieces = (joined (drop over pieces), sym (sym (flat_map-append (λ (piece : List ℕ). piece) (take over pieces) (drop over pieces)) ∙ ap joined (take-append-drop over pieces)))

-- of a sink that holds bytes behind what the sink below it was written
pub front_behind : (over written : Option (List ℕ)) (taken : ℕ) (bytes : List ℕ) → IsFrontOf over written → IsFrontOf over (held_behind written taken bytes)
front_behind None None taken bytes front = tt
front_behind None (Some all) taken bytes front = tt
front_behind (Some over) None taken bytes front = tt
front_behind (Some over) (Some all) taken bytes (rest, is) = (rest ++ drop taken bytes, ap (λ (l : List ℕ). l ++ drop taken bytes) is ∙ append_assoc over rest (drop taken bytes))
