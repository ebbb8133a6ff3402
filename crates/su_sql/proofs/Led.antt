-- Parts behind a text each: the first of them, and the others.
use Rattle.std.proofs.Common.{◌≡◌, ℕ, List, [], ◌∷◌, ◌++◌, flat_map, sym, ap, ◌∙◌, append_assoc}
use Rattle.su_sql.specs.Names.{led}

pub led-first : (first next part : List ℕ) (parts : List (List ℕ)) → led first next (part ∷ parts) ≡ first ++ part ++ led next next parts
led-first first next part [] = sym (append_assoc first part [])
led-first first next part (p ∷ ps) =
    ap (λ t. first ++ (part ++ t)) (append_assoc next p (flat_map (λ (y : List ℕ). next ++ y) ps)) ∙ sym (append_assoc first part (led next next (p ∷ ps)))
