-- The place of the item put at the end is the old length, so filling that item changes the last one and no other.
use Rattle.std.proofs.Common.{◌≡◌, List, [], ◌∷◌, ◌++◌, length, slice_set, refl, ap}
use Rattle.su_base.proofs.values.List+Value.push_text.Goals as goal

-- the item at the end is another
set-last : {A : Type 0} (xs : List A) (old new : A) → slice_set (xs ++ old ∷ []) (length xs) new ≡ xs ++ new ∷ []
set-last [] old new = refl
set-last (x ∷ xs) old new = ap (λ more. x ∷ more) (set-last xs old new)

pub returns-clause-ok : goal.returns-clause-ok
returns-clause-ok c = rw (c.self.view_is, c.in_ok-push.ensures.ok, c.len-place.ensures, c.fill.ensures) (set-last c.args.self.now _ _)
