-- Fronts of what was to be added.
use Rattle.std.proofs.Common.{◌≡◌, List, [], ◌++◌, refl, ap, sym, ◌∙◌, append_assoc, append-nil}
use Rattle.su_lex.specs.AddedFronts.{AddsFront}

pub adds_none : {X : Type 0} (old new all : List X) → new ≡ old → AddsFront old new all
adds_none old new all e = record { front = []; rest = all; whole = refl; added = e ∙ sym (append-nil old) }

pub adds_all : {X : Type 0} (old new all : List X) → new ≡ old ++ all → AddsFront old new all
adds_all old new all e = record { front = all; rest = []; whole = sym (append-nil all); added = e }

-- a front of the first part is one of the whole
pub adds_first : {X : Type 0} (old new first later : List X) → AddsFront old new first → AddsFront old new (first ++ later)
adds_first old new first later a =
    record { front = a.front; rest = a.rest ++ later; whole = ap (λ s. s ++ later) a.whole ∙ append_assoc a.front a.rest later; added = a.added }

-- so is the first part with a front of the later one
pub adds_later : {X : Type 0} (old mid new first later : List X) → mid ≡ old ++ first → AddsFront mid new later → AddsFront old new (first ++ later)
adds_later old mid new first later e a =
    record {
      front = first ++ a.front;
      rest = a.rest;
      whole = ap (λ s. first ++ s) a.whole ∙ sym (append_assoc first a.front a.rest);
      added = a.added ∙ ap (λ s. s ++ a.front) e ∙ append_assoc old first a.front;
    }
