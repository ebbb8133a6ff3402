-- Facts of results.
use Rattle.std.proofs.Common.{◌≡◌, ◌++◌, ◌∷◌, [], List, Option, Result, Ok, Err, OnOk, IfErr, refl, sym, subst}
use Rattle.su_io.specs.Ends.{Grew}
use Rattle.su_io.proofs.WrittenPieces.{Grew-trans}
use Rattle.su_state.specs.DatabaseValue.{DatabaseValue}
use Rattle.su_talk.specs.declared.closes.Close.{Close}
use Rattle.su_talk.specs.declared.closes.Close.TheVariants.{WriteFault}
use Rattle.su_talk.specs.declared.groups.Group.{Group}
use Rattle.su_talk.specs.Events.{Event}
use Rattle.su_talk.specs.Events.Event.{NotTold}
use Rattle.su_talk.specs.inside.Groups.{keeping, FailsToClose}

pub on_ok : {E : Type 0} (r : Result (Unit {0}) E) (P : Type 0) → P → OnOk r P
on_ok (Ok x) P p = p
on_ok (Err e) P p = tt

pub on_ok_then : {E : Type 0} (r : Result (Unit {0}) E) (P Q : Type 0) → (P → Q) → OnOk r P → OnOk r Q
on_ok_then (Ok x) P Q f p = f p
on_ok_then (Err e) P Q f p = tt

pub fails_told : (r : Result (Unit {0}) Close) (group : Group) (db : DatabaseValue) (before between now : Option (List Event)) → Grew before between (keeping group.changed db)
    → IfErr r (λ close. (close ≡ WriteFault) × Grew between now (NotTold group.replies.items ∷ [])) → IfErr r (λ close. FailsToClose close group db before now)
fails_told (Ok x) group db before between now kept h = tt
fails_told (Err close) group db before between now kept (is, told) =
    subst (λ (c : Close). FailsToClose c group db before now) (sym is)
    (keeping group.changed db ++ NotTold group.replies.items ∷ [], refl, Grew-trans before between now (keeping group.changed db) (NotTold group.replies.items ∷ []) kept told)
