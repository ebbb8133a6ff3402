-- Before anything has come, and before anything is changed.
use Rattle.std.proofs.Common.{◌≡◌, ◌++◌, Bool, true, false, List, [], ◌∷◌, Option, Ok, refl, sym, subst}
use Rattle.su_io.specs.declared.files.File.{File}
use Rattle.su_io.specs.Ends.{Grew}
use Rattle.su_stream.specs.Coming.{HasCome}
use Rattle.su_state.specs.DatabaseValue.{DatabaseValue}
use Rattle.su_changes.specs.declared.changes.Change.{Change}
use Rattle.su_changes.specs.Changes.{LeadTo}
use Rattle.su_changes.proofs.Leading.{LeadTo-self}
use Rattle.su_changes.proofs.Extending.{IsExtension-self}
use Rattle.su_talk.specs.declared.talking.Talk.{Talk}
use Rattle.su_talk.specs.declared.closes.Close.TheVariants.{Done, SomeRefused}
use Rattle.su_talk.specs.Events.{Event}
use Rattle.su_talk.specs.Events.Event.{Asked}
use Rattle.su_talk.specs.Keeping.{LeadFromKept}
use Rattle.su_talk.specs.Talked.{AreAnswered, IsSound, IsTalked}
use Rattle.su_talk.specs.inside.Groups.{IsEmpty}
use Rattle.su_talk.specs.inside.Turns.{IsReady, EndsLast}
use Rattle.su_talk.proofs.Moments.{none_behind}
use Rattle.su_talk.proofs.Pieces.{begins_given}
use Rattle.su_talk.proofs.Turns.{IsSame-self, settled}

-- no change leads from what is kept to itself
pub leads_first : (Keeps : DatabaseValue → Type 0) (db : DatabaseValue) (changes : List Change) → changes ≡ [] → Keeps db → LeadFromKept Keeps changes db
leads_first Keeps db changes none keeps = (db, keeps, subst (λ (cs : List Change). LeadTo db cs db) (sym none) (LeadTo-self db), IsExtension-self db.schema)

no_asked : (before : List Event) → [] ≡ before ++ Asked ∷ [] → ⊥
no_asked [] same = absurd cc
no_asked (e ∷ before) same = absurd cc

module _ (files : Option (List File)) (talk : Talk) (come : HasCome [] [] talk.stream) (empty : IsEmpty talk.group) where
  nothing : AreAnswered talk.manner.frames files talk.session [] [] talk.session
  nothing = record { pieces = record { fit = tt; front = begins_given [] false [] talk.stream come }; answered = refl }

  sound : IsSound talk.manner.frames files talk.session []
  sound = record {
    told = [];
    told_is = refl;
    next = [];
    last = talk.session;
    answered = nothing;
    kept = IsSame-self talk.session;
    up_to_date = λ before same. absurd (no_asked before same);
  }

  pub ready_first : talk.count ≡ 0 → talk.refused ≡ false → IsReady files talk.session [] [] talk
  ready_first count refused = record {
    at = settled files talk.session [] [] talk [] (record {
      answered = nothing;
      told_is = refl;
      kept = IsSame-self talk.session;
      no_fault = refl;
      sound = λ front rest same. subst (IsSound talk.manner.frames files talk.session) (sym (none_behind front rest same)) sound;
    }) refl count refused empty.replies;
    come = come;
    going = refl;
  }

-- it came to its end
pub talked_done : (frames refused : Bool) (files : Option (List File)) (first : DatabaseValue) (before now : Option (List Event)) → refused ≡ false → EndsLast files first [] frames refused before now (Ok tt)
    → (events : List Event) × Grew before now events × IsTalked frames files first events Done
talked_done frames refused files first before now same (events, grew, sound, finished) = (events, grew, record { sound = sound; ends = rw same at finished })

pub talked_refused : (frames refused : Bool) (files : Option (List File)) (first : DatabaseValue) (before now : Option (List Event)) → refused ≡ true → EndsLast files first [] frames refused before now (Ok tt)
    → (events : List Event) × Grew before now events × IsTalked frames files first events SomeRefused
talked_refused frames refused files first before now same (events, grew, sound, finished) = (events, grew, record { sound = sound; ends = rw same at finished })
