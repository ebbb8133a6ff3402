-- What a statement was handed.
use Rattle.std.proofs.Common.{◌≡◌, ◌∙◌, ℕ, List, [], ◌∷◌, Result, Option, Some, None, Err, Ok, inl, inr, refl, sym, ap, subst}
use Rattle.su_io.specs.Causes.{Rose}
use Rattle.su_io.specs.declared.status.Status.{Status}
use Rattle.su_io.specs.declared.status.Status.TheVariants.{Done, SomeRefused, Usage, BadSchema, ReadFault, WriteFault, TooLong, NoMemory}
use Rattle.su_io.specs.Moments.{Moment}
use Rattle.su_io.specs.HandOver.{HandsAllOver}
use Rattle.su_io.specs.WrittenTexts.{Wrote, WroteFront}
use Rattle.su_io.specs.FileEnds.{FileEnds}
use Rattle.su_io.proofs.Programs.{FileEnds-from}
use Rattle.su_io.proofs.WrittenTexts.{Wrote-none, Wrote-trans, WroteFront-behind}
use Rattle.su_session.specs.declared.replies.Reply.{Reply}
use Rattle.su_session.specs.declared.wants.Want.TheVariants.{File}
use Rattle.su_session.specs.Reply.{Replied}
use Rattle.su_session.specs.WantedFiles.{Wants}
use Rattle.su_state.specs.DatabaseValue.{DatabaseValue, IsWellKept}
use Rattle.sysu.specs.inside.HandedFiles.{Began, BeginsOver, LoadingEnds, HandingEnds, HasTaken}
use Rattle.sysu.specs.inside.Turns.{AnsweredOne, TurnEnds}
use Rattle.su_replies.specs.Handed.{IsHanded, load_limit}

-- a file is begun behind a hand-over
pub begins_over : (path : List ℕ) (old mid new : Moment) → HandsAllOver old mid → new ≡ record mid { begun = Some path; taken = new.taken; failed = new.failed; reads = new.reads } → BeginsOver path old new
begins_over path old mid new hands shelf =
    let told : new.told ≡ mid.told = ap (λ (m : Moment). m.told) shelf in
    record {
      begun = ap (λ (m : Moment). m.begun) shelf;
      told = rw told hands.only.told;
      all = rw told hands.all;
      writes = ap (λ (m : Moment). m.writes) shelf ∙ hands.writes;
    }

-- and read there
pub loaded : (path : List ℕ) (old mid new : Moment) → mid.files ≡ old.files → mid.reads ≡ old.reads → BeginsOver path old new → (result : Result (List ℕ) Status) → FileEnds path load_limit mid new result → LoadingEnds path old new result
loaded path old mid new files reads begins (Ok bytes) ends = (begins, FileEnds-from path load_limit old mid new files reads (Ok bytes) ends)
loaded path old mid new files reads begins (Err Done) ends = absurd ends
loaded path old mid new files reads begins (Err SomeRefused) ends = absurd ends
loaded path old mid new files reads begins (Err Usage) ends = absurd ends
loaded path old mid new files reads begins (Err BadSchema) ends = absurd ends
loaded path old mid new files reads begins (Err ReadFault) ends = (begins, FileEnds-from path load_limit old mid new files reads (Err ReadFault) ends)
loaded path old mid new files reads begins (Err WriteFault) ends = absurd ends
loaded path old mid new files reads begins (Err TooLong) ends = (begins, FileEnds-from path load_limit old mid new files reads (Err TooLong) ends)
loaded path old mid new files reads begins (Err NoMemory) ends = (begins, FileEnds-from path load_limit old mid new files reads (Err NoMemory) ends)

untouched : (db : DatabaseValue) (text : List ℕ) (old new : Moment) → new ≡ old → HasTaken db text old new
untouched db text old new same = record { reads = ap (λ (m : Moment). m.reads) same; took = inl (ap (λ (m : Moment). m.begun) same, ap (λ (m : Moment). m.taken) same) }

unwritten : (old new : Moment) → new ≡ old → Wrote old.told new.told []
unwritten old new same = rw same (Wrote-none old.told)

begun_at : (db : DatabaseValue) (text path : List ℕ) (old new : Moment) → Wants db text (File path) → BeginsOver path old new → Began db text path new
begun_at db text path old new wants begins = record { wanted = wants; begun = begins.begun }

-- no fault, no more than the limit was taken, and the bytes are those of the file that is wanted
pub handed_well : (db : DatabaseValue) (text : List ℕ) (old new : Moment) (file : Option (List ℕ)) → HandingEnds db text old new (Ok file) → HasTaken db text old new × IsHanded old.files db text file
handed_well db text old new None ends = (untouched db text old new ends.1, ends.0)
handed_well db text old new (Some bytes) ends =
    let read = ends.2.1 in
    (record { reads = read.0; took = inr (ends.0, begun_at db text ends.0 old new ends.1 ends.2.0, read.1) }, (ends.0, ends.1, read.2))

-- nothing was written, and no call of the sink failed
pub handed_silently : (db : DatabaseValue) (text : List ℕ) (old new : Moment) (file : Option (List ℕ)) → HandingEnds db text old new (Ok file) → Wrote old.told new.told [] × (new.writes ≡ old.writes)
handed_silently db text old new None ends = (unwritten old new ends.1, ap (λ (m : Moment). m.writes) ends.1)
handed_silently db text old new (Some bytes) ends = (ends.2.0.told, ends.2.0.writes)

-- where the file isn't handed over, the statement ends as its handing does
module _ (db : DatabaseValue) (text : List ℕ) (old new : Moment) where
  stops : (path : List ℕ) → Wants db text (File path) → (status : Status) → LoadingEnds path old new (Err status) → TurnEnds db text db old new (Err status)
  stops path wants ReadFault ends = record { path = path; began = begun_at db text path old new wants ends.0; reading = ends.1; told = ends.0.told; all = ends.0.all; writes = ends.0.writes }
  stops path wants TooLong ends = record { path = path; began = begun_at db text path old new wants ends.0; reading = ends.1; told = ends.0.told; all = ends.0.all; writes = ends.0.writes }
  stops path wants NoMemory ends = (record { reads = ends.1.0; took = inr (path, begun_at db text path old new wants ends.0, ends.1.1) }, ends.0.writes, ends.0.told)
  stops path wants Done ends = ends.1
  stops path wants SomeRefused ends = ends.1
  stops path wants Usage ends = ends.1
  stops path wants BadSchema ends = ends.1
  stops path wants WriteFault ends = inr ends

  pub turn_fault : (status : Status) → HandingEnds db text old new (Err status) → TurnEnds db text db old new (Err status)
  turn_fault status (inl none) =
      subst (λ (s : Status). TurnEnds db text db old new (Err s)) (sym none.0) (untouched db text old new none.1, ap (λ (m : Moment). m.writes) none.1, unwritten old new none.1)
  turn_fault status (inr ends) = stops ends.0 ends.1 status ends.2

-- there was no memory for the statement
pub none_read : (db : DatabaseValue) (text : List ℕ) (old : Moment) → TurnEnds db text db old old (Err NoMemory)
none_read db text old = (untouched db text old old refl, refl, Wrote-none old.told)

-- the statement was handed its file
module _ (db next : DatabaseValue) (text : List ℕ) (file : Option (List ℕ)) (old mid : Moment) (ends : HandingEnds db text old mid (Ok file)) where
  told_so : Wrote old.told mid.told []
  told_so = (handed_silently db text old mid file ends).0

  writes_are : mid.writes ≡ old.writes
  writes_are = (handed_silently db text old mid file ends).1

  -- there was no memory for its reply
  pub no_reply : TurnEnds db text next old mid (Err NoMemory)
  no_reply = ((handed_well db text old mid file ends).0, writes_are, told_so)

  -- its reply was told
  module _ (new : Moment) (sink : new ≡ record mid { told = new.told; writes = new.writes }) (reply : Reply) (replied : Replied db text file reply next) (kept : IsWellKept db) where
    taken_on : HasTaken db text old mid → HasTaken db text old new
    taken_on taken = record {
      reads = ap (λ (m : Moment). m.reads) sink ∙ taken.reads;
      took = elim taken.took [
        | inl same ↦ inl (ap (λ (m : Moment). m.begun) sink ∙ same.0, ap (λ (m : Moment). m.taken) sink ∙ same.1)
        | inr one ↦ inr (
          one.0,
          record { wanted = one.1.wanted; begun = ap (λ (m : Moment). m.begun) sink ∙ one.1.begun },
          rw (ap (λ (m : Moment). m.taken) sink) one.2,
        )
      ];
    }

    answered : AnsweredOne old.files db text next reply
    answered = record { file = file; handed = (handed_well db text old mid file ends).1; replied = replied; kept = kept }

    pub told_whole : (new.writes ≡ mid.writes) × Wrote mid.told new.told (reply.bytes ∷ []) → TurnEnds db text next old new (Ok reply.refused)
    told_whole wrote = (taken_on (handed_well db text old mid file ends).0, wrote.0 ∙ writes_are, (reply, answered, refl, Wrote-trans old.told mid.told new.told [] (reply.bytes ∷ []) told_so wrote.1))

    pub told_front : Rose mid.writes new.writes × WroteFront mid.told new.told (reply.bytes ∷ []) → TurnEnds db text next old new (Err WriteFault)
    told_front wrote = inl record {
      took = taken_on (handed_well db text old mid file ends).0;
      rose = subst (λ (n : ℕ). Rose n new.writes) writes_are wrote.0;
      reply = reply;
      answered = answered;
      front = WroteFront-behind old.told mid.told new.told [] (reply.bytes ∷ []) told_so wrote.1;
    }
