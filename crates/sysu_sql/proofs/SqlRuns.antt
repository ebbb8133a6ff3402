-- How a run ends, from how its schema is opened, its script is read, its SQL is told and all is handed over.
use Rattle.std.proofs.Common.{◌≡◌, ◌≤◌, ◌∙◌, ℕ, List, [], ◌∷◌, Option, Some, None, Ok, Err, Bool, true, false, refl, sym, ap, subst, inl, inr}
use Rattle.su_io.specs.declared.files.File.{File}
use Rattle.su_io.specs.declared.status.Status.{Status}
use Rattle.su_io.specs.declared.status.Status.TheVariants.{Done, SomeRefused, Usage, BadSchema, ReadFault, WriteFault, TooLong, NoMemory}
use Rattle.su_io.specs.Moments.{Moment}
use Rattle.su_io.specs.HandOver.{AllIsOver, HandsAllOver}
use Rattle.su_io.specs.Programs.{StopsOver, OneText}
use Rattle.su_io.specs.FileEnds.{FileEnds}
use Rattle.su_io.specs.WrittenTexts.{Wrote, IsTold}
use Rattle.su_io.proofs.OneText.{IsOwn, no_stop, one_of, own_of}
use Rattle.su_io.proofs.Programs.{ReadingEnds-from, WritingEnds-from, Ends-map, Ends-on, Ends-over, Tells-over, UsageEnds-on, read_within}
use Rattle.su_io.proofs.WrittenTexts.{Wrote-none}
use Rattle.su_schema.specs.SchemaValue.{SchemaValue}
use Rattle.su_session.specs.declared.replies.Reply.{Reply}
use Rattle.su_files.specs.Openings.{IsOpened, OpeningEnds}
use Rattle.su_files.specs.RunFiles.{script_limit}
use Rattle.su_files.proofs.Refusals.{Refuses}
use Rattle.su_sql.specs.Scripts.{WritesScript}
use Rattle.sysu_sql.specs.inside.Tellings.{SqlEnds, status_by}
use Rattle.sysu_sql.specs.Runs.{IsDue, IsSql, Says, RunEnds, ComesOf}
use Rattle.sysu_sql.specs.Words.{Named, usage_line}

-- ---- the schema was not opened

-- what was told of its file, by the status
says_refused : (names : Named) (files : Option (List File)) (status : Status) (texts : List (List ℕ)) → OneText (Refuses names.schema files) status texts → OneText (Says names files) status texts
says_refused names files Done texts (text, (same, line), are) = absurd (let is : Done ≡ BadSchema = same in cc)
says_refused names files SomeRefused texts (text, (same, line), are) = absurd (let is : SomeRefused ≡ BadSchema = same in cc)
says_refused names files Usage texts (text, (same, line), are) = absurd (let is : Usage ≡ BadSchema = same in cc)
says_refused names files BadSchema texts (text, (same, line), are) = (text, line, are)
says_refused names files ReadFault texts none = none
says_refused names files WriteFault texts (came, text, (same, line), are) = (BadSchema, text, line, are)
says_refused names files TooLong texts none = none
says_refused names files NoMemory texts none = none

pub not_opened : (names : Named) (old new : Moment) (status : Status) → OpeningEnds names.schema old new (Err status) → RunEnds names old new status
not_opened names old new status = Ends-map (λ path limit texts holds. (inl (holds.0, holds.1), says_refused names old.files status texts holds.2)) old new status

-- ---- the schema was opened, and the script's file begun

module _ (names : Named) (old mid late : Moment) (schema : SchemaValue) (opened : IsOpened names.schema schema old mid)
    (again : late ≡ record mid { begun = Some names.script; taken = late.taken; failed = late.failed; reads = late.reads }) where
  due : IsDue names old.files names.script script_limit
  due = inr (refl, refl, (schema, opened.accepted))

  files_are : mid.files ≡ old.files
  files_are = ap (λ (m : Moment). m.files) opened.rest

  begun_is : late.begun ≡ Some names.script
  begun_is = ap (λ (m : Moment). m.begun) again

  told_is : late.told ≡ old.told
  told_is = ap (λ (m : Moment). m.told) again ∙ ap (λ (m : Moment). m.told) opened.rest

  writes_are : late.writes ≡ old.writes
  writes_are = ap (λ (m : Moment). m.writes) again ∙ ap (λ (m : Moment). m.writes) opened.rest

  nothing : Wrote old.told late.told []
  nothing = rw told_is (Wrote-none old.told)

  all_over : AllIsOver old.told → AllIsOver late.told
  all_over before = rw told_is before

  -- there was no memory behind it
  no_memory : late.reads ≡ old.reads → late.taken ≤ script_limit → RunEnds names old late NoMemory
  no_memory same taken = inl record { path = names.script; limit = script_limit; texts = []; holds = (due, refl); begun = begun_is; reading = (same, taken); writing = (writes_are, nothing); over = tt }

  -- it was not read
  pub script_fails : (status : Status) → FileEnds names.script script_limit mid late (Err status) → RunEnds names old late status
  script_fails ReadFault ends = inl record {
    path = names.script;
    limit = script_limit;
    texts = [];
    holds = (due, refl);
    begun = begun_is;
    reading = ReadingEnds-from names.script script_limit old mid late files_are opened.reads ReadFault ends;
    writing = (writes_are, nothing);
    over = all_over;
  }
  script_fails TooLong ends = inl record {
    path = names.script;
    limit = script_limit;
    texts = [];
    holds = (due, refl);
    begun = begun_is;
    reading = ReadingEnds-from names.script script_limit old mid late files_are opened.reads TooLong ends;
    writing = (writes_are, nothing);
    over = all_over;
  }
  script_fails NoMemory ends = no_memory (ends.0 ∙ opened.reads) ends.1
  script_fails Done ends = absurd ends
  script_fails SomeRefused ends = absurd ends
  script_fails Usage ends = absurd ends
  script_fails BadSchema ends = absurd ends
  script_fails WriteFault ends = absurd ends

  -- it was read, and its SQL is told
  module _ (new : Moment) (script : List ℕ) (ends : FileEnds names.script script_limit mid late (Ok script)) where
    text_told : (came : Status) (text : List ℕ) → Says names old.files came text → OneText (Says names old.files) came (text ∷ []) → IsOwn came → (status : Status) → IsTold text came late new status → RunEnds names old new status
    text_told came text says one own status told =
        let here = own_of (Says names old.files) came text says one own status told.status_is in
        inl record {
          path = names.script;
          limit = script_limit;
          texts = text ∷ [];
          holds = (due, one_of (Says names old.files) came text says one own status told.status_is);
          begun = ap (λ (m : Moment). m.begun) told.rest ∙ begun_is;
          reading = read_within names.script script_limit old new status here.0 here.1 (ap (λ (m : Moment). m.reads) told.rest ∙ ends.0 ∙ opened.reads) (rw (ap (λ (m : Moment). m.taken) told.rest) ends.1);
          writing = WritingEnds-from (text ∷ []) old late new told_is writes_are status told.writing;
          over = no_stop status here old new;
        }

    of_sql : (reply : Reply) → WritesScript names.dialect schema script reply → IsSql names old.files reply
    of_sql reply written = record { schema = schema; script = script; read = record { accepted = opened.accepted; is_script = rw files_are at ends.2 }; writes = written }

    sql_told : (reply : Reply) → IsSql names old.files reply → (refused : Bool) → reply.refused ≡ refused → (status : Status) → IsTold reply.bytes (status_by refused) late new status → RunEnds names old new status
    sql_told reply sql true is status told =
        let says : Says names old.files SomeRefused reply.bytes = (reply, sql, is, refl) in
        text_told SomeRefused reply.bytes says (reply.bytes, says, refl) (λ e. absurd (cc), λ e. absurd (cc)) status told
    sql_told reply sql false is status told =
        let says : Says names old.files Done reply.bytes = (reply, sql, is, refl) in
        text_told Done reply.bytes says (reply.bytes, says, refl) (λ e. absurd (cc), λ e. absurd (cc)) status told

    pub script_told : (status : Status) → SqlEnds names.dialect schema script late new status → RunEnds names old new status
    script_told status (inl sql) = sql_told sql.reply (of_sql sql.reply sql.writes) sql.reply.refused refl status sql.told
    script_told status (inr none) = subst (RunEnds names old new) (sym none.0) (subst (λ (m : Moment). RunEnds names old m NoMemory) (sym none.1) (no_memory (ends.0 ∙ opened.reads) ends.1))

-- ---- a hand-over behind what the words come to

-- it leaves it so
pub comes_on : (names : Option Named) (old mid new : Moment) → HandsAllOver mid new → (status : Status) → ComesOf names old mid status → ComesOf names old new status
comes_on (Some names) old mid new hands status comes = Ends-on old mid new hands status comes
comes_on None old mid new hands status comes = UsageEnds-on old mid new hands usage_line status comes

-- where it stops at a file, nothing is left to hand over
pub comes_over : (names : Option Named) (old new : Moment) (status : Status) → ComesOf names old new status → StopsOver old new status
comes_over (Some names) old new status comes = Ends-over old new status comes
comes_over None old new status comes = Tells-over old new status comes.1
