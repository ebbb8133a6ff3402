-- How a run ends, from how its schema is opened, its script is read and answered, its report is told and all is handed over.
use Rattle.std.proofs.Common.{◌≡◌, ◌≤◌, ◌||◌, ◌∙◌, ◌++◌, ℕ, List, [], ◌∷◌, Option, Some, None, Ok, Err, Bool, true, false, refl, sym, ap, subst, inl, inr, append-nil}
use Rattle.su_io.specs.declared.files.File.{File as AFile}
use Rattle.su_io.specs.declared.status.Status.{Status}
use Rattle.su_io.specs.declared.status.Status.TheVariants.{Done, SomeRefused, Usage, BadSchema, ReadFault, WriteFault, TooLong, NoMemory}
use Rattle.su_io.specs.Moments.{Moment}
use Rattle.su_io.specs.HandOver.{AllIsOver, HandsAllOver}
use Rattle.su_io.specs.Programs.{StopsOver, OneText}
use Rattle.su_io.specs.FileEnds.{FileEnds}
use Rattle.su_io.specs.WrittenTexts.{Wrote, IsTold}
use Rattle.su_io.proofs.OneText.{IsOwn, no_stop, one_of, own_of}
use Rattle.su_io.proofs.Programs.{ReadingEnds-from, WritingEnds-from, Ends-map, Ends-on, Ends-over, Tells-over, UsageEnds-on, read_within}
use Rattle.su_io.proofs.WrittenTexts.{Wrote-none}
use Rattle.su_files.specs.Openings.{IsOpened, OpeningEnds}
use Rattle.su_files.specs.RunFiles.{schema_limit, script_limit, AreRead}
use Rattle.su_files.proofs.Refusals.{Refuses}
use Rattle.su_lex.specs.declared.spans.Span.{Span}
use Rattle.su_lex.specs.Pieces.{Pieces}
use Rattle.su_replies.specs.Handed.{load_limit}
use Rattle.su_replies.specs.Output.{Answered, texts_of}
use Rattle.su_schema.specs.SchemaValue.{SchemaValue}
use Rattle.su_session.specs.EmptyDatabase.{empty_database}
use Rattle.su_session.specs.declared.replies.Reply.{Reply}
use Rattle.su_state.specs.DatabaseValue.{DatabaseValue}
use Rattle.sysu_doctor.specs.inside.Tellings.{status_by, ReportEnds}
use Rattle.sysu_doctor.specs.declared.findings.Findings.{Findings}
use Rattle.sysu_doctor.specs.inside.Turns.{OnlyReads, WantsFile, Stays, AreRefusals, AnsweredAll, StopsIn, ScriptEnds}
use Rattle.sysu_doctor.specs.Runs.{IsLookedAt, IsDiagnosis, IsDue, Says, RunEnds, ComesOf}
use Rattle.sysu_doctor.specs.Words.{Named, usage_line}

-- ---- the schema was not opened

-- what was told of its file, by the status
says_refused : (names : Named) (files : Option (List AFile)) (status : Status) (texts : List (List ℕ)) → OneText (Refuses names.schema files) status texts → OneText (Says names files) status texts
says_refused names files Done texts (text, (same, line), are) = absurd (let is : Done ≡ BadSchema = same in cc)
says_refused names files SomeRefused texts (text, (same, line), are) = absurd (let is : SomeRefused ≡ BadSchema = same in cc)
says_refused names files Usage texts (text, (same, line), are) = absurd (let is : Usage ≡ BadSchema = same in cc)
says_refused names files BadSchema texts (text, (same, line), are) = (text, line, are)
says_refused names files ReadFault texts none = none
says_refused names files WriteFault texts (came, text, (same, line), are) = (BadSchema, text, line, are)
says_refused names files TooLong texts none = none
says_refused names files NoMemory texts none = none

pub not_opened : (names : Named) (old new : Moment) (status : Status) → OpeningEnds names.schema old new (Err status) → RunEnds names old new status
not_opened names old new status = Ends-map (λ path limit texts holds. (inl (holds.0, holds.1), says_refused names old.files status texts holds.2)) old new status

-- ---- where the outside stands: at a file that was due, of which no more was taken than its limit; nothing was written

pub record Stands (names : Named) (old now : Moment) : Type 0 where
  pub path : List ℕ
  pub limit : ℕ
  pub due : IsDue names old.files path limit
  pub begun : now.begun ≡ Some path
  pub reads : now.reads ≡ old.reads
  pub taken : now.taken ≤ limit
  pub files : now.files ≡ old.files
  pub told : now.told ≡ old.told
  pub writes : now.writes ≡ old.writes

pub at_schema : (names : Named) (old new : Moment) (schema : SchemaValue) → IsOpened names.schema schema old new → Stands names old new
at_schema names old new schema opened = record {
  path = names.schema;
  limit = schema_limit;
  due = inl (refl, refl);
  begun = ap (λ (m : Moment). m.begun) opened.rest;
  reads = opened.reads;
  taken = opened.taken;
  files = ap (λ (m : Moment). m.files) opened.rest;
  told = ap (λ (m : Moment). m.told) opened.rest;
  writes = ap (λ (m : Moment). m.writes) opened.rest;
}

-- ---- a run that ends there

module _ (names : Named) (old late : Moment) (stands : Stands names old late) where
  nothing : (m : Moment) → m.told ≡ old.told → Wrote old.told m.told []
  nothing m same = rw same (Wrote-none old.told)

  -- for want of memory
  pub no_memory : RunEnds names old late NoMemory
  no_memory = inl record {
    path = stands.path;
    limit = stands.limit;
    texts = [];
    holds = (stands.due, refl);
    begun = stands.begun;
    reading = (stands.reads, stands.taken);
    writing = (stands.writes, nothing late stands.told);
    over = tt;
  }

  -- since the next file isn't read
  module _ (path : List ℕ) (limit : ℕ) (due : IsDue names old.files path limit) (new : Moment) (begun : new.begun ≡ Some path) (only : OnlyReads late new) where
    still_told : new.told ≡ old.told
    still_told = ap (λ (m : Moment). m.told) only ∙ stands.told

    still_writes : new.writes ≡ old.writes
    still_writes = ap (λ (m : Moment). m.writes) only ∙ stands.writes

    all_over : AllIsOver old.told → AllIsOver new.told
    all_over before = rw still_told before

    pub file_fails : (status : Status) → FileEnds path limit late new (Err status) → RunEnds names old new status
    file_fails ReadFault ends = inl record {
      path = path;
      limit = limit;
      texts = [];
      holds = (due, refl);
      begun = begun;
      reading = ReadingEnds-from path limit old late new stands.files stands.reads ReadFault ends;
      writing = (still_writes, nothing new still_told);
      over = all_over;
    }
    file_fails TooLong ends = inl record {
      path = path;
      limit = limit;
      texts = [];
      holds = (due, refl);
      begun = begun;
      reading = ReadingEnds-from path limit old late new stands.files stands.reads TooLong ends;
      writing = (still_writes, nothing new still_told);
      over = all_over;
    }
    file_fails NoMemory ends = inl record {
      path = path;
      limit = limit;
      texts = [];
      holds = (due, refl);
      begun = begun;
      reading = ReadingEnds-from path limit old late new stands.files stands.reads NoMemory ends;
      writing = (still_writes, nothing new still_told);
      over = tt;
    }
    file_fails Done ends = absurd ends
    file_fails SomeRefused ends = absurd ends
    file_fails Usage ends = absurd ends
    file_fails BadSchema ends = absurd ends
    file_fails WriteFault ends = absurd ends

  -- since its report is told
  module _ (new : Moment) where
    text_told : (came : Status) (text : List ℕ) → Says names old.files came text → OneText (Says names old.files) came (text ∷ []) → IsOwn came → (status : Status) → IsTold text came late new status → RunEnds names old new status
    text_told came text says one own status told =
        let here = own_of (Says names old.files) came text says one own status told.status_is in
        inl record {
          path = stands.path;
          limit = stands.limit;
          texts = text ∷ [];
          holds = (stands.due, one_of (Says names old.files) came text says one own status told.status_is);
          begun = ap (λ (m : Moment). m.begun) told.rest ∙ stands.begun;
          reading = read_within stands.path stands.limit old new status here.0 here.1 (ap (λ (m : Moment). m.reads) told.rest ∙ stands.reads) (rw (ap (λ (m : Moment). m.taken) told.rest) stands.taken);
          writing = WritingEnds-from (text ∷ []) old late new stands.told stands.writes status told.writing;
          over = no_stop status here old new;
        }

    diagnosis_told : (ill : Bool) (text : List ℕ) → IsDiagnosis names old.files ill text → (status : Status) → IsTold text (status_by ill) late new status → RunEnds names old new status
    diagnosis_told true text says status told = text_told SomeRefused text says (text, says, refl) (λ e. absurd (cc), λ e. absurd (cc)) status told
    diagnosis_told false text says status told = text_told Done text says (text, says, refl) (λ e. absurd (cc), λ e. absurd (cc)) status told

    pub report_told : (schema : SchemaValue) (replies : List Reply) (found : Findings) → AreRefusals replies found → IsLookedAt names old.files schema replies → (status : Status) → ReportEnds schema found late new status → RunEnds names old new status
    report_told schema replies found are looked status (inl tells) =
        diagnosis_told (found.fault || tells.report.fault) (found.lines ++ tells.report.bytes) record {
          schema = schema;
          replies = replies;
          looked_at = looked;
          report = tells.report;
          report_is = tells.report_is;
          text_is = ap (λ t. t ++ tells.report.bytes) are.lines_are;
          ill_is = ap (λ b. b || tells.report.fault) are.fault_is;
        } status tells.told
    report_told schema replies found are looked status (inr none) = subst (RunEnds names old new) (sym none.0) (subst (λ (m : Moment). RunEnds names old m NoMemory) (sym none.1) no_memory)

-- ---- the script's file was begun behind an accepted schema

module _ (names : Named) (path : List ℕ) (named : names.script ≡ Some path) (old mid late : Moment) (schema : SchemaValue) (opened : IsOpened names.schema schema old mid)
    (again : late ≡ record mid { begun = Some path; taken = late.taken; failed = late.failed; reads = late.reads }) where
  script_due : IsDue names old.files path script_limit
  script_due = inr (inl (named, refl, (schema, opened.accepted)))

  script_begun : late.begun ≡ Some path
  script_begun = ap (λ (m : Moment). m.begun) again

  only_begun : OnlyReads mid late
  only_begun = again ∙ ap (λ (b : Option (List ℕ)). record mid { begun = b; taken = late.taken; failed = late.failed; reads = late.reads }) (sym script_begun)

  pub script_fails : (status : Status) → FileEnds path script_limit mid late (Err status) → RunEnds names old late status
  script_fails status ends = file_fails names old mid (at_schema names old mid schema opened) path script_limit script_due late script_begun only_begun status ends

  module _ (script : List ℕ) (ends : FileEnds path script_limit mid late (Ok script)) where
    opened_stands : Stands names old mid
    opened_stands = at_schema names old mid schema opened

    pub at_script : Stands names old late
    at_script = record {
      path = path;
      limit = script_limit;
      due = script_due;
      begun = script_begun;
      reads = ends.0 ∙ opened.reads;
      taken = ends.1;
      files = ap (λ (m : Moment). m.files) again ∙ opened_stands.files;
      told = ap (λ (m : Moment). m.told) again ∙ opened_stands.told;
      writes = ap (λ (m : Moment). m.writes) again ∙ opened_stands.writes;
    }

    are_read : AreRead names.schema path old.files schema script
    are_read = record { accepted = opened.accepted; is_script = rw opened_stands.files at ends.2 }

    -- its statements, each at these spans
    module _ (new : Moment) (only : OnlyReads late new) (spans : List Span) (pieces : Pieces script spans) where
      wanted_due : (file : List ℕ) → WantsFile late.files (empty_database schema) (texts_of script spans) file → IsDue names old.files file load_limit
      wanted_due file wants = inr (inr (
        refl,
        (
          wants.replies,
          wants.last,
          wants.load,
          wants.left,
          record {
            path = path;
            path_is = named;
            schema = schema;
            script = script;
            read = are_read;
            spans = spans;
            pieces = pieces;
            done = wants.done;
            statements = wants.texts_are;
            answered = subst (λ (files : Option (List AFile)). Answered files (empty_database schema) wants.done wants.replies wants.last) at_script.files wants.answered;
          },
          wants.wanted,
        ),
      ))

      stands_on : Stays (empty_database schema) (texts_of script spans) late new → Stands names old new
      stands_on (inl same) = subst (Stands names old) (sym same) at_script
      stands_on (inr (file, wants, begun, reads, taken)) = record {
        path = file;
        limit = load_limit;
        due = wanted_due file wants;
        begun = begun;
        reads = reads ∙ at_script.reads;
        taken = taken;
        files = ap (λ (m : Moment). m.files) only ∙ at_script.files;
        told = ap (λ (m : Moment). m.told) only ∙ at_script.told;
        writes = ap (λ (m : Moment). m.writes) only ∙ at_script.writes;
      }

      stops : (status : Status) → StopsIn (empty_database schema) (texts_of script spans) late new status → RunEnds names old new status
      stops status (inl (file, wants, begun, failing)) = file_fails names old late at_script file load_limit (wanted_due file wants) new begun only status failing
      stops status (inr (none, stays)) = subst (RunEnds names old new) (sym none) (no_memory names old new (stands_on stays))

      looked_at : (last : DatabaseValue) (found : Findings) → (all : AnsweredAll (empty_database schema) (texts_of script spans) last found late new) → IsLookedAt names old.files last.schema all.replies
      looked_at last found all = inr (
        last,
        record {
          path = path;
          path_is = named;
          schema = schema;
          script = script;
          read = are_read;
          spans = spans;
          pieces = pieces;
          done = texts_of script spans;
          statements = sym (append-nil (texts_of script spans));
          answered = subst (λ (files : Option (List AFile)). Answered files (empty_database schema) (texts_of script spans) all.replies last) at_script.files all.answered;
        },
        refl,
      )

    -- the script stopped
    pub script_stops : (last : DatabaseValue) (new : Moment) → OnlyReads late new → (status : Status) → ScriptEnds (empty_database schema) script last late new (Err status) → RunEnds names old new status
    script_stops last new only status (inl (spans, pieces, in')) = stops new only spans pieces status in'
    script_stops last new only status (inr (none, same)) = subst (RunEnds names old new) (sym none) (subst (λ (m : Moment). RunEnds names old m NoMemory) (sym same) (no_memory names old late at_script))

    -- it was answered, and the report on what it leaves is told
    pub script_told : (last : DatabaseValue) (new end : Moment) → OnlyReads late new → (found : Findings) → ScriptEnds (empty_database schema) script last late new (Ok found) → (status : Status) → ReportEnds last.schema found new end status → RunEnds names old end status
    script_told last new end only found (spans, pieces, all) status told =
        report_told names old new (stands_on new only spans pieces all.stays) end last.schema all.replies found all.found_are (looked_at new only spans pieces last found all) status told

-- ---- a hand-over behind what the words come to

-- it leaves it so
pub comes_on : (names : Option Named) (old mid new : Moment) → HandsAllOver mid new → (status : Status) → ComesOf names old mid status → ComesOf names old new status
comes_on (Some names) old mid new hands status comes = Ends-on old mid new hands status comes
comes_on None old mid new hands status comes = UsageEnds-on old mid new hands usage_line status comes

-- where it stops at a file, nothing is left to hand over
pub comes_over : (names : Option Named) (old new : Moment) (status : Status) → ComesOf names old new status → StopsOver old new status
comes_over (Some names) old new status comes = Ends-over old new status comes
comes_over None old new status comes = Tells-over old new status comes.1
