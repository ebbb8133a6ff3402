-- How a run ends, from how its schema is opened and its script is read and answered.
use Rattle.std.proofs.Common.{◌≡◌, ◌≤◌, ◌∙◌, ℕ, List, [], Option, Some, Ok, Err, refl, ap, subst, inl, inr}
use Rattle.su_io.specs.declared.files.File.{File}
use Rattle.su_io.specs.declared.status.Status.{Status}
use Rattle.su_io.specs.declared.status.Status.TheVariants.{Done, SomeRefused, Usage, BadSchema, ReadFault, WriteFault, TooLong, NoMemory}
use Rattle.su_io.specs.Moments.{Moment}
use Rattle.su_io.specs.FileEnds.{FileEnds}
use Rattle.su_io.specs.HandOver.{AllIsOver}
use Rattle.su_io.specs.Programs.{OneText}
use Rattle.su_io.specs.WrittenTexts.{Wrote}
use Rattle.su_io.proofs.Programs.{ReadingEnds-from, WritingEnds-from, StopsOver-from, Ends-map}
use Rattle.su_io.proofs.WrittenTexts.{Wrote-none}
use Rattle.su_schema.specs.SchemaValue.{SchemaValue}
use Rattle.su_files.specs.Openings.{IsOpened, OpeningEnds}
use Rattle.su_files.specs.RunFiles.{schema_limit, script_limit}
use Rattle.su_files.proofs.Refusals.{Refuses}
use Rattle.sysu.specs.Due.{FallsDue}
use Rattle.sysu.specs.inside.Turns.{IsAtScript, ScriptEnds}
use Rattle.sysu.specs.Statuses.{RunHas, RunEnds}
use Rattle.sysu.specs.Words.{Named}

-- ---- the schema was not opened

-- what was told of its file, by the status
has_refused : (names : Named) (files : Option (List File)) (status : Status) (texts : List (List ℕ)) → OneText (Refuses names.schema files) status texts → RunHas names files status names.schema schema_limit texts
has_refused names files Done texts (text, (same, line), are) = absurd (let is : Done ≡ BadSchema = same in cc)
has_refused names files SomeRefused texts (text, (same, line), are) = absurd (let is : SomeRefused ≡ BadSchema = same in cc)
has_refused names files Usage texts (text, (same, line), are) = absurd (let is : Usage ≡ BadSchema = same in cc)
has_refused names files BadSchema texts (text, (same, line), are) = (refl, refl, (text, line, are))
has_refused names files ReadFault texts none = inl (none, refl, refl)
has_refused names files WriteFault texts (came, text, (same, line), are) = inl (refl, refl, (text, line, are))
has_refused names files TooLong texts none = inl (none, refl, refl)
has_refused names files NoMemory texts none = (([], inl (refl, refl, refl)), inl none)

refused_has : (names : Named) (files : Option (List File)) (status : Status) (path : List ℕ) (limit : ℕ) (texts : List (List ℕ)) → (path ≡ names.schema) × (limit ≡ schema_limit) × OneText (Refuses names.schema files) status texts → RunHas names files status path limit texts
refused_has names files status path limit texts (is, most, told) = rw (is, most) (has_refused names files status texts told)

pub not_opened : (names : Named) (old new : Moment) (status : Status) → OpeningEnds names.schema old new (Err status) → RunEnds names old new status
not_opened names old new status = Ends-map (λ path limit texts holds. refused_has names old.files status path limit texts holds) old new status

-- ---- a file that is due before anything is written

module _ (names : Named) (old mid new : Moment) (path : List ℕ) (limit : ℕ) (due : FallsDue names old.files [] path limit) (files : mid.files ≡ old.files) (reads : mid.reads ≡ old.reads)
    (begun : new.begun ≡ Some path) (told : new.told ≡ old.told) (writes : new.writes ≡ old.writes) where
  nothing : Wrote old.told new.told []
  nothing = rw told (Wrote-none old.told)

  all_over : AllIsOver old.told → AllIsOver new.told
  all_over before = rw told before

  -- there was no memory behind it
  no_memory : new.reads ≡ old.reads → new.taken ≤ limit → RunEnds names old new NoMemory
  no_memory same taken =
      inl record { path = path; limit = limit; texts = []; holds = (([], due), inl refl); begun = begun; reading = (same, taken); writing = (writes, nothing); over = tt }

  -- it was not read
  file_fails : (status : Status) → FileEnds path limit mid new (Err status) → RunEnds names old new status
  file_fails ReadFault ends =
      inl record { path = path; limit = limit; texts = []; holds = due; begun = begun; reading = ReadingEnds-from path limit old mid new files reads ReadFault ends; writing = (writes, nothing); over = all_over }
  file_fails TooLong ends =
      inl record { path = path; limit = limit; texts = []; holds = due; begun = begun; reading = ReadingEnds-from path limit old mid new files reads TooLong ends; writing = (writes, nothing); over = all_over }
  file_fails NoMemory ends = no_memory (ends.0 ∙ reads) ends.1
  file_fails Done ends = absurd ends
  file_fails SomeRefused ends = absurd ends
  file_fails Usage ends = absurd ends
  file_fails BadSchema ends = absurd ends
  file_fails WriteFault ends = absurd ends

-- what the statements of a script come to is what the run comes to
script_answered : (names : Named) (old mid new : Moment) → mid.files ≡ old.files → mid.reads ≡ old.reads → mid.told ≡ old.told → mid.writes ≡ old.writes → (status : Status) → ScriptEnds names mid new status → RunEnds names old new status
script_answered names old mid new files reads told writes status ends = inl record {
  path = ends.path;
  limit = ends.limit;
  texts = ends.texts;
  holds = subst (λ (fs : Option (List File)). RunHas names fs status ends.path ends.limit ends.texts) files ends.holds;
  begun = ends.begun;
  reading = ReadingEnds-from ends.path ends.limit old mid new files reads status ends.reading;
  writing = WritingEnds-from ends.texts old mid new told writes status ends.writing;
  over = StopsOver-from old mid new told status ends.over;
}

-- ---- the schema was opened

module _ (names : Named) (old mid : Moment) (schema : SchemaValue) (opened : IsOpened names.schema schema old mid) where
  files_are : mid.files ≡ old.files
  files_are = ap (λ (m : Moment). m.files) opened.rest

  told_is : mid.told ≡ old.told
  told_is = ap (λ (m : Moment). m.told) opened.rest

  writes_are : mid.writes ≡ old.writes
  writes_are = ap (λ (m : Moment). m.writes) opened.rest

  -- there was no memory for a session on it
  pub no_session : RunEnds names old mid NoMemory
  no_session = no_memory names old mid mid names.schema schema_limit (inl (refl, refl, refl)) files_are opened.reads (ap (λ (m : Moment). m.begun) opened.rest) told_is writes_are opened.reads opened.taken

  -- the script's file was begun
  module _ (late : Moment) (again : late ≡ record mid { begun = Some names.script; taken = late.taken; failed = late.failed; reads = late.reads }) where
    begun_is : late.begun ≡ Some names.script
    begun_is = ap (λ (m : Moment). m.begun) again

    same_told : late.told ≡ old.told
    same_told = ap (λ (m : Moment). m.told) again ∙ told_is

    same_writes : late.writes ≡ old.writes
    same_writes = ap (λ (m : Moment). m.writes) again ∙ writes_are

    -- it was not read
    pub script_fails : (status : Status) → FileEnds names.script script_limit mid late (Err status) → RunEnds names old late status
    script_fails = file_fails names old mid late names.script script_limit (inr (inl (refl, refl, refl, (schema, opened.accepted)))) files_are opened.reads begun_is same_told same_writes

    -- it was read, and answered from there on
    pub script_read : (new : Moment) (script : List ℕ) → FileEnds names.script script_limit mid late (Ok script)
        → (status : Status) → (IsAtScript names schema script late → ScriptEnds names late new status) → RunEnds names old new status
    script_read new script ends status answered =
        let same_files : late.files ≡ mid.files = ap (λ (m : Moment). m.files) again in
        let own_files : late.files ≡ old.files = same_files ∙ files_are in
        script_answered names old late new own_files (ends.0 ∙ opened.reads) same_told same_writes status (answered record {
          read = record { accepted = rw own_files opened.accepted; is_script = rw same_files ends.2 };
          begun = begun_is;
          taken = ends.1;
        })
