-- Two runs agree: each of them is one of the same few outcomes, which its files and words alone determine.
use Rattle.std.proofs.Common.{◌≡◌, ◌≢◌, ◌≤◌, ◌<◌, ℕ, Bool, true, false, List, [], ◌∷◌, ◌++◌, length, Option, Some, None, Result, Ok, Err, append-nil, refl, ap, sym, ◌∙◌, subst, inl, inr, arith}
use Rattle.std.proofs.lemmas.List.{append_cancel_left}
use Rattle.su_io.specs.declared.files.File.{File as AFile}
use Rattle.su_io.specs.declared.status.Status.{Status}
use Rattle.su_io.specs.declared.status.Status.TheVariants.{Done, SomeRefused, Usage, BadSchema, ReadFault, WriteFault, TooLong, NoMemory}
use Rattle.su_io.specs.Causes.{Rose}
use Rattle.su_io.specs.Ends.{Grew}
use Rattle.su_io.specs.Files.{contents}
use Rattle.su_io.specs.HandOver.{ComesOrFails}
use Rattle.su_io.specs.Moments.{Moment}
use Rattle.su_io.specs.Programs.{Tells}
use Rattle.su_io.specs.WrittenTexts.{joined, Wrote}
use Rattle.su_check.specs.Verdict.{IsVerdict}
use Rattle.su_check.proofs.OneVerdict.{one_verdict}
use Rattle.su_ddl.specs.declared.faults.DdlFault.{DdlFault}
use Rattle.su_ddl.proofs.Files.{one_outcome}
use Rattle.su_schema.specs.SchemaValue.{SchemaValue}
use Rattle.su_show.specs.Refusals.{IsLineFor}
use Rattle.su_show.proofs.RefusalLines.{one_schema_line}
use Rattle.su_show.specs.Verdicts.{verdict_line}
use Rattle.su_state.specs.DatabaseValue.{DatabaseValue}
use Rattle.su_session.specs.declared.replies.Reply.{Reply}
use Rattle.su_bank.specs.Banks.{IsBankText}
use Rattle.su_session.specs.Outcomes.{some_refused}
use Rattle.sysu.specs.TwoRuns.{Ran, AreEqualButForWorkers, TwoRunsAgree}
use Rattle.sysu.specs.Checks.{status_by, IsVerdictLine, CheckEnds, check_limit}
use Rattle.sysu.specs.Due.{FallsDue}
use Rattle.su_replies.specs.Output.{reply_texts}
use Rattle.su_files.specs.RunFiles.{SchemaIs, schema_limit, script_limit}
use Rattle.sysu.specs.Scripts.{Answers}
use Rattle.sysu.specs.Statuses.{Comes, RunEnds}
use Rattle.sysu.specs.Words.{Named, named, checks, Generates, usage_line}
use Rattle.sysu.proofs.Causes.{hands_caused}
use Rattle.sysu.proofs.Completeness.{schema_reads, not_both as read_or_refused}
use Rattle.sysu.proofs.OneBank.{Asks, for_bank, for_none, asked, one_bank}
use Rattle.sysu.proofs.OneList.{one_list_of_replies, one_list_before, stopped_or_all}

-- ---- outcomes

abbrev status_of : Bool → Status
status_of true = SomeRefused
status_of false = Done

-- of a run: its replies, the line for its schema, or the texts before a file that is too long
data Outcome (names : Named) (files : List AFile) (text : List ℕ) (status : Status) : Type 0 where
  finished : (replies : List Reply) → (last : DatabaseValue) → Answers names (Some files) replies last [] → text ≡ joined (reply_texts replies) → status ≡ status_of (some_refused replies) → Outcome names files text status
  bad_schema : (fault : DdlFault) → (line : List ℕ) → IsLineFor fault line → SchemaIs names.schema (Some files) (Err fault) → text ≡ joined (line ∷ []) → status ≡ BadSchema → Outcome names files text status
  too_long : (texts : List (List ℕ)) → (path : List ℕ) → (limit : ℕ) → FallsDue names (Some files) texts path limit → limit < length (contents files path) → text ≡ joined texts → status ≡ TooLong → Outcome names files text status

-- of a check
data Verdict (files : List AFile) (file text : List ℕ) (status : Status) : Type 0 where
  has_verdict : (came : Status) → (line : List ℕ) → IsVerdictLine file (Some files) came line → text ≡ joined (line ∷ []) → status ≡ came → Verdict files file text status
  over_limit : check_limit < length (contents files file) → text ≡ [] → status ≡ TooLong → Verdict files file text status

same_fault : (x y : DdlFault) → ◌≡◌ {A = Result SchemaValue DdlFault} (Err x) (Err y) → x ≡ y
same_fault x y e = cc

past : (file : List ℕ) (limit : ℕ) (bytes : List ℕ) → bytes ≡ file → length bytes ≤ limit → limit < length file → ⊥
past file limit bytes is upto over = absurd (let same : length bytes ≡ length file = ap (λ (x : List ℕ). length x) is in omega (arith, upto, over, same))

module _ (names : Named) (files : List AFile) where
  -- the schema's file is within its limit
  schema_fits : (outcome : Result SchemaValue DdlFault) → SchemaIs names.schema (Some files) outcome → schema_limit < length (contents files names.schema) → ⊥
  schema_fits outcome is over = past (contents files names.schema) schema_limit is.bytes is.is_schema.0 is.is_schema.1 over

  read_once : (x y : Result SchemaValue DdlFault) → SchemaIs names.schema (Some files) x → SchemaIs names.schema (Some files) y → x ≡ y
  read_once x y h k = one_outcome (contents files names.schema) x y (schema_reads names files x h) (schema_reads names files y k)

  not_both : (x : SchemaValue) (y : DdlFault) → SchemaIs names.schema (Some files) (Ok x) → SchemaIs names.schema (Some files) (Err y) → ⊥
  not_both x y h k = read_or_refused x y (read_once (Ok x) (Err y) h k)

  script_fits : (replies : List Reply) (last : DatabaseValue) (left : List (List ℕ)) → Answers names (Some files) replies last left → script_limit < length (contents files names.script) → ⊥
  script_fits replies last left h over = past (contents files names.script) script_limit h.script h.read.is_script.0 h.read.is_script.1 over

  -- a file that is too long ends a run that would finish
  not_finished : (replies : List Reply) (last : DatabaseValue) (texts : List (List ℕ)) (path : List ℕ) (limit : ℕ) → Answers names (Some files) replies last [] → FallsDue names (Some files) texts path limit → limit < length (contents files path) → ⊥
  not_finished replies last texts path limit all (inl (none, is, most)) over = schema_fits (Ok all.schema) all.read.accepted (rw (is, most) at over)
  not_finished replies last texts path limit all (inr (inl (none, is, most, accepted))) over = script_fits replies last [] all (rw (is, most) at over)
  not_finished replies last texts path limit all (inr (inr ((others, db, load, left, before, wants, are), most))) over =
      stopped_or_all names files others replies db last load path left before wants (rw most at over) all

  -- and one whose schema would be refused is past the schema's limit, or never comes there
  not_refused : (fault : DdlFault) (texts : List (List ℕ)) (path : List ℕ) (limit : ℕ) → SchemaIs names.schema (Some files) (Err fault) → FallsDue names (Some files) texts path limit → limit < length (contents files path) → ⊥
  not_refused fault texts path limit refused (inl (none, is, most)) over = schema_fits (Err fault) refused (rw (is, most) at over)
  not_refused fault texts path limit refused (inr (inl (none, is, most, (schema, accepted)))) over = not_both schema fault accepted refused
  not_refused fault texts path limit refused (inr (inr ((others, db, load, left, before, wants, are), most))) over = not_both before.schema fault before.read.accepted refused

  -- the texts before the first file that is too long
  one_list_of_texts : (texts : List (List ℕ)) (path : List ℕ) (limit : ℕ) (also : List (List ℕ)) (other : List ℕ) (most : ℕ) → FallsDue names (Some files) texts path limit → limit < length (contents files path)
      → FallsDue names (Some files) also other most → most < length (contents files other) → texts ≡ also
  one_list_of_texts texts path limit also other most (inl (none, h, j)) over (inl (empty, k, l)) long = none ∙ sym empty
  one_list_of_texts texts path limit also other most (inl (none, h, j)) over (inr (inl (empty, k, l, n))) long = none ∙ sym empty
  one_list_of_texts texts path limit also other most (inl (none, is, upto)) over (inr (inr ((others, db, load, left, before, wants, are), end))) long =
      absurd (schema_fits (Ok before.schema) before.read.accepted (rw (is, upto) at over))
  one_list_of_texts texts path limit also other most (inr (inl (none, h, j, m))) over (inl (empty, k, l)) long = none ∙ sym empty
  one_list_of_texts texts path limit also other most (inr (inl (none, h, j, m))) over (inr (inl (empty, k, l, n))) long = none ∙ sym empty
  one_list_of_texts texts path limit also other most (inr (inl (none, is, upto, accepted))) over (inr (inr ((others, db, load, left, before, wants, are), end))) long =
      absurd (script_fits others db (load ∷ left) before (rw (is, upto) at over))
  one_list_of_texts texts path limit also other most (inr (inr ((replies, last, due, rest, first, asks, told), end))) over (inl (empty, is, upto)) long =
      absurd (schema_fits (Ok first.schema) first.read.accepted (rw (is, upto) at long))
  one_list_of_texts texts path limit also other most (inr (inr ((replies, last, due, rest, first, asks, told), end))) over (inr (inl (empty, is, upto, accepted))) long =
      absurd (script_fits replies last (due ∷ rest) first (rw (is, upto) at long))
  one_list_of_texts texts path limit also other most (inr (inr ((replies, last, due, rest, first, asks, told), end))) over (inr (inr ((others, db, load, left, before, wants, are), upto))) long =
      told ∙ ap reply_texts (one_list_before names files replies others last db due load path other rest left first asks (rw end at over) before wants (rw upto at long)) ∙ sym are

  one_outcome_of_run : (text other : List ℕ) (s t : Status) → Outcome names files text s → Outcome names files other t → (text ≡ other) × (s ≡ t)
  one_outcome_of_run text other s t (finished replies last answers is ends) (finished others db all same end) =
      let list = one_list_of_replies names files replies others last db answers all in
      (is ∙ ap (λ rs. joined (reply_texts rs)) list ∙ sym same, ends ∙ ap (λ rs. status_of (some_refused rs)) list ∙ sym end)
  one_outcome_of_run text other s t (bad_schema fault line shown refused is ends) (bad_schema also next told too same end) =
      let one = same_fault fault also (read_once (Err fault) (Err also) refused too) in
      let lines : line ≡ next = one_schema_line also line next (subst (λ (f : DdlFault). IsLineFor f line) one shown) told in
      (is ∙ ap (λ (l : List ℕ). joined (l ∷ [])) lines ∙ sym same, ends ∙ sym end)
  one_outcome_of_run text other s t (too_long texts path limit due over is ends) (too_long also to most falls long same end) =
      (is ∙ ap joined (one_list_of_texts texts path limit also to most due over falls long) ∙ sym same, ends ∙ sym end)
  one_outcome_of_run text other s t (finished replies last answers is ends) (bad_schema fault line shown refused same end) = absurd (not_both answers.schema fault answers.read.accepted refused)
  one_outcome_of_run text other s t (finished replies last answers is ends) (too_long texts path limit due over same end) = absurd (not_finished replies last texts path limit answers due over)
  one_outcome_of_run text other s t (bad_schema fault line shown refused is ends) (finished replies last answers same end) = absurd (not_both answers.schema fault answers.read.accepted refused)
  one_outcome_of_run text other s t (bad_schema fault line shown refused is ends) (too_long texts path limit due over same end) = absurd (not_refused fault texts path limit refused due over)
  one_outcome_of_run text other s t (too_long texts path limit due over is ends) (finished replies last answers same end) = absurd (not_finished replies last texts path limit answers due over)
  one_outcome_of_run text other s t (too_long texts path limit due over is ends) (bad_schema fault line shown refused same end) = absurd (not_refused fault texts path limit refused due over)

one_outcome_of_check : (files : List AFile) (file text other : List ℕ) (s t : Status) → Verdict files file text s → Verdict files file other t → (text ≡ other) × (s ≡ t)
one_outcome_of_check files file text other s t (has_verdict came line h is ends) (has_verdict comes also k same end) =
    let first = subst (λ (b : List ℕ). IsVerdict b h.verdict) h.is_file.0 h.is_verdict in
    let second = subst (λ (b : List ℕ). IsVerdict b k.verdict) k.is_file.0 k.is_verdict in
    let one = one_verdict (contents files file) h.verdict k.verdict first second in
    let lines : line ≡ also = h.text_is ∙ ap verdict_line one ∙ sym k.text_is in
    (is ∙ ap (λ (l : List ℕ). joined (l ∷ [])) lines ∙ sym same, ends ∙ h.came_is ∙ ap status_by one ∙ sym k.came_is ∙ sym end)
one_outcome_of_check files file text other s t (has_verdict came line h is ends) (over_limit over same end) = absurd (past (contents files file) check_limit h.bytes h.is_file.0 h.is_file.1 over)
one_outcome_of_check files file text other s t (over_limit over is ends) (has_verdict came line h same end) = absurd (past (contents files file) check_limit h.bytes h.is_file.0 h.is_file.1 over)
one_outcome_of_check files file text other s t (over_limit over is ends) (over_limit more same end) = (is ∙ sym same, ends ∙ sym end)

-- ---- what a run comes to

grown : (before appended text : List ℕ) (old new : Option (List ℕ)) → old ≡ Some before → new ≡ Some (before ++ appended) → Grew old new text → appended ≡ text
grown before appended text old new e f h =
    append_cancel_left before appended text (subst (λ (x : Option (List ℕ)). Grew (Some before) x text) f (subst (λ (x : Option (List ℕ)). Grew x new text) e h))

module _ (files : List AFile) (words : List (List ℕ)) (old new : Moment) (files_are : old.files ≡ Some files) (before appended : List ℕ) (from : old.told.written ≡ Some before) (upto : new.told.written ≡ Some (before ++ appended)) where
  appended_is : (texts : List (List ℕ)) → Wrote old.told new.told texts → appended ≡ joined texts
  appended_is texts h = grown before appended (joined texts) old.told.written new.told.written from upto h.grew

  module _ (no_read : ¬ Rose old.reads new.reads) (no_write : ¬ Rose old.writes new.writes) where
    ran : (names : Named) (status : Status) → status ≢ NoMemory → RunEnds names old new status → Outcome names files appended status
    ran names status memory (inr none) = absurd (memory none.0)
    ran names Done memory (inl ends) =
        let (due, (replies, last, answers, some, are)) = ends.holds in
        finished replies last (rw files_are at answers) (appended_is ends.texts ends.writing.1 ∙ ap joined are) (ap status_of (sym some))
    ran names SomeRefused memory (inl ends) =
        let (due, (replies, last, answers, some, are)) = ends.holds in
        finished replies last (rw files_are at answers) (appended_is ends.texts ends.writing.1 ∙ ap joined are) (ap status_of (sym some))
    ran names Usage memory (inl ends) = absurd ends.holds
    ran names BadSchema memory (inl ends) =
        let (path, limit, (line, (fault, is, shown), are)) = ends.holds in
        bad_schema fault line shown (rw files_are at is) (appended_is ends.texts ends.writing.1 ∙ ap joined are) refl
    ran names ReadFault memory (inl ends) = absurd (no_read ends.reading.0)
    ran names WriteFault memory (inl ends) = absurd (no_write ends.writing.0)
    ran names TooLong memory (inl ends) =
        too_long ends.texts ends.path ends.limit (rw files_are at ends.holds) (rw files_are at ends.reading.2) (appended_is ends.texts ends.writing.1) refl
    ran names NoMemory memory (inl ends) = absurd (memory refl)

    check_told : (file : List ℕ) (came : Status) (texts : List (List ℕ)) → Wrote old.told new.told texts → (text : List ℕ) × IsVerdictLine file old.files came text × (texts ≡ text ∷ []) → Verdict files file appended came
    check_told file came texts wrote (line, is, are) = has_verdict came line (rw files_are at is) (appended_is texts wrote ∙ ap joined are) refl

    checked : (file : List ℕ) (status : Status) → status ≢ NoMemory → CheckEnds file old new status → Verdict files file appended status
    checked file status memory (inr none) = absurd (memory none.0)
    checked file Done memory (inl ends) = check_told file Done ends.texts ends.writing.1 ends.holds.2
    checked file SomeRefused memory (inl ends) = check_told file SomeRefused ends.texts ends.writing.1 ends.holds.2
    checked file Usage memory (inl ends) = check_told file Usage ends.texts ends.writing.1 ends.holds.2
    checked file BadSchema memory (inl ends) = check_told file BadSchema ends.texts ends.writing.1 ends.holds.2
    checked file ReadFault memory (inl ends) = absurd (no_read ends.reading.0)
    checked file WriteFault memory (inl ends) = absurd (no_write ends.writing.0)
    checked file TooLong memory (inl ends) =
        let (path, limit, none) = ends.holds in
        let over : ends.limit < length (contents files ends.path) = rw files_are at ends.reading.2 in
        over_limit (rw (path, limit) at over) (appended_is ends.texts ends.writing.1 ∙ ap joined none) refl
    checked file NoMemory memory (inl ends) = absurd (memory refl)

    module _ (Says : Status → List ℕ → Type 0) (came : Status) (only : (s : Status) (text : List ℕ) → Says s text → s ≡ came) where
      one_told : (status : Status) (texts : List (List ℕ)) → Wrote old.told new.told texts → (text : List ℕ) × Says status text × (texts ≡ text ∷ []) → (text : List ℕ) × Says came text × (appended ≡ joined (text ∷ [])) × (status ≡ came)
      one_told status texts wrote (text, says, are) =
          let is = only status text says in
          (text, subst (λ (s : Status). Says s text) is says, appended_is texts wrote ∙ ap joined are, is)

      tells : (status : Status) → status ≢ NoMemory → Tells Says old new status → (text : List ℕ) × Says came text × (appended ≡ joined (text ∷ [])) × (status ≡ came)
      tells Done memory ends = one_told Done ends.texts ends.writing.1 ends.holds
      tells SomeRefused memory ends = one_told SomeRefused ends.texts ends.writing.1 ends.holds
      tells Usage memory ends = one_told Usage ends.texts ends.writing.1 ends.holds
      tells BadSchema memory ends = one_told BadSchema ends.texts ends.writing.1 ends.holds
      tells ReadFault memory ends = absurd (ends.no_file.0 refl)
      tells WriteFault memory ends = absurd (no_write ends.writing.0)
      tells TooLong memory ends = absurd (ends.no_file.1 refl)
      tells NoMemory memory ends = absurd (memory refl)

-- the hand-over did not fail
came_so : (words : List (List ℕ)) (old new : Moment) → ¬ Rose old.writes new.writes → (status : Status) → ComesOrFails (Comes words old) new status → Comes words old new status
came_so words old new no_write Done ends = ends
came_so words old new no_write SomeRefused ends = ends
came_so words old new no_write Usage ends = ends
came_so words old new no_write BadSchema ends = ends
came_so words old new no_write ReadFault ends = ends
came_so words old new no_write WriteFault ends = absurd (no_write (hands_caused words old new WriteFault ends))
came_so words old new no_write TooLong ends = ends
came_so words old new no_write NoMemory ends = ends

-- ---- two runs

module _ (files : List AFile) (words : List (List ℕ)) (appended : List ℕ) (status : Status) (h : Ran files words appended status) where
  comes : Comes words h.old h.new status
  comes = came_so words h.old h.new h.no_write_fault status h.ends.ends

  run_of : (names : Named) → named words ≡ Some names → Outcome names files appended status
  run_of names e = ran files words h.old h.new h.files_are h.before appended h.told h.wrote h.no_read_fault h.no_write_fault names status h.has_memory (comes.ran names e)

  check_of : (file : List ℕ) → checks words ≡ Some file → Verdict files file appended status
  check_of file e = checked files words h.old h.new h.files_are h.before appended h.told h.wrote h.no_read_fault h.no_write_fault file status h.has_memory (comes.checked file e)

  bank_of : (n : ℕ) → Generates words n → IsBankText n appended × (status ≡ Done)
  bank_of n g =
      let (text, says, is, done) = tells files words h.old h.new h.files_are h.before appended h.told h.wrote h.no_read_fault h.no_write_fault (λ came text. (came ≡ Done) × IsBankText n text) Done (λ s text says. says.0) status h.has_memory (comes.generated n g) in
      (subst (IsBankText n) (sym (is ∙ append-nil text)) says.1, done)

  usage_of : named words ≡ None → checks words ≡ None → ((n : ℕ) → ¬ Generates words n) → (appended ≡ usage_line) × (status ≡ Usage)
  usage_of e f g =
      let (text, says, is, done) = tells files words h.old h.new h.files_are h.before appended h.told h.wrote h.no_read_fault h.no_write_fault (λ came text. (came ≡ Usage) × (text ≡ usage_line)) Usage (λ s text says. says.0) status h.has_memory (comes.usage e f g).1 in
      (is ∙ append-nil text ∙ says.1, done)

module _ (files : List AFile) (words others : List (List ℕ)) (one other : List ℕ) (s t : Status) (same : AreEqualButForWorkers words others) (h : Ran files words one s) (k : Ran files others other t) where
  bank_or_usage : named words ≡ None → checks words ≡ None → Asks words → (one ≡ other) × (s ≡ t)
  bank_or_usage e f (for_bank n g) =
      let x = bank_of files words one s h n g in
      let y = bank_of files others other t k n ((same.bank n).0 g) in
      (one_bank n one other x.0 y.0, x.1 ∙ sym y.1)
  bank_or_usage e f (for_none g) =
      let x = usage_of files words one s h e f g in
      let y = usage_of files others other t k (sym same.names ∙ e) (sym same.check ∙ f) (λ n asks. g n ((same.bank n).1 asks)) in
      (x.0 ∙ sym y.0, x.1 ∙ sym y.1)

  neither : named words ≡ None → (file : Option (List ℕ)) → checks words ≡ file → (one ≡ other) × (s ≡ t)
  neither e None f = bank_or_usage e f (asked words)
  neither e (Some file) f = one_outcome_of_check files file one other s t (check_of files words one s h file f) (check_of files others other t k file (sym same.check ∙ f))

  agree : (names : Option Named) → named words ≡ names → (one ≡ other) × (s ≡ t)
  agree None e = neither e (checks words) refl
  agree (Some names) e = one_outcome_of_run names files one other s t (run_of files words one s h names e) (run_of files others other t k names (sym same.names ∙ e))

pub two_runs_agree : TwoRunsAgree
two_runs_agree files words others one other s t same h k = agree files words others one other s t same h k (named words) refl
