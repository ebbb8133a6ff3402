-- What a run, a check or the making of a bank without any fault comes to.
use Rattle.std.proofs.Common.{◌≡◌, ◌<◌, ◌≤◌, ◌⊎◌, ℕ, List, [], ◌∷◌, Some, Ok, Err, length, refl, sym, ap, subst, inl, inr, arith}
use Rattle.std.specs.Prelude.{Result}
use Rattle.su_io.specs.Causes.{Rose}
use Rattle.su_io.specs.declared.files.File.{File as AFile}
use Rattle.su_io.specs.declared.status.Status.{Status}
use Rattle.su_io.specs.declared.status.Status.TheVariants.{Done, SomeRefused, Usage, BadSchema, ReadFault, WriteFault, TooLong, NoMemory}
use Rattle.su_io.specs.Files.{contents}
use Rattle.su_io.specs.HandOver.{ComesOrFails}
use Rattle.su_io.specs.Moments.{Moment}
use Rattle.su_io.specs.FileEnds.{IsOver}
use Rattle.su_io.specs.Programs.{ReadsAndTells, OneText}
use Rattle.su_io.specs.WrittenTexts.{Wrote}
use Rattle.su_ddl.specs.declared.faults.DdlFault.{DdlFault}
use Rattle.su_ddl.specs.Files.{Reads}
use Rattle.su_ddl.proofs.Files.{one_outcome}
use Rattle.su_schema.specs.SchemaValue.{SchemaValue}
use Rattle.su_files.specs.RunFiles.{SchemaIs}
use Rattle.sysu.specs.Banks.{BankEnds}
use Rattle.sysu.specs.Checks.{check_limit, IsVerdictLine, CheckEnds}
use Rattle.sysu.specs.Complete.{IsFaultless, IsUntroubled, IsFinished, IsChecked, IsComplete}
use Rattle.sysu.specs.Statuses.{Comes, RunEnds, RunHas}
use Rattle.sysu.specs.Words.{Named}
use Rattle.sysu.proofs.Causes.{Caused, hands_caused}

pub ok_schema : (s t : SchemaValue) → ◌≡◌ {A = Result SchemaValue DdlFault} (Ok s) (Ok t) → s ≡ t
ok_schema s t same = ap (λ (o : Result SchemaValue DdlFault). elim o [ Ok x ↦ x | Err f ↦ s ]) same

pub not_both : (s : SchemaValue) (f : DdlFault) → ◌≡◌ {A = Result SchemaValue DdlFault} (Ok s) (Err f) → ⊥
not_both s f same = cc

-- what the schema's file is read as, where the files are told
pub schema_reads : (names : Named) (files : List AFile) (outcome : Result SchemaValue DdlFault) → SchemaIs names.schema (Some files) outcome → Reads (contents files names.schema) outcome
schema_reads names files outcome is = subst (λ (b : List ℕ). Reads b outcome) is.is_schema.0 is.reads

module _ (names : Named) (files : List AFile) (old new : Moment) (is : IsUntroubled names files old new) where
  told : (status : Status) → Caused old new status → ReadsAndTells (RunHas names old.files status) old new status → IsFinished status
  told Done caused ends = inl refl
  told SomeRefused caused ends = inr (inl refl)
  told Usage caused ends = absurd ends.holds
  told BadSchema caused ends =
      let refused = ends.holds.2.1 in
      let schema = schema_reads names files (Err refused.0) (rw is.faultless.told at refused.1) in
      absurd (not_both is.accepted.schema refused.0 (one_outcome (contents files names.schema) (Ok is.accepted.schema) (Err refused.0) is.accepted.reads schema))
  told ReadFault caused ends = absurd (is.faultless.no_read_fault caused.0)
  told WriteFault caused ends = absurd (is.faultless.no_write_fault caused)
  told TooLong caused ends =
      let fits = is.accepted.fit ends.path ends.limit (ends.texts, rw is.faultless.told at ends.holds) in
      let over : ends.limit < length (contents files ends.path) = rw is.faultless.told at ends.reading.2 in
      absurd (omega (arith, fits, over))
  told NoMemory caused ends = inr (inr refl)

  untroubled : (status : Status) → Caused old new status → RunEnds names old new status → IsFinished status
  untroubled status caused (inl ends) = told status caused ends
  untroubled status caused (inr none) = inr (inr none.0)

module _ (file : List ℕ) (files : List AFile) (old new : Moment) (is : IsFaultless files old new) (fits : length (contents files file) ≤ check_limit) where
  -- a check that tells one text tells the line of its verdict
  verdict_told : (status : Status) (texts : List (List ℕ)) → (line : List ℕ) × IsVerdictLine file old.files status line × (texts ≡ line ∷ []) → Wrote old.told new.told texts → IsChecked file files old new status
  verdict_told status texts (line, is_line, are) wrote = inr (line, rw is.told at is_line, subst (Wrote old.told new.told) are wrote)

  check_told : (status : Status) → ReadsAndTells (λ path limit texts. (path ≡ file) × (limit ≡ check_limit) × OneText (IsVerdictLine file old.files) status texts) old new status → IsChecked file files old new status
  check_told Done ends = verdict_told Done ends.texts ends.holds.2 ends.writing.1
  check_told SomeRefused ends = verdict_told SomeRefused ends.texts ends.holds.2 ends.writing.1
  check_told Usage ends = verdict_told Usage ends.texts ends.holds.2 ends.writing.1
  check_told BadSchema ends = verdict_told BadSchema ends.texts ends.holds.2 ends.writing.1
  check_told ReadFault ends = absurd (is.no_read_fault ends.reading.0)
  check_told WriteFault ends = absurd (is.no_write_fault ends.writing.0)
  check_told TooLong ends =
      let over : IsOver old.files file check_limit = subst (λ (p : List ℕ). IsOver old.files p check_limit) ends.holds.0 (subst (IsOver old.files ends.path) ends.holds.1 ends.reading.2) in
      let long : check_limit < length (contents files file) = rw is.told at over in
      absurd (omega (arith, fits, long))
  check_told NoMemory ends = inl refl

  check_untroubled : (status : Status) → CheckEnds file old new status → IsChecked file files old new status
  check_untroubled status (inl ends) = check_told status ends
  check_untroubled status (inr none) = inl none.0

-- the making of a bank ends so, and no write failed
bank_untroubled : (n : ℕ) (old new : Moment) → ¬ Rose old.writes new.writes → (status : Status) → BankEnds n old new status → (status ≡ Done) ⊎ (status ≡ NoMemory)
bank_untroubled n old new no_fault Done ends = inl refl
bank_untroubled n old new no_fault WriteFault ends = absurd (no_fault ends.writing.0)
bank_untroubled n old new no_fault NoMemory ends = inr refl
bank_untroubled n old new no_fault SomeRefused ends = absurd (let is : SomeRefused ≡ Done = ends.holds.1.0 in cc)
bank_untroubled n old new no_fault Usage ends = absurd (let is : Usage ≡ Done = ends.holds.1.0 in cc)
bank_untroubled n old new no_fault BadSchema ends = absurd (let is : BadSchema ≡ Done = ends.holds.1.0 in cc)
bank_untroubled n old new no_fault ReadFault ends = absurd (ends.no_file.0 refl)
bank_untroubled n old new no_fault TooLong ends = absurd (ends.no_file.1 refl)

module _ (words : List (List ℕ)) (old new : Moment) where
  -- it came to its end without a fault of the hand-over
  came : (status : Status) → Comes words old new status → Caused old new status → IsComplete words old new status
  came status comes caused = record {
    ran = λ names files known is. untroubled names files old new is status caused (comes.ran names known);
    checked = λ file files asked is fits. check_untroubled file files old new is fits status (comes.checked file asked);
    generated = λ n asked no_fault. bank_untroubled n old new no_fault status (comes.generated n asked);
  }

  by_cause : (status : Status) → ComesOrFails (Comes words old) new status → Caused old new status → IsComplete words old new status
  by_cause Done ends caused = came Done ends caused
  by_cause SomeRefused ends caused = came SomeRefused ends caused
  by_cause Usage ends caused = came Usage ends caused
  by_cause BadSchema ends caused = came BadSchema ends caused
  by_cause ReadFault ends caused = came ReadFault ends caused
  by_cause TooLong ends caused = came TooLong ends caused
  by_cause NoMemory ends caused = came NoMemory ends caused
  by_cause WriteFault ends caused = record {
    ran = λ names files known is. absurd (is.faultless.no_write_fault caused);
    checked = λ file files asked is fits. absurd (is.no_write_fault caused);
    generated = λ n asked no_fault. absurd (no_fault caused);
  }

  -- how a run ends, by its causes
  pub complete : (status : Status) → ComesOrFails (Comes words old) new status → IsComplete words old new status
  complete status ends = by_cause status ends (hands_caused words old new status ends)
