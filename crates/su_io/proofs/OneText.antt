-- How a program that tells one text ends.
use Rattle.std.proofs.Common.{◌≡◌, ◌≢◌, ◌≤◌, ◌⊎◌, ◌∙◌, ℕ, List, [], ◌∷◌, Some, Err, refl, sym, ap, subst, inl, inr}
use Rattle.su_io.specs.declared.status.Status.{Status}
use Rattle.su_io.specs.declared.status.Status.TheVariants.{Done, SomeRefused, Usage, BadSchema, ReadFault, WriteFault, TooLong, NoMemory}
use Rattle.su_io.specs.Moments.{Moment}
use Rattle.su_io.specs.Programs.{StopsOver, OneText, Tells, TellsOfFile, UsageEnds}
use Rattle.su_io.specs.FileEnds.{FileEnds}
use Rattle.su_io.specs.HandOver.{AllIsOver}
use Rattle.su_io.specs.WrittenTexts.{Wrote, IsTold}
use Rattle.su_io.proofs.Programs.{WritingEnds-from, read_within}
use Rattle.su_io.proofs.WrittenTexts.{Wrote-none}

-- a text with one of these statuses
abbrev pub IsOwn : Status → Type 0
IsOwn status = (status ≢ ReadFault) × (status ≢ TooLong)

-- no program that ends so stops at a file
pub no_stop : (status : Status) → IsOwn status → (old new : Moment) → StopsOver old new status
no_stop Done own old new = tt
no_stop SomeRefused own old new = tt
no_stop Usage own old new = tt
no_stop BadSchema own old new = tt
no_stop ReadFault own old new = absurd (own.0 refl)
no_stop WriteFault own old new = tt
no_stop TooLong own old new = absurd (own.1 refl)
no_stop NoMemory own old new = tt

module _ (Says : Status → List ℕ → Type 0) (came : Status) (text : List ℕ) (says : Says came text) (one : OneText Says came (text ∷ [])) (own : IsOwn came) where
  pub one_of : (status : Status) → (status ≡ came) ⊎ (status ≡ WriteFault) → OneText Says status (text ∷ [])
  one_of status (inl same) = subst (λ (s : Status). OneText Says s (text ∷ [])) (sym same) one
  one_of status (inr same) = subst (λ (s : Status). OneText Says s (text ∷ [])) (sym same) (came, text, says, refl)

  pub own_of : (status : Status) → (status ≡ came) ⊎ (status ≡ WriteFault) → IsOwn status
  own_of status (inl same) = subst IsOwn (sym same) own
  own_of status (inr same) = subst IsOwn (sym same) (λ e. absurd (cc), λ e. absurd (cc))

  -- no file is read
  pub tells : (old new : Moment) (status : Status) → IsTold text came old new status → Tells Says old new status
  tells old new status told = record { texts = text ∷ []; holds = one_of status told.status_is; no_file = own_of status told.status_is; rest = told.rest; writing = told.writing }

  -- of a file that was read
  pub tells_of_file : (file : List ℕ) (most : ℕ) (old mid new : Moment) → mid.reads ≡ old.reads → mid.begun ≡ Some file → mid.taken ≤ most → mid.told ≡ old.told → mid.writes ≡ old.writes
      → (status : Status) → IsTold text came mid new status → TellsOfFile file most Says old new status
  tells_of_file file most old mid new reads begun taken same writes status told = inl record {
    path = file;
    limit = most;
    texts = text ∷ [];
    holds = (refl, refl, one_of status told.status_is);
    begun = ap (λ (m : Moment). m.begun) told.rest ∙ begun;
    reading = read_within file most old new status (own_of status told.status_is).0 (own_of status told.status_is).1 (ap (λ (m : Moment). m.reads) told.rest ∙ reads) (rw (ap (λ (m : Moment). m.taken) told.rest) taken);
    writing = WritingEnds-from (text ∷ []) old mid new same writes status told.writing;
    over = no_stop status (own_of status told.status_is) old new;
  }

pub usage_told : (line : List ℕ) (old new : Moment) (status : Status) → IsTold line Usage old new status → UsageEnds line old new status
usage_told line old new status told = (
  elim told.status_is [
    | inl same ↦ λ none. absurd (let both : Usage ≡ NoMemory = sym same ∙ none in cc)
    | inr same ↦ λ none. absurd (let both : WriteFault ≡ NoMemory = sym same ∙ none in cc)
  ],
  tells (λ came text. (came ≡ Usage) × (text ≡ line)) Usage line (refl, refl) (line, (refl, refl), refl) (λ e. absurd (cc), λ e. absurd (cc)) old new status told,
)

-- there was no memory for the text
pub tells_nothing : (Says : Status → List ℕ → Type 0) (old : Moment) → Tells Says old old NoMemory
tells_nothing Says old = record { texts = []; holds = refl; no_file = (λ e. absurd (cc), λ e. absurd (cc)); rest = refl; writing = (refl, Wrote-none old.told) }

-- the file was begun, and nothing was written
module _ (Says : Status → List ℕ → Type 0) (file : List ℕ) (most : ℕ) (old new : Moment) (begun : new.begun ≡ Some file) (told : new.told ≡ old.told) (writes : new.writes ≡ old.writes) where
  nothing : Wrote old.told new.told []
  nothing = rw told (Wrote-none old.told)

  all_over : AllIsOver old.told → AllIsOver new.told
  all_over before = rw told before

  -- there was no memory behind it
  pub no_memory : new.reads ≡ old.reads → new.taken ≤ most → TellsOfFile file most Says old new NoMemory
  no_memory reads taken = inl record { path = file; limit = most; texts = []; holds = (refl, refl, refl); begun = begun; reading = (reads, taken); writing = (writes, nothing); over = tt }

  -- it was not read
  pub file_fails : (status : Status) → FileEnds file most old new (Err status) → TellsOfFile file most Says old new status
  file_fails ReadFault ends = inl record { path = file; limit = most; texts = []; holds = (refl, refl, refl); begun = begun; reading = ends; writing = (writes, nothing); over = all_over }
  file_fails TooLong ends = inl record { path = file; limit = most; texts = []; holds = (refl, refl, refl); begun = begun; reading = ends; writing = (writes, nothing); over = all_over }
  file_fails NoMemory ends = no_memory ends.0 ends.1
  file_fails Done ends = absurd ends
  file_fails SomeRefused ends = absurd ends
  file_fails Usage ends = absurd ends
  file_fails BadSchema ends = absurd ends
  file_fails WriteFault ends = absurd ends
