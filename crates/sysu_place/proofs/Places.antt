-- How a run ends, from how what was found is told and all is handed over.
use Rattle.std.proofs.Common.{◌≡◌, ◌≤◌, ℕ, List, Option, Some, None, refl, sym, subst, inl, inr}
use Rattle.su_io.specs.declared.status.Status.{Status}
use Rattle.su_io.specs.declared.status.Status.TheVariants.{Done, SomeRefused, NoMemory}
use Rattle.su_io.specs.Moments.{Moment}
use Rattle.su_io.specs.FileEnds.{IsFile}
use Rattle.su_io.specs.HandOver.{HandsAllOver}
use Rattle.su_io.specs.Programs.{StopsOver}
use Rattle.su_io.specs.WrittenTexts.{IsTold}
use Rattle.su_io.proofs.OneText.{tells_of_file, no_memory}
use Rattle.su_io.proofs.Programs.{Ends-on, Ends-over, Tells-over, UsageEnds-on}
use Rattle.su_faults.specs.declared.faults.Fault.{Fault}
use Rattle.sysu_place.specs.Ends.{ComesOf, PlaceEnds}
use Rattle.sysu_place.specs.inside.Tellings.{ReplyEnds}
use Rattle.sysu_place.specs.Replies.{text_limit, fault_text, reply_text, status_by, TellsOf, IsReplyTo}
use Rattle.sysu_place.specs.Words.{Named, usage_line}

-- the file was read
module _ (names : Named) (old mid new : Moment) (text : List ℕ) (is_file : IsFile old.files names.path text_limit text)
    (reads : mid.reads ≡ old.reads) (begun : mid.begun ≡ Some names.path) (taken : mid.taken ≤ text_limit) (same : mid.told ≡ old.told) (writes : mid.writes ≡ old.writes) where
  is_reply : (found : Option Fault) → TellsOf names.forms text found → IsReplyTo names old.files (status_by found) (reply_text found)
  is_reply found tells = record { text = text; is_file = is_file; found = found; tells = tells; came_is = refl; bytes_are = refl }

  found_told : (found : Option Fault) → TellsOf names.forms text found → (status : Status) → IsTold (reply_text found) (status_by found) mid new status → PlaceEnds names old new status
  found_told None tells status told =
      let is = is_reply None tells in
      tells_of_file (IsReplyTo names old.files) Done (reply_text None) is (reply_text None, is, refl) (λ e. absurd (cc), λ e. absurd (cc)) names.path text_limit old mid new reads begun taken same writes status told
  found_told (Some fault) tells status told =
      let is = is_reply (Some fault) tells in
      tells_of_file (IsReplyTo names old.files) SomeRefused (fault_text fault) is (fault_text fault, is, refl) (λ e. absurd (cc), λ e. absurd (cc)) names.path text_limit old mid new reads begun taken same writes status told

  nothing_told : (status : Status) → (status ≡ NoMemory) × (new ≡ mid) → PlaceEnds names old new status
  nothing_told status none = subst (PlaceEnds names old new) (sym none.0)
      (subst (λ (m : Moment). PlaceEnds names old m NoMemory) (sym none.1) (no_memory (IsReplyTo names old.files) names.path text_limit old mid begun same writes reads taken))

  pub placed : (status : Status) → ReplyEnds names.forms text mid new status → PlaceEnds names old new status
  placed status (inl (found, tells, inl told)) = found_told found tells status told
  placed status (inl (found, tells, inr none)) = nothing_told status none
  placed status (inr none) = nothing_told status none

-- ---- a hand-over behind what the words come to

-- it leaves it so
pub comes_on : (names : Option Named) (old mid new : Moment) → HandsAllOver mid new → (status : Status) → ComesOf names old mid status → ComesOf names old new status
comes_on (Some names) old mid new hands status comes = Ends-on old mid new hands status comes
comes_on None old mid new hands status comes = UsageEnds-on old mid new hands usage_line status comes

-- where it stops at a file, nothing is left to hand over
pub comes_over : (names : Option Named) (old new : Moment) (status : Status) → ComesOf names old new status → StopsOver old new status
comes_over (Some names) old new status comes = Ends-over old new status comes
comes_over None old new status comes = Tells-over old new status comes.1
