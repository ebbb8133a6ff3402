-- How the check of a certificate ends, from how its line is told.
use Rattle.std.proofs.Common.{◌≡◌, ◌≤◌, ℕ, List, [], ◌∷◌, Some, refl, sym, subst, inl, inr}
use Rattle.su_io.specs.declared.status.Status.{Status}
use Rattle.su_io.specs.declared.status.Status.TheVariants.{NoMemory}
use Rattle.su_io.specs.Moments.{Moment}
use Rattle.su_io.specs.Programs.{OneText}
use Rattle.su_io.specs.FileEnds.{IsFile}
use Rattle.sysu.specs.inside.Lines.{LineEnds}
use Rattle.su_io.proofs.OneText.{IsOwn, tells_of_file, no_memory}
use Rattle.su_check.specs.declared.verdicts.Checked.{Checked}
use Rattle.su_check.specs.declared.verdicts.Checked.TheVariants.{Yes, No}
use Rattle.su_check.specs.Verdict.{IsVerdict}
use Rattle.su_show.specs.Verdicts.{verdict_line}
use Rattle.sysu.specs.Checks.{check_limit, status_by, IsVerdictLine, CheckEnds}

-- the file was read, and its verdict is told
module _ (file : List ℕ) (old mid new : Moment) (bytes : List ℕ) (verdict : Checked) (is_file : IsFile old.files file check_limit bytes) (is_verdict : IsVerdict bytes verdict)
    (reads : mid.reads ≡ old.reads) (begun : mid.begun ≡ Some file) (taken : mid.taken ≤ check_limit) (told : mid.told ≡ old.told) (writes : mid.writes ≡ old.writes) where
  is_line : IsVerdictLine file old.files (status_by verdict) (verdict_line verdict)
  is_line = record { bytes = bytes; is_file = is_file; verdict = verdict; is_verdict = is_verdict; came_is = refl; text_is = refl }

  one_text : (v : Checked) → IsVerdictLine file old.files (status_by v) (verdict_line v) → OneText (IsVerdictLine file old.files) (status_by v) (verdict_line v ∷ [])
  one_text (Yes count) is = (verdict_line (Yes count), is, refl)
  one_text (No fault) is = (verdict_line (No fault), is, refl)

  own : (v : Checked) → IsOwn (status_by v)
  own (Yes count) = (λ e. absurd (cc), λ e. absurd (cc))
  own (No fault) = (λ e. absurd (cc), λ e. absurd (cc))

  pub verdict_told : (status : Status) → LineEnds (verdict_line verdict) (status_by verdict) mid new status → CheckEnds file old new status
  verdict_told status (inl ends) =
      tells_of_file (IsVerdictLine file old.files) (status_by verdict) (verdict_line verdict) is_line (one_text verdict is_line) (own verdict) file check_limit old mid new reads begun taken told writes status ends
  verdict_told status (inr none) = subst (CheckEnds file old new) (sym none.0)
      (subst (λ (m : Moment). CheckEnds file old m NoMemory) (sym none.1) (no_memory (IsVerdictLine file old.files) file check_limit old mid begun told writes reads taken))
