-- Runs in which no count of faults can rise.
use Rattle.std.proofs.Common.{◌≡◌, ◌≢◌, ℕ, List, Some, subst, arith}
use Rattle.su_io.specs.Causes.{Rose}
use Rattle.su_io.specs.declared.files.File.{File}
use Rattle.su_io.specs.declared.status.Status.{Status}
use Rattle.su_io.specs.declared.status.Status.TheVariants.{ReadFault, WriteFault}
use Rattle.su_io.specs.Moments.{Moment}
use Rattle.sysu.specs.Complete.{AreAccepted, IsFinished, IsComplete}
use Rattle.sysu.specs.Words.{Named, named}
use Rattle.sysu.proofs.Causes.{Caused}

not_risen : (before now : ℕ) → before ≡ 0 → now ≡ 0 → ¬ Rose before now
not_risen before now b n rose = omega (arith, b, n, rose)

-- both counts stay at 0
module _ (old new : Moment) (r : old.reads ≡ 0) (s : new.reads ≡ 0) (w : old.writes ≡ 0) (v : new.writes ≡ 0) where
  pub no_read_fault : (status : Status) → Caused old new status → status ≢ ReadFault
  no_read_fault status caused same = not_risen old.reads new.reads r s (subst (Caused old new) same caused).0

  pub no_write_fault : (status : Status) → Caused old new status → status ≢ WriteFault
  no_write_fault status caused same = not_risen old.writes new.writes w v (subst (Caused old new) same caused)

  pub finishes : (words : List (List ℕ)) (status : Status) → IsComplete words old new status → (names : Named) (files : List File) → named words ≡ Some names → old.files ≡ Some files → AreAccepted names files → IsFinished status
  finishes words status complete names files known told accepted =
      complete.ran names files known record { faultless = record { told = told; no_read_fault = not_risen old.reads new.reads r s; no_write_fault = not_risen old.writes new.writes w v }; accepted = accepted }
