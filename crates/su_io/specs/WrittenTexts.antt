-- How the writing of texts ends.
-- text: what is handed over by one whole write; old, new: before and after
use Rattle.std.specs.Prelude.{◌≡◌, ◌≤◌, ◌⊎◌, ◌∷◌, ℕ, List, [], length, take}
use Rattle.std.specs.List.{AllZip, flat_map}
use Rattle.su_io.specs.declared.status.Status.{Status}
use Rattle.su_io.specs.declared.status.Status.TheVariants.{WriteFault}
use Rattle.su_io.specs.Causes.{Rose}
use Rattle.su_io.specs.Ends.{Grew, Extends}
use Rattle.su_io.specs.Moments.{Told, Moment}
use Rattle.su_io.specs.Wholes.{IsWhole}

-- one after another
abbrev pub joined : {A : Type 0} → List (List A) → List A
joined texts = flat_map (λ text. text) texts

-- just these texts were written, each by one whole write, in order; where there are none, no piece was handed in.
-- What was handed over stays so
pub record Wrote (old new : Told) (texts : List (List ℕ)) : Type 0 where
  pub grew : Grew old.written new.written (joined texts)
  pub writes : List (List (List ℕ))
  pub whole : AllZip IsWhole texts writes
  pub handed : Grew old.handed new.handed (joined writes)
  pub none : texts ≡ [] → new.handed ≡ old.handed
  pub over : Extends old.over new.over

-- a front of these texts was written. What was handed over stays so
pub record WroteFront (old new : Told) (texts : List (List ℕ)) : Type 0 where
  pub count : ℕ
  pub within : count ≤ length (joined texts)
  pub grew : Grew old.written new.written (take count (joined texts))
  pub over : Extends old.over new.over

-- by the status of the program: a call of the sink failed behind a front of the texts, or none did, and they were written
abbrev pub WritingEnds : List (List ℕ) → Moment → Moment → Status → Type 0
WritingEnds texts old new WriteFault = Rose old.writes new.writes × WroteFront old.told new.told texts
WritingEnds texts old new status = (new.writes ≡ old.writes) × Wrote old.told new.told texts

-- one text was told with its status, or with that of a failed write
pub record IsTold (text : List ℕ) (came : Status) (old new : Moment) (status : Status) : Type 0 where
  pub status_is : (status ≡ came) ⊎ (status ≡ WriteFault)
  pub rest : new ≡ record old { told = new.told; writes = new.writes }
  pub writing : WritingEnds (text ∷ []) old new status
