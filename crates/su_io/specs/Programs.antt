-- How a program ends, up to the hand-over at its end.
-- text: what is handed over by one whole write; old, new: the outside before and after; Says: which text is told with which status
use Rattle.std.specs.Prelude.{◌≡◌, ◌≢◌, ◌⊎◌, ◌∷◌, [], ⊤, ℕ, List, Some}
use Rattle.su_io.specs.declared.status.Status.{Status}
use Rattle.su_io.specs.declared.status.Status.TheVariants.{Usage, ReadFault, WriteFault, TooLong, NoMemory}
use Rattle.su_io.specs.Moments.{Moment}
use Rattle.su_io.specs.FileEnds.{ReadingEnds}
use Rattle.su_io.specs.HandOver.{AllIsOver, HandsAllOver}
use Rattle.su_io.specs.WrittenTexts.{WritingEnds}

-- a program that ends since its file is not read leaves nothing to hand over
abbrev pub StopsOver : Moment → Moment → Status → Type 0
StopsOver old new ReadFault = AllIsOver old.told → AllIsOver new.told
StopsOver old new TooLong = AllIsOver old.told → AllIsOver new.told
StopsOver old new status = ⊤

-- with its file begun last, that file's limit, and its texts, of which a fact is given; how the reading of the one and the
-- writing of the others ended
pub record ReadsAndTells (P : List ℕ → ℕ → List (List ℕ) → Type 0) (old new : Moment) (status : Status) : Type 0 where
  pub path : List ℕ
  pub limit : ℕ
  pub texts : List (List ℕ)
  pub holds : P path limit texts
  pub begun : new.begun ≡ Some path
  pub reading : ReadingEnds path limit old new status
  pub writing : WritingEnds texts old new status
  pub over : StopsOver old new status

-- so, or for want of memory before any file was begun
abbrev pub Ends : (List ℕ → ℕ → List (List ℕ) → Type 0) → Moment → Moment → Status → Type 0
Ends P old new status = ReadsAndTells P old new status ⊎ ((status ≡ NoMemory) × ((new ≡ old) ⊎ HandsAllOver old new))

-- the texts of a program that tells one text: that text, with its status or with that of a failed write, or none
abbrev pub OneText : (Status → List ℕ → Type 0) → Status → List (List ℕ) → Type 0
OneText Says ReadFault texts = texts ≡ []
OneText Says WriteFault texts = (came : Status) × (text : List ℕ) × Says came text × (texts ≡ text ∷ [])
OneText Says TooLong texts = texts ≡ []
OneText Says NoMemory texts = texts ≡ []
OneText Says status texts = (text : List ℕ) × Says status text × (texts ≡ text ∷ [])

-- one text is told of this file, which may have so many bytes
abbrev pub TellsOfFile : List ℕ → ℕ → (Status → List ℕ → Type 0) → Moment → Moment → Status → Type 0
TellsOfFile file most Says old new status = Ends (λ path limit texts. (path ≡ file) × (limit ≡ most) × OneText Says status texts) old new status

-- one text is told, and no file is read
pub record Tells (Says : Status → List ℕ → Type 0) (old new : Moment) (status : Status) : Type 0 where
  pub texts : List (List ℕ)
  pub holds : OneText Says status texts
  pub no_file : (status ≢ ReadFault) × (status ≢ TooLong)
  pub rest : new ≡ record old { told = new.told; writes = new.writes }
  pub writing : WritingEnds texts old new status

-- the usage line is told
abbrev pub UsageEnds : List ℕ → Moment → Moment → Status → Type 0
UsageEnds line old new status = (status ≢ NoMemory) × Tells (λ came text. (came ≡ Usage) × (text ≡ line)) old new status
