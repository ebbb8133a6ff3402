-- How a program ends, from how its reads and writes end.
use Rattle.std.proofs.Common.{◌≡◌, ◌≢◌, ◌∙◌, ◌≤◌, ℕ, List, [], Result, Ok, Err, refl, sym, ap, subst, inl, inr}
use Rattle.su_io.specs.declared.status.Status.{Status}
use Rattle.su_io.specs.declared.status.Status.TheVariants.{Done, SomeRefused, Usage, BadSchema, ReadFault, WriteFault, TooLong, NoMemory}
use Rattle.su_io.specs.Ends.{IsFrontOf}
use Rattle.su_io.specs.FileEnds.{ReadingEnds, FileEnds}
use Rattle.su_io.specs.HandOver.{AllIsOver, HandsAllOver, HandsOverAt, HandOverEnds, EndsHandedOver}
use Rattle.su_io.specs.Moments.{Told, Moment}
use Rattle.su_io.specs.Programs.{StopsOver, Ends, Tells, UsageEnds}
use Rattle.su_io.specs.WrittenTexts.{Wrote, WritingEnds}
use Rattle.su_io.proofs.WrittenTexts.{Wrote-trans, Wrote-then-none, WroteFront-then-none}

-- ---- writing

-- the texts were written, and the program's status is not that of a failed write
pub written_with : (texts : List (List ℕ)) (old new : Moment) (status : Status) → status ≢ WriteFault → new.writes ≡ old.writes → Wrote old.told new.told texts → WritingEnds texts old new status
written_with texts old new Done other writes wrote = (writes, wrote)
written_with texts old new SomeRefused other writes wrote = (writes, wrote)
written_with texts old new Usage other writes wrote = (writes, wrote)
written_with texts old new BadSchema other writes wrote = (writes, wrote)
written_with texts old new ReadFault other writes wrote = (writes, wrote)
written_with texts old new WriteFault other writes wrote = absurd (other refl)
written_with texts old new TooLong other writes wrote = (writes, wrote)
written_with texts old new NoMemory other writes wrote = (writes, wrote)

-- from a moment on that tells the same of the sink
pub WritingEnds-from : (texts : List (List ℕ)) (old mid new : Moment) → mid.told ≡ old.told → mid.writes ≡ old.writes → (status : Status) → WritingEnds texts mid new status → WritingEnds texts old new status
WritingEnds-from texts old mid new told writes Done ends = (ends.0 ∙ writes, subst (λ (t : Told). Wrote t new.told texts) told ends.1)
WritingEnds-from texts old mid new told writes SomeRefused ends = (ends.0 ∙ writes, subst (λ (t : Told). Wrote t new.told texts) told ends.1)
WritingEnds-from texts old mid new told writes Usage ends = (ends.0 ∙ writes, subst (λ (t : Told). Wrote t new.told texts) told ends.1)
WritingEnds-from texts old mid new told writes BadSchema ends = (ends.0 ∙ writes, subst (λ (t : Told). Wrote t new.told texts) told ends.1)
WritingEnds-from texts old mid new told writes ReadFault ends = (ends.0 ∙ writes, subst (λ (t : Told). Wrote t new.told texts) told ends.1)
WritingEnds-from texts old mid new told writes WriteFault ends = (rw (← writes) ends.0, rw (← told) ends.1)
WritingEnds-from texts old mid new told writes TooLong ends = (ends.0 ∙ writes, subst (λ (t : Told). Wrote t new.told texts) told ends.1)
WritingEnds-from texts old mid new told writes NoMemory ends = (ends.0 ∙ writes, subst (λ (t : Told). Wrote t new.told texts) told ends.1)

-- what a program that stops at a file leaves to hand over, from a moment on that tells the same of the sink
pub StopsOver-from : (old mid new : Moment) → mid.told ≡ old.told → (status : Status) → StopsOver mid new status → StopsOver old new status
StopsOver-from old mid new told Done over = tt
StopsOver-from old mid new told SomeRefused over = tt
StopsOver-from old mid new told Usage over = tt
StopsOver-from old mid new told BadSchema over = tt
StopsOver-from old mid new told ReadFault over = λ before. over (rw told before)
StopsOver-from old mid new told WriteFault over = tt
StopsOver-from old mid new told TooLong over = λ before. over (rw told before)
StopsOver-from old mid new told NoMemory over = tt

-- ---- reading

-- from a moment on that tells the same of the shelf's files and faults
pub ReadingEnds-from : (path : List ℕ) (limit : ℕ) (old mid new : Moment) → mid.files ≡ old.files → mid.reads ≡ old.reads → (status : Status) → ReadingEnds path limit mid new status → ReadingEnds path limit old new status
ReadingEnds-from path limit old mid new files reads Done ends = (ends.0 ∙ reads, ends.1)
ReadingEnds-from path limit old mid new files reads SomeRefused ends = (ends.0 ∙ reads, ends.1)
ReadingEnds-from path limit old mid new files reads Usage ends = (ends.0 ∙ reads, ends.1)
ReadingEnds-from path limit old mid new files reads BadSchema ends = (ends.0 ∙ reads, ends.1)
ReadingEnds-from path limit old mid new files reads ReadFault ends = (rw (← reads) ends.0, ends.1)
ReadingEnds-from path limit old mid new files reads WriteFault ends = (ends.0 ∙ reads, ends.1)
ReadingEnds-from path limit old mid new files reads TooLong ends = (ends.0 ∙ reads, ends.1, rw (← files) ends.2)
ReadingEnds-from path limit old mid new files reads NoMemory ends = (ends.0 ∙ reads, ends.1)

pub FileEnds-from : (path : List ℕ) (limit : ℕ) (old mid new : Moment) → mid.files ≡ old.files → mid.reads ≡ old.reads → (result : Result (List ℕ) Status) → FileEnds path limit mid new result → FileEnds path limit old new result
FileEnds-from path limit old mid new files reads (Ok bytes) ends = (ends.0 ∙ reads, ends.1, rw (← files) ends.2)
FileEnds-from path limit old mid new files reads (Err ReadFault) ends = ReadingEnds-from path limit old mid new files reads ReadFault ends
FileEnds-from path limit old mid new files reads (Err TooLong) ends = ReadingEnds-from path limit old mid new files reads TooLong ends
FileEnds-from path limit old mid new files reads (Err NoMemory) ends = ReadingEnds-from path limit old mid new files reads NoMemory ends
FileEnds-from path limit old mid new files reads (Err Done) ends = absurd ends
FileEnds-from path limit old mid new files reads (Err SomeRefused) ends = absurd ends
FileEnds-from path limit old mid new files reads (Err Usage) ends = absurd ends
FileEnds-from path limit old mid new files reads (Err BadSchema) ends = absurd ends
FileEnds-from path limit old mid new files reads (Err WriteFault) ends = absurd ends

-- no call of the shelf failed, and no more than the limit was taken; the program's status is not one of a read
pub read_within : (path : List ℕ) (limit : ℕ) (old new : Moment) (status : Status) → status ≢ ReadFault → status ≢ TooLong → new.reads ≡ old.reads → new.taken ≤ limit → ReadingEnds path limit old new status
read_within path limit old new Done fault long reads taken = (reads, taken)
read_within path limit old new SomeRefused fault long reads taken = (reads, taken)
read_within path limit old new Usage fault long reads taken = (reads, taken)
read_within path limit old new BadSchema fault long reads taken = (reads, taken)
read_within path limit old new ReadFault fault long reads taken = absurd (fault refl)
read_within path limit old new WriteFault fault long reads taken = (reads, taken)
read_within path limit old new TooLong fault long reads taken = absurd (long refl)
read_within path limit old new NoMemory fault long reads taken = (reads, taken)

-- ---- its file and its texts

-- what holds of them, told in other words
pub Ends-map : {P Q : List ℕ → ℕ → List (List ℕ) → Type 0} → ((path : List ℕ) (limit : ℕ) (texts : List (List ℕ)) → P path limit texts → Q path limit texts) → (old new : Moment) (status : Status) → Ends P old new status → Ends Q old new status
Ends-map told old new status (inl ends) =
    inl record { path = ends.path; limit = ends.limit; texts = ends.texts; holds = told ends.path ends.limit ends.texts ends.holds; begun = ends.begun; reading = ends.reading; writing = ends.writing; over = ends.over }
Ends-map told old new status (inr none) = inr none

-- ---- a hand-over behind all that

module _ (old mid new : Moment) (hands : HandsAllOver mid new) where
  rest_is : new ≡ record mid { told = new.told; writes = new.writes }
  rest_is = hands.only.rest

  wrote_on : (texts : List (List ℕ)) → Wrote old.told mid.told texts → Wrote old.told new.told texts
  wrote_on texts wrote = Wrote-then-none old.told mid.told new.told texts wrote hands.only.told

  pub WritingEnds-on : (texts : List (List ℕ)) (status : Status) → WritingEnds texts old mid status → WritingEnds texts old new status
  WritingEnds-on texts Done ends = (hands.writes ∙ ends.0, wrote_on texts ends.1)
  WritingEnds-on texts SomeRefused ends = (hands.writes ∙ ends.0, wrote_on texts ends.1)
  WritingEnds-on texts Usage ends = (hands.writes ∙ ends.0, wrote_on texts ends.1)
  WritingEnds-on texts BadSchema ends = (hands.writes ∙ ends.0, wrote_on texts ends.1)
  WritingEnds-on texts ReadFault ends = (hands.writes ∙ ends.0, wrote_on texts ends.1)
  WritingEnds-on texts WriteFault ends = (rw hands.writes ends.0, WroteFront-then-none old.told mid.told new.told texts ends.1 hands.only.told)
  WritingEnds-on texts TooLong ends = (hands.writes ∙ ends.0, wrote_on texts ends.1)
  WritingEnds-on texts NoMemory ends = (hands.writes ∙ ends.0, wrote_on texts ends.1)

  reading_same : (path : List ℕ) (limit : ℕ) (status : Status) → ReadingEnds path limit old mid status → ReadingEnds path limit old (record mid { told = new.told; writes = new.writes }) status
  reading_same path limit Done ends = ends
  reading_same path limit SomeRefused ends = ends
  reading_same path limit Usage ends = ends
  reading_same path limit BadSchema ends = ends
  reading_same path limit ReadFault ends = ends
  reading_same path limit WriteFault ends = ends
  reading_same path limit TooLong ends = ends
  reading_same path limit NoMemory ends = ends

  ReadingEnds-on : (path : List ℕ) (limit : ℕ) (status : Status) → ReadingEnds path limit old mid status → ReadingEnds path limit old new status
  ReadingEnds-on path limit status ends = subst (λ (m : Moment). ReadingEnds path limit old m status) (sym rest_is) (reading_same path limit status ends)

  StopsOver-on : (status : Status) → StopsOver old new status
  StopsOver-on Done = tt
  StopsOver-on SomeRefused = tt
  StopsOver-on Usage = tt
  StopsOver-on BadSchema = tt
  StopsOver-on ReadFault = λ before. hands.all
  StopsOver-on WriteFault = tt
  StopsOver-on TooLong = λ before. hands.all
  StopsOver-on NoMemory = tt

  module _ {P : List ℕ → ℕ → List (List ℕ) → Type 0} (status : Status) where
    pub Ends-on : Ends P old mid status → Ends P old new status
    Ends-on (inl ends) = inl record {
      path = ends.path;
      limit = ends.limit;
      texts = ends.texts;
      holds = ends.holds;
      begun = ap (λ (m : Moment). m.begun) rest_is ∙ ends.begun;
      reading = ReadingEnds-on ends.path ends.limit status ends.reading;
      writing = WritingEnds-on ends.texts status ends.writing;
      over = StopsOver-on status;
    }
    Ends-on (inr (none, inl same)) = inr (none, inr (subst (λ (m : Moment). HandsAllOver m new) same hands))
    Ends-on (inr (none, inr before)) = inr (
      none,
      inr record {
        only = record {
          rest = rest_is ∙ ap (λ (m : Moment). record m { told = new.told; writes = new.writes }) before.only.rest;
          told = Wrote-trans old.told mid.told new.told [] [] before.only.told hands.only.told;
        };
        writes = hands.writes ∙ before.writes;
        all = hands.all;
      },
    )

  pub Tells-on : {Says : Status → List ℕ → Type 0} (status : Status) → Tells Says old mid status → Tells Says old new status
  Tells-on status tells = record {
    texts = tells.texts;
    holds = tells.holds;
    no_file = tells.no_file;
    rest = rest_is ∙ ap (λ (m : Moment). record m { told = new.told; writes = new.writes }) tells.rest;
    writing = WritingEnds-on tells.texts status tells.writing;
  }

  pub UsageEnds-on : (line : List ℕ) (status : Status) → UsageEnds line old mid status → UsageEnds line old new status
  UsageEnds-on line status (memory, tells) = (memory, Tells-on status tells)

-- what a program that stops at a file leaves to hand over
pub Ends-over : {P : List ℕ → ℕ → List (List ℕ) → Type 0} (old new : Moment) (status : Status) → Ends P old new status → StopsOver old new status
Ends-over old new status (inl ends) = ends.over
Ends-over old new status (inr none) = subst (StopsOver old new) (sym none.0) tt

-- one that reads no file stops at none
pub Tells-over : {Says : Status → List ℕ → Type 0} (old new : Moment) (status : Status) → Tells Says old new status → StopsOver old new status
Tells-over old new Done tells = tt
Tells-over old new SomeRefused tells = tt
Tells-over old new Usage tells = tt
Tells-over old new BadSchema tells = tt
Tells-over old new ReadFault tells = absurd (tells.no_file.0 refl)
Tells-over old new WriteFault tells = tt
Tells-over old new TooLong tells = absurd (tells.no_file.1 refl)
Tells-over old new NoMemory tells = tt

-- ---- the end of a program

-- a program comes to its end by these rules, which a hand-over leaves, and by which nothing is left to hand over where it stops at a file
module _ (Comes : Moment → Moment → Status → Type 0) (on : (old mid new : Moment) → HandsAllOver mid new → (status : Status) → Comes old mid status → Comes old new status)
    (over : (old new : Moment) (status : Status) → Comes old new status → StopsOver old new status) (old mid new : Moment) (front : IsFrontOf new.told.over new.told.written) where
  -- a hand-over was not due
  stopped : (came : Status) → (HandsOverAt came → ⊥) → Comes old mid came → new ≡ mid → EndsHandedOver Comes old new came
  stopped Done none comes same = absurd (none tt)
  stopped SomeRefused none comes same = absurd (none tt)
  stopped Usage none comes same = absurd (none tt)
  stopped BadSchema none comes same = absurd (none tt)
  stopped NoMemory none comes same = absurd (none tt)
  stopped ReadFault none comes same = let here : Comes old new ReadFault = rw same comes in record { ends = here; over = over old new ReadFault here }
  stopped TooLong none comes same = let here : Comes old new TooLong = rw same comes in record { ends = here; over = over old new TooLong here }
  stopped WriteFault none comes same = let here : Comes old new WriteFault = rw same comes in record { ends = inl here; over = front }

  -- all was handed over
  handed : (came : Status) → HandsOverAt came → Comes old new came → AllIsOver new.told → EndsHandedOver Comes old new came
  handed Done due comes all = record { ends = comes; over = all }
  handed SomeRefused due comes all = record { ends = comes; over = all }
  handed Usage due comes all = record { ends = comes; over = all }
  handed BadSchema due comes all = record { ends = comes; over = all }
  handed NoMemory due comes all = record { ends = comes; over = all }
  handed ReadFault due comes all = absurd due
  handed TooLong due comes all = absurd due
  handed WriteFault due comes all = absurd due

  pub handed_over : (came : Status) → Comes old mid came → (status : Status) → HandOverEnds came mid new status → EndsHandedOver Comes old new status
  handed_over came comes status (inl (same, none, stays)) = subst (EndsHandedOver Comes old new) (sym same) (stopped came none comes stays)
  handed_over came comes status (inr (due, inl (same, hands))) = subst (EndsHandedOver Comes old new) (sym same) (handed came due (on old mid new hands came comes) hands.all)
  handed_over came comes status (inr (due, inr (same, fails))) =
      subst (EndsHandedOver Comes old new) (sym same) record { ends = inr record { before = mid; came = came; comes = comes; due = due; failed = fails }; over = front }
