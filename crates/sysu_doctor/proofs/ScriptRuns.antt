-- How the statements of a script are answered, one more each time.
use Rattle.std.proofs.Common.{◌≡◌, ◌++◌, ◌||◌, ◌+◌, ◌<◌, ◌∙◌, ℕ, zero, suc, List, [], ◌∷◌, Option, Some, None, Ok, Err, false, take, drop, length, get_or, refl, sym, ap, subst, inl, inr, arith, append-nil, append_assoc}
use Rattle.std.proofs.Math.Seq.{take-suc}
use Rattle.std.proofs.lemmas.List.{length-append}
use Rattle.std.proofs.lemmas.List.Recursion.{or_push}
use Rattle.su_io.specs.declared.files.File.{File as AFile}
use Rattle.su_io.specs.declared.status.Status.{Status}
use Rattle.su_io.specs.declared.status.Status.TheVariants.{NoMemory}
use Rattle.su_io.specs.Moments.{Moment}
use Rattle.su_io.proofs.Programs.{FileEnds-from}
use Rattle.su_ddl.specs.Files.{statement_of}
use Rattle.su_lex.specs.declared.spans.Span.{Span}
use Rattle.su_replies.specs.Handed.{IsHanded, load_limit}
use Rattle.su_replies.specs.Output.{Answered, texts_of}
use Rattle.su_session.specs.Outcomes.{some_refused}
use Rattle.su_session.specs.Reply.{Replied}
use Rattle.su_session.specs.WantedFiles.{Wants}
use Rattle.su_session.specs.declared.replies.Reply.{Reply}
use Rattle.su_session.specs.declared.wants.Want.TheVariants.{File}
use Rattle.su_state.specs.DatabaseValue.{DatabaseValue, IsWellKept}
use Rattle.sysu_doctor.specs.Refusals.{refusal_line, refusal_lines}
use Rattle.sysu_doctor.specs.declared.findings.Findings.{Findings}
use Rattle.sysu_doctor.specs.inside.Turns.{OnlyReads, HandingEnds, HasRead, TurnEnds, WantsFile, Stays, AreRefusals, AnsweredAll, StopsIn}

-- ---- what only reads changes neither files nor what was written

pub only_on : (old mid new : Moment) → OnlyReads old mid → OnlyReads mid new → OnlyReads old new
only_on old mid new first second = second ∙ ap (λ (m : Moment). record m { begun = new.begun; taken = new.taken; failed = new.failed; reads = new.reads }) first

pub files_kept : (old new : Moment) → OnlyReads old new → new.files ≡ old.files
files_kept old new only = ap (λ (m : Moment). m.files) only

-- ---- one statement is handed its file

pub handed_well : (db : DatabaseValue) (text : List ℕ) (old new : Moment) (file : Option (List ℕ)) → HandingEnds db text old new (Ok file) → HasRead db text old new × IsHanded old.files db text file
handed_well db text old new None ends = (inl ends.1, ends.0)
handed_well db text old new (Some bytes) ends = (inr (ends.path, ends.wanted, ends.begun, ends.ends.0, ends.ends.1), (ends.path, ends.wanted, ends.ends.2))

-- it isn't
pub turn_fault : (db : DatabaseValue) (text : List ℕ) (next : DatabaseValue) (old new : Moment) (status : Status) → HandingEnds db text old new (Err status) → TurnEnds db text next old new (Err status)
turn_fault db text next old new status (inl reads) = inl reads
turn_fault db text next old new status (inr none) = inr (none.0, inl none.1)

-- ---- one more statement is answered

pub Answered-push : (files : Option (List AFile)) (texts : List (List ℕ)) (replies : List Reply) (old mid new : DatabaseValue) (text : List ℕ) (file : Option (List ℕ)) (reply : Reply)
    → Answered files old texts replies mid → IsWellKept mid → IsHanded files mid text file → Replied mid text file reply new
    → Answered files old (texts ++ text ∷ []) (replies ++ reply ∷ []) new
Answered-push files [] [] old mid new text file reply same kept handed replied = (rw (← same) kept, (file, rw (← same) handed, (new, rw (← same) replied, refl)))
Answered-push files [] (r ∷ rs) old mid new text file reply none kept handed replied = absurd none
Answered-push files (t ∷ ts) [] old mid new text file reply none kept handed replied = absurd none
Answered-push files (t ∷ ts) (r ∷ rs) old mid new text file reply answered kept handed replied =
    let rest = answered.1 in
    (answered.0, (rest.0, rest.1, (rest.2.0, rest.2.1, Answered-push files ts rs rest.2.0 mid new text file reply rest.2.2 kept handed replied)))

texts_of-push : (script : List ℕ) (spans : List Span) (span : Span) → texts_of script (spans ++ span ∷ []) ≡ texts_of script spans ++ statement_of script span ∷ []
texts_of-push script [] span = refl
texts_of-push script (s ∷ ss) span = let rest = texts_of-push script ss span in cc

-- the statements before one, it, and those behind it
texts_around : (script : List ℕ) (spans : List Span) (i : ℕ) (d : Span) → i < length spans → texts_of script spans ≡ texts_of script (take i spans) ++ statement_of script (get_or spans i d) ∷ texts_of script (drop (suc i) spans)
texts_around script [] i d within = absurd (omega (arith, within))
texts_around script (s ∷ ss) zero d within = refl
texts_around script (s ∷ ss) (suc i) d within = ap (λ (ts : List (List ℕ)). statement_of script s ∷ ts) (texts_around script ss i d (omega (arith, within)))

-- ---- the line of one more reply, whose number is that of those before it and one

lines-push : (k : ℕ) (replies : List Reply) (reply : Reply) → refusal_lines k (replies ++ reply ∷ []) ≡ refusal_lines k replies ++ refusal_line (k + length replies) reply
lines-push k [] reply = append-nil (refusal_line k reply) ∙ ap (λ (n : ℕ). refusal_line n reply) (let e : k ≡ k + 0 = omega arith in e)
lines-push k (r ∷ rs) reply =
    ap (λ t. refusal_line k r ++ t) (lines-push (k + 1) rs reply ∙ ap (λ (n : ℕ). refusal_lines (k + 1) rs ++ refusal_line n reply) (let e : k + 1 + length rs ≡ k + suc (length rs) = omega arith in e))
    ∙ sym (append_assoc (refusal_line k r) (refusal_lines (k + 1) rs) (refusal_line (k + suc (length rs)) reply))

pub refusals_none : (found : Findings) → found.fault ≡ false → found.lines ≡ [] → AreRefusals [] found
refusals_none found fault lines = record { fault_is = fault; lines_are = lines }

refusals_more : (replies : List Reply) (reply : Reply) (i : ℕ) (found next : Findings) → length replies ≡ i → AreRefusals replies found → next.fault ≡ (found.fault || reply.refused) → next.lines ≡ found.lines ++ refusal_line (i + 1) reply → AreRefusals (replies ++ reply ∷ []) next
refusals_more replies reply i found next count so_far fault lines =
    let number : i + 1 ≡ 1 + length replies = omega (arith, count) in
    record {
      fault_is = fault ∙ ap (λ b. b || reply.refused) so_far.fault_is ∙ sym (or_push some_refused (λ (r : Reply). r.refused) refl (λ r rs. refl) replies reply);
      lines_are = lines ∙ ap (λ t. t ++ refusal_line (i + 1) reply) so_far.lines_are ∙ ap (λ (n : ℕ). refusal_lines 1 replies ++ refusal_line n reply) number ∙ sym (lines-push 1 replies reply);
    }

-- those before the i-th were answered, and the outside stays so
pub record SoFar (script : List ℕ) (spans : List Span) (i : ℕ) (first last : DatabaseValue) (found : Findings) (old new : Moment) : Type 0 where
  pub only : OnlyReads old new
  pub replies : List Reply
  pub count : length replies ≡ i
  pub answered : Answered old.files first (texts_of script (take i spans)) replies last
  pub found_are : AreRefusals replies found
  pub stays : Stays first (texts_of script spans) old new

pub none_yet : (script : List ℕ) (spans : List Span) (first : DatabaseValue) (found : Findings) (now : Moment) → AreRefusals [] found → SoFar script spans 0 first first found now now
none_yet script spans first found now none = record { only = refl; replies = []; count = refl; answered = refl; found_are = none; stays = inl refl }

stayed_reads : (first : DatabaseValue) (texts : List (List ℕ)) (old new : Moment) → Stays first texts old new → new.reads ≡ old.reads
stayed_reads first texts old new (inl same) = ap (λ (m : Moment). m.reads) same
stayed_reads first texts old new (inr read) = read.3

-- the i-th
module _ (script : List ℕ) (spans : List Span) (i : ℕ) (d : Span) (first db next : DatabaseValue) (found : Findings) (old mid new : Moment)
    (within : i < length spans) (so_far : SoFar script spans i first db found old mid) (only : OnlyReads mid new) where
  abbrev text : List ℕ
  text = statement_of script (get_or spans i d)

  wants_file : (path : List ℕ) → Wants db text (File path) → WantsFile old.files first (texts_of script spans) path
  wants_file path wanted = record {
    done = texts_of script (take i spans);
    load = text;
    left = texts_of script (drop (suc i) spans);
    texts_are = texts_around script spans i d within;
    replies = so_far.replies;
    last = db;
    answered = so_far.answered;
    wanted = wanted;
  }

  stays_on : HasRead db text mid new → Stays first (texts_of script spans) old new
  stays_on (inl same) = subst (λ (m : Moment). Stays first (texts_of script spans) old m) (sym same) so_far.stays
  stays_on (inr (path, wanted, begun, reads, taken)) = inr (path, wants_file path wanted, begun, reads ∙ stayed_reads first (texts_of script spans) old mid so_far.stays, taken)

  texts_more : texts_of script (take (i + 1) spans) ≡ texts_of script (take i spans) ++ text ∷ []
  texts_more =
      let more : i + 1 ≡ suc i = omega arith in
      ap (λ k. texts_of script (take k spans)) more ∙ ap (texts_of script) (take-suc spans i d within) ∙ texts_of-push script (take i spans) (get_or spans i d)

  -- is answered
  pub one_more : (reply : Reply) → TurnEnds db text next mid new (Ok reply) → (more : Findings) → more.fault ≡ (found.fault || reply.refused) → more.lines ≡ found.lines ++ refusal_line (i + 1) reply → SoFar script spans (i + 1) first next more old new
  one_more reply (one, read) more fault lines =
      let kept : mid.files ≡ old.files = files_kept old mid so_far.only in
      record {
        only = only_on old mid new so_far.only only;
        replies = so_far.replies ++ reply ∷ [];
        count = length-append so_far.replies (reply ∷ []) ∙ ap (λ (n : ℕ). n + 1) so_far.count;
        answered = subst (λ (ts : List (List ℕ)). Answered old.files first ts (so_far.replies ++ reply ∷ []) next) (sym texts_more)
            (Answered-push old.files (texts_of script (take i spans)) so_far.replies first db next text one.file reply so_far.answered one.kept (subst (λ (files : Option (List AFile)). IsHanded files db text one.file) kept one.handed) one.replied);
        found_are = refusals_more so_far.replies reply i found more so_far.count so_far.found_are fault lines;
        stays = stays_on read;
      }

  -- is answered, and there is no memory for its line
  pub no_line : (reply : Reply) → TurnEnds db text next mid new (Ok reply) → StopsIn first (texts_of script spans) old new NoMemory
  no_line reply (one, read) = inr (refl, stays_on read)

  -- ends the run
  pub stops_here : (status : Status) → TurnEnds db text next mid new (Err status) → StopsIn first (texts_of script spans) old new status
  stops_here status (inl reads) =
      inl (
        reads.path,
        wants_file reads.path reads.wanted,
        reads.begun,
        FileEnds-from reads.path load_limit old mid new (files_kept old mid so_far.only) (stayed_reads first (texts_of script spans) old mid so_far.stays) (Err status) reads.ends,
      )
  stops_here status (inr none) = inr (none.0, stays_on none.1)

-- behind the last
pub answered_all : (script : List ℕ) (spans : List Span) (i : ℕ) (first last : DatabaseValue) (found : Findings) (old new : Moment) → take i spans ≡ spans → SoFar script spans i first last found old new → AnsweredAll first (texts_of script spans) last found old new
answered_all script spans i first last found old new all so_far = record {
  replies = so_far.replies;
  answered = subst (λ (s : List Span). Answered old.files first (texts_of script s) so_far.replies last) all so_far.answered;
  found_are = so_far.found_are;
  stays = so_far.stays;
}
