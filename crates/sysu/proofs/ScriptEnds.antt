-- How a script ends: behind its last statement, or at one that stops it.
use Rattle.std.proofs.lemmas.List.{take_all}
use Rattle.std.proofs.Common.{◌≡◌, ◌<◌, ◌≤◌, ◌∙◌, ◌⊎◌, ◌++◌, ℕ, List, [], ◌∷◌, Option, Some, Bool, true, false, Err, take, drop, length, get_or, suc, refl, sym, ap, inl, inr, append-nil, append_assoc}
use Rattle.su_io.specs.declared.files.File.{File as AFile}
use Rattle.su_io.specs.declared.status.Status.{Status}
use Rattle.su_io.specs.declared.status.Status.TheVariants.{Done, SomeRefused, Usage, BadSchema, ReadFault, WriteFault, TooLong, NoMemory}
use Rattle.su_io.specs.Moments.{Moment}
use Rattle.su_io.specs.WrittenTexts.{Wrote}
use Rattle.su_io.proofs.Programs.{ReadingEnds-from}
use Rattle.su_io.proofs.WrittenTexts.{Wrote-none, Wrote-then-none, WroteFront-behind, WroteFront-whole}
use Rattle.su_lex.specs.declared.spans.Span.{Span}
use Rattle.su_lex.specs.Pieces.{Pieces}
use Rattle.su_schema.specs.SchemaValue.{SchemaValue}
use Rattle.su_state.specs.DatabaseValue.{DatabaseValue}
use Rattle.su_session.specs.EmptyDatabase.{empty_database}
use Rattle.su_session.specs.declared.replies.Reply.{Reply}
use Rattle.su_session.specs.declared.wants.Want.TheVariants.{File}
use Rattle.su_session.specs.WantedFiles.{Wants}
use Rattle.su_ddl.specs.Files.{statement_of}
use Rattle.su_files.specs.RunFiles.{script_limit}
use Rattle.sysu.proofs.RepliesSoFar.{SoFar, answered_more, reply_texts-push, texts_around}
use Rattle.sysu.specs.Due.{FallsDue, FellDue, IsDue}
use Rattle.su_replies.specs.Handed.{load_limit}
use Rattle.sysu.specs.inside.HandedFiles.{HasTaken}
use Rattle.sysu.specs.inside.Turns.{AnsweredOne, IsAtScript, ScriptEnds, TurnEnds}
use Rattle.su_replies.specs.Output.{Answered, reply_texts, texts_of}
use Rattle.sysu.specs.Scripts.{Answers}
use Rattle.sysu.specs.Words.{Named}

-- a statement of the script is a load from this file
pub record Loads (files : Option (List AFile)) (script : List ℕ) (spans : List Span) (first : DatabaseValue) (path : List ℕ) : Type 0 where
  pub done : List (List ℕ)
  pub load : List ℕ
  pub left : List (List ℕ)
  pub statements : texts_of script spans ≡ done ++ load ∷ left
  pub replies : List Reply
  pub last : DatabaseValue
  pub answered : Answered files first done replies last
  pub wanted : Wants last load (File path)

-- its reply is among these
abbrev pub IsAmong : List Reply → List Reply → Type 0
IsAmong before all = (reply : Reply) × (behind : List Reply) × (all ≡ before ++ reply ∷ behind)

-- no file was begun, or no more than the limit was taken of that of a load, whose reply is among these
abbrev pub TookLoads : List ℕ → List Span → DatabaseValue → List Reply → Moment → Moment → Type 0
TookLoads script spans first replies old new =
    ((new.begun ≡ old.begun) × (new.taken ≡ old.taken))
    ⊎ ((path : List ℕ) × (load : Loads old.files script spans first path) × IsAmong load.replies replies × (new.begun ≡ Some path) × (new.taken ≤ load_limit))

among_more : (before all : List Reply) (reply : Reply) → IsAmong before all → IsAmong before (all ++ reply ∷ [])
among_more before all reply (one, behind, is) = (one, behind ++ reply ∷ [], ap (λ (rs : List Reply). rs ++ reply ∷ []) is ∙ append_assoc before (one ∷ behind) (reply ∷ []))

-- after one more statement, the one at place i, which took the file of a load or none, and was answered
pub took_more : (script : List ℕ) (spans : List Span) (i : ℕ) (d : Span) (replies : List Reply) (reply : Reply) (first db : DatabaseValue) (old between new : Moment) → i < length spans → Answered old.files first (texts_of script (take i spans)) replies db
    → TookLoads script spans first replies old between → HasTaken db (statement_of script (get_or spans i d)) between new → TookLoads script spans first (replies ++ reply ∷ []) old new
took_more script spans i d replies reply first db old between new within answered took taken = elim taken.took [
  | inl same ↦ elim took [
    | inl before ↦ inl (same.0 ∙ before.0, same.1 ∙ before.1)
    | inr load ↦ inr (load.0, load.1, among_more load.1.replies replies reply load.2, same.0 ∙ load.3, rw same.1 load.4)
  ]
  | inr one ↦ inr (
    one.0,
    record {
      done = texts_of script (take i spans);
      load = statement_of script (get_or spans i d);
      left = texts_of script (drop (suc i) spans);
      statements = texts_around script spans i d within;
      replies = replies;
      last = db;
      answered = answered;
      wanted = one.1.wanted;
    },
    (reply, [], refl),
    one.1.begun,
    one.2,
  )
]

-- the file begun last, of which no more than its limit was taken
record LastFile (Due : List ℕ → ℕ → Type 0) (new : Moment) : Type 0 where
  pub path : List ℕ
  pub limit : ℕ
  pub due : Due path limit
  pub begun : new.begun ≡ Some path
  pub taken : new.taken ≤ limit

-- there was no memory for the statements
pub none_answered : (names : Named) (schema : SchemaValue) (script : List ℕ) (old : Moment) → IsAtScript names schema script old → ScriptEnds names old old NoMemory
none_answered names schema script old at = record {
  path = names.script;
  limit = script_limit;
  texts = [];
  holds = (([], inr (inl (refl, refl, refl, (schema, at.read.accepted)))), inl refl);
  begun = at.begun;
  reading = (refl, at.taken);
  writing = (refl, Wrote-none old.told);
  over = tt;
}

-- what fell due falls due
is_due : (names : Named) (files : Option (List AFile)) (texts : List (List ℕ)) (path : List ℕ) (limit : ℕ) → FellDue names files texts path limit → IsDue names files path limit
is_due names files texts path limit (inl (is, most)) = ([], inl (refl, is, most))
is_due names files texts path limit (inr (inl (is, most, accepted))) = ([], inr (inl (refl, is, most, accepted)))
is_due names files texts path limit (inr (inr (most, (before, reply, behind, loads, are)))) = (before, inr (inr (loads, most)))

reply_texts-append : (xs ys : List Reply) → reply_texts (xs ++ ys) ≡ reply_texts xs ++ reply_texts ys
reply_texts-append [] ys = refl
reply_texts-append (x ∷ xs) ys = let rest = reply_texts-append xs ys in cc

module _ (names : Named) (schema : SchemaValue) (script : List ℕ) (spans : List Span) (first : DatabaseValue) (old : Moment)
    (opened : first ≡ empty_database schema) (at : IsAtScript names schema script old) (pieces : Pieces script spans) where
  answers : (done left : List (List ℕ)) (replies : List Reply) (last : DatabaseValue) → texts_of script spans ≡ done ++ left → Answered old.files first done replies last → Answers names old.files replies last left
  answers done left replies last statements answered = record {
    schema = schema;
    script = script;
    read = at.read;
    spans = spans;
    pieces = pieces;
    done = done;
    statements = statements;
    answered = rw (← opened) answered;
  }

  last_file : (replies : List Reply) (new : Moment) → TookLoads script spans first replies old new → LastFile (FellDue names old.files (reply_texts replies)) new
  last_file replies new (inl same) = record {
    path = names.script;
    limit = script_limit;
    due = inr (inl (refl, refl, (schema, at.read.accepted)));
    begun = same.0 ∙ at.begun;
    taken = rw same.1 at.taken;
  }
  last_file replies new (inr (path, loads, (reply, behind, are), begun, taken)) = record {
    path = path;
    limit = load_limit;
    due = inr (inr (
      refl,
      (
        reply_texts loads.replies,
        reply.bytes,
        reply_texts behind,
        (loads.replies, loads.last, loads.load, loads.left, answers loads.done (loads.load ∷ loads.left) loads.replies loads.last loads.statements loads.answered, loads.wanted, refl),
        ap reply_texts are ∙ reply_texts-append loads.replies (reply ∷ behind),
      ),
    ));
    begun = begun;
    taken = taken;
  }

  -- all statements were answered
  module _ (i : ℕ) (last : DatabaseValue) (refused : Bool) (new : Moment) (all : length spans ≤ i) (reads : new.reads ≡ old.reads) (writes : new.writes ≡ old.writes)
      (so_far : SoFar old.files script (take i spans) first last refused old.told new.told) (took : TookLoads script spans first so_far.replies old new) where
    all_answers : Answers names old.files so_far.replies last []
    all_answers = answers (texts_of script spans) [] so_far.replies last (sym (append-nil (texts_of script spans))) (rw (take_all i spans all) at so_far.answered)

    pub done_well : refused ≡ false → ScriptEnds names old new Done
    done_well same = let file = last_file so_far.replies new took in record {
      path = file.path;
      limit = file.limit;
      texts = reply_texts so_far.replies;
      holds = (file.due, (so_far.replies, last, all_answers, so_far.refused_is ∙ same, refl));
      begun = file.begun;
      reading = (reads, file.taken);
      writing = (writes, so_far.wrote);
      over = tt;
    }

    pub done_refused : refused ≡ true → ScriptEnds names old new SomeRefused
    done_refused same = let file = last_file so_far.replies new took in record {
      path = file.path;
      limit = file.limit;
      texts = reply_texts so_far.replies;
      holds = (file.due, (so_far.replies, last, all_answers, so_far.refused_is ∙ same, refl));
      begun = file.begun;
      reading = (reads, file.taken);
      writing = (writes, so_far.wrote);
      over = tt;
    }

  -- the statement at place i stops the script
  module _ (i : ℕ) (d : Span) (mid next : DatabaseValue) (refused : Bool) (between new : Moment) (within : i < length spans) (files : between.files ≡ old.files) (reads : between.reads ≡ old.reads) (writes : between.writes ≡ old.writes)
      (so_far : SoFar old.files script (take i spans) first mid refused old.told between.told) (took : TookLoads script spans first so_far.replies old between) where
    abbrev text : List ℕ
    text = statement_of script (get_or spans i d)

    abbrev left : List (List ℕ)
    left = texts_of script (drop (suc i) spans)

    here : Answers names old.files so_far.replies mid (text ∷ left)
    here = answers (texts_of script (take i spans)) (text ∷ left) so_far.replies mid (texts_around script spans i d within) so_far.answered

    due_here : (path : List ℕ) → Wants mid text (File path) → FallsDue names old.files (reply_texts so_far.replies) path load_limit
    due_here path wanted = inr (inr ((so_far.replies, mid, text, left, here, wanted, refl), refl))

    wrote_here : Wrote between.told new.told [] → Wrote old.told new.told (reply_texts so_far.replies)
    wrote_here none = Wrote-then-none old.told between.told new.told (reply_texts so_far.replies) so_far.wrote none

    -- no reply to the statement was made
    file_here : HasTaken mid text between new → LastFile (IsDue names old.files) new
    file_here taken = elim taken.took [
      | inl same ↦
          let file = last_file so_far.replies between took in
          record {
            path = file.path;
            limit = file.limit;
            due = is_due names old.files (reply_texts so_far.replies) file.path file.limit file.due;
            begun = same.0 ∙ file.begun;
            taken = rw same.1 file.taken;
          }
      | inr one ↦ record { path = one.0; limit = load_limit; due = (reply_texts so_far.replies, due_here one.0 one.1.wanted); begun = one.1.begun; taken = one.2 }
    ]

    behind : (reply : Reply) → AnsweredOne old.files mid text next reply → Answers names old.files (so_far.replies ++ reply ∷ []) next left
    behind reply one = answers (texts_of script (take i spans) ++ text ∷ []) left (so_far.replies ++ reply ∷ []) next
        (texts_around script spans i d within ∙ sym (append_assoc (texts_of script (take i spans)) (text ∷ []) left))
        (answered_more old.files script spans i d first mid next refused one.file reply old.told between.told within so_far one.kept one.handed one.replied)

    pub script_stops : (status : Status) → TurnEnds mid text next between new (Err status) → ScriptEnds names old new status
    script_stops ReadFault ends = record {
      path = ends.path;
      limit = load_limit;
      texts = reply_texts so_far.replies;
      holds = due_here ends.path ends.began.wanted;
      begun = ends.began.begun;
      reading = ReadingEnds-from ends.path load_limit old between new files reads ReadFault ends.reading;
      writing = (ends.writes ∙ writes, wrote_here ends.told);
      over = λ before. ends.all;
    }
    script_stops TooLong ends = record {
      path = ends.path;
      limit = load_limit;
      texts = reply_texts so_far.replies;
      holds = due_here ends.path ends.began.wanted;
      begun = ends.began.begun;
      reading = ReadingEnds-from ends.path load_limit old between new files reads TooLong ends.reading;
      writing = (ends.writes ∙ writes, wrote_here ends.told);
      over = λ before. ends.all;
    }
    script_stops WriteFault (inl ends) =
        let replies = so_far.replies ++ ends.reply ∷ [] in
        let file = last_file replies new (took_more script spans i d so_far.replies ends.reply first mid old between new within so_far.answered took ends.took) in
        record {
          path = file.path;
          limit = file.limit;
          texts = reply_texts replies;
          holds = inr (file.due, (replies, next, left, behind ends.reply (rw (← files) ends.answered), refl));
          begun = file.begun;
          reading = (ends.took.reads ∙ reads, file.taken);
          writing = (rw (← writes) ends.rose, rw (reply_texts-push so_far.replies ends.reply) (WroteFront-behind old.told between.told new.told (reply_texts so_far.replies) (ends.reply.bytes ∷ []) so_far.wrote ends.front));
          over = tt;
        }
    script_stops WriteFault (inr fails) =
        let file = last_file so_far.replies between took in
        let rest = fails.only.rest in
        record {
          path = file.path;
          limit = file.limit;
          texts = reply_texts so_far.replies;
          holds = inr (file.due, (so_far.replies, mid, text ∷ left, here, refl));
          begun = ap (λ (m : Moment). m.begun) rest ∙ file.begun;
          reading = (ap (λ (m : Moment). m.reads) rest ∙ reads, rw (ap (λ (m : Moment). m.taken) rest) file.taken);
          writing = (rw (← writes) fails.rose, WroteFront-whole old.told new.told (reply_texts so_far.replies) (wrote_here fails.only.told));
          over = tt;
        }
    script_stops NoMemory ends = let file = file_here ends.0 in record {
      path = file.path;
      limit = file.limit;
      texts = reply_texts so_far.replies;
      holds = (file.due, inr (so_far.replies, mid, text ∷ left, here, refl));
      begun = file.begun;
      reading = (ends.0.reads ∙ reads, file.taken);
      writing = (ends.1 ∙ writes, wrote_here ends.2);
      over = tt;
    }
    script_stops Done ends = absurd ends
    script_stops SomeRefused ends = absurd ends
    script_stops Usage ends = absurd ends
    script_stops BadSchema ends = absurd ends
