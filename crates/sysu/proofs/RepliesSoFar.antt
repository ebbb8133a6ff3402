-- The replies so far, one statement after another.
use Rattle.std.proofs.Common.{◌≡◌, ◌++◌, ◌||◌, ◌+◌, ◌<◌, ℕ, List, [], ◌∷◌, Option, Bool, false, take, drop, length, get_or, zero, suc, refl, ◌∙◌, ap, arith}
use Rattle.std.proofs.Math.Seq.{take-suc}
use Rattle.std.proofs.lemmas.List.Recursion.{or_push}
use Rattle.su_io.specs.declared.files.File.{File}
use Rattle.su_io.specs.Moments.{Told}
use Rattle.su_io.specs.WrittenTexts.{Wrote}
use Rattle.su_io.proofs.WrittenTexts.{Wrote-none, Wrote-trans}
use Rattle.su_lex.specs.declared.spans.Span.{Span}
use Rattle.su_session.specs.declared.replies.Reply.{Reply}
use Rattle.su_state.specs.DatabaseValue.{DatabaseValue, IsWellKept}
use Rattle.su_session.specs.Reply.{Replied}
use Rattle.su_ddl.specs.Files.{statement_of}
use Rattle.su_session.specs.Outcomes.{some_refused}
use Rattle.su_replies.specs.Output.{Answered, reply_texts, texts_of}
use Rattle.su_replies.specs.Handed.{IsHanded}

-- the statements at these spans were answered, and their replies written
pub record SoFar (files : Option (List File)) (script : List ℕ) (spans : List Span) (first last : DatabaseValue) (refused : Bool) (old new : Told) : Type 0 where
  pub replies : List Reply
  pub answered : Answered files first (texts_of script spans) replies last
  pub refused_is : some_refused replies ≡ refused
  pub wrote : Wrote old new (reply_texts replies)

-- one more statement is answered
pub Answered-push : (files : Option (List File)) (texts : List (List ℕ)) (replies : List Reply) (old mid new : DatabaseValue) (text : List ℕ) (file : Option (List ℕ)) (reply : Reply)
    → Answered files old texts replies mid → IsWellKept mid → IsHanded files mid text file → Replied mid text file reply new
    → Answered files old (texts ++ text ∷ []) (replies ++ reply ∷ []) new
Answered-push files [] [] old mid new text file reply same kept handed replied = (rw (← same) kept, (file, rw (← same) handed, (new, rw (← same) replied, refl)))
Answered-push files [] (r ∷ rs) old mid new text file reply none kept handed replied = absurd none
Answered-push files (t ∷ ts) [] old mid new text file reply none kept handed replied = absurd none
Answered-push files (t ∷ ts) (r ∷ rs) old mid new text file reply answered kept handed replied =
    let rest = answered.1 in
    (answered.0, (rest.0, rest.1, (rest.2.0, rest.2.1, Answered-push files ts rs rest.2.0 mid new text file reply rest.2.2 kept handed replied)))

pub reply_texts-push : (replies : List Reply) (reply : Reply) → reply_texts (replies ++ reply ∷ []) ≡ reply_texts replies ++ reply.bytes ∷ []
reply_texts-push [] reply = refl
reply_texts-push (r ∷ rs) reply = let rest = reply_texts-push rs reply in cc

texts_of-push : (script : List ℕ) (spans : List Span) (span : Span) → texts_of script (spans ++ span ∷ []) ≡ texts_of script spans ++ statement_of script span ∷ []
texts_of-push script [] span = refl
texts_of-push script (s ∷ ss) span = let rest = texts_of-push script ss span in cc

-- the statements before one, it, and those behind it
pub texts_around : (script : List ℕ) (spans : List Span) (i : ℕ) (d : Span) → i < length spans → texts_of script spans ≡ texts_of script (take i spans) ++ statement_of script (get_or spans i d) ∷ texts_of script (drop (suc i) spans)
texts_around script [] i d within = absurd (omega (arith, within))
texts_around script (s ∷ ss) zero d within = refl
texts_around script (s ∷ ss) (suc i) d within = ap (λ (ts : List (List ℕ)). statement_of script s ∷ ts) (texts_around script ss i d (omega (arith, within)))

-- a turn: the statement at place i is answered
module _ (files : Option (List File)) (script : List ℕ) (spans : List Span) (i : ℕ) (d : Span) (first mid last : DatabaseValue) (refused : Bool) (file : Option (List ℕ)) (reply : Reply)
    (old between : Told) (within : i < length spans) (so_far : SoFar files script (take i spans) first mid refused old between)
    (kept : IsWellKept mid) (handed : IsHanded files mid (statement_of script (get_or spans i d)) file) (replied : Replied mid (statement_of script (get_or spans i d)) file reply last) where
  pub texts_more : texts_of script (take (i + 1) spans) ≡ texts_of script (take i spans) ++ statement_of script (get_or spans i d) ∷ []
  texts_more =
      let next : i + 1 ≡ suc i = omega arith in
      ap (λ k. texts_of script (take k spans)) next ∙ ap (texts_of script) (take-suc spans i d within) ∙ texts_of-push script (take i spans) (get_or spans i d)

  pub answered_more : Answered files first (texts_of script (take i spans) ++ statement_of script (get_or spans i d) ∷ []) (so_far.replies ++ reply ∷ []) last
  answered_more = Answered-push files (texts_of script (take i spans)) so_far.replies first mid last _ file reply so_far.answered kept handed replied

  abbrev pub one_more : (new : Told) (told : Bool) → reply.refused ≡ told → Wrote between new (reply.bytes ∷ []) → SoFar files script (take (i + 1) spans) first last (refused || told) old new
  one_more new told same wrote = record {
    replies = so_far.replies ++ reply ∷ [];
    answered = rw texts_more answered_more;
    refused_is = or_push some_refused (λ (r : Reply). r.refused) refl (λ r rs. refl) so_far.replies reply ∙ ap (λ b. b || reply.refused) so_far.refused_is ∙ ap (λ b. refused || b) same;
    wrote = rw (reply_texts-push so_far.replies reply) (Wrote-trans old between new (reply_texts so_far.replies) (reply.bytes ∷ []) so_far.wrote wrote);
  }

-- nothing was answered yet
pub none_yet : (files : Option (List File)) (script : List ℕ) (first : DatabaseValue) (told : Told) → SoFar files script [] first first false told told
none_yet files script first told = record { replies = []; answered = refl; refused_is = refl; wrote = Wrote-none told }
