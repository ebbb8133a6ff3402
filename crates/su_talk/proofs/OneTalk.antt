-- Of the same input and the same files the same is told.
use Rattle.std.proofs.Common.{◌≡◌, inl, inr, ◌++◌, ◌∷◌, ◌∙◌, ◌+◌, ◌||◌, ◌&&◌, ℕ, Bool, true, false, List, [], length, Option, Some, None, codes, refl, ap, sym, subst, arith}
use Rattle.su_io.specs.declared.files.File.{File}
use Rattle.su_io.specs.Files.{contents, has_file}
use Rattle.su_lex.specs.declared.spans.Span.{Span}
use Rattle.su_stream.specs.declared.pieces.Piece.{Piece}
use Rattle.su_stream.specs.Cuts.{Cuts}
use Rattle.su_stream.specs.Ended.{text_at}
use Rattle.su_stream.proofs.Cutting.{one_cut}
use Rattle.su_lex.specs.Pieces.{after_mark}
use Rattle.su_state.specs.DatabaseValue.{DatabaseValue, IsWellKept}
use Rattle.su_session.specs.declared.replies.Reply.{Reply}
use Rattle.su_session.specs.declared.wants.Want.TheVariants.{Nothing, File as AFile}
use Rattle.su_once.specs.States.{AreAlike}
use Rattle.su_once.proofs.Replied.{one_reply, one_want}
use Rattle.su_talk.specs.declared.closes.Close.{Close}
use Rattle.su_talk.specs.declared.closes.Close.TheVariants.{Done, SomeRefused, InputFault, WriteFault, TooLong, NoMemory, KeepFault}
use Rattle.su_faults.specs.declared.faults.Fault.{Fault}
use Rattle.su_faults.specs.Languages.{AreEither}
use Rattle.su_places.specs.Laws.{told}
use Rattle.su_places.proofs.OnePlace.{one_told}
use Rattle.su_talk.specs.Answers.{AnswersOne, Answered, IsLine, IsPlaced}
use Rattle.su_talk.specs.Answers.AnswersOne.{without_file, with_file, missing, too_long}
use Rattle.su_talk.specs.Entries.{Entry, piece_of, pieces_of, some_refuses, texts_from, text_of, reply_head, verdict_of}
use Rattle.su_talk.specs.Entries.Entry.{Answer, Blank}
use Rattle.su_talk.specs.Events.{Event, come_of, told_of}
use Rattle.su_talk.specs.Laws.{HasFinished, TwoTalksAgree}
use Rattle.su_talk.specs.Statements.{AreAll}
use Rattle.su_talk.specs.Talked.{IsFinished, Ends}

not_nothing : (path : List ℕ) → Nothing ≡ AFile path → ⊥
not_nothing path same = absurd cc

same_path : (path other : List ℕ) → AFile path ≡ AFile other → path ≡ other
same_path path other same = cc

not_both : (b : Bool) → b ≡ true → b ≡ false → ⊥
not_both true h k = absurd cc
not_both false h k = absurd cc

same_line : (words path other : List ℕ) (r s : Reply) → path ≡ other → IsLine words path r → IsLine words other s → r ≡ s
same_line words path other r s same h k =
    let refused : r.refused ≡ s.refused = h.refused ∙ sym k.refused in
    let bytes : r.bytes ≡ s.bytes = h.line ∙ ap (λ (p : List ℕ). words ++ p ++ 10 ∷ []) same ∙ sym k.line in
    λ i. record { refused = refused i; bytes = bytes i }

alike_behind : (a b c d : DatabaseValue) → AreAlike a b → c ≡ a → d ≡ b → AreAlike c d
alike_behind a b c d alike h k = rw (h, k) alike

-- one way of cutting
one_way : (input : List ℕ) (pieces others : List Piece) (last end : Piece) → Cuts input pieces last → Cuts input others end → (others ≡ pieces) × (end ≡ last)
one_way input pieces others last end h k = one_cut (length input) (after_mark input) pieces h.rest last others k.rest end h.cut_off h.ends k.cut_off k.ends

same_pieces : (frames : Bool) (come : List ℕ) (pieces others : List Piece) → AreAll frames come pieces → AreAll frames come others → pieces ≡ others
same_pieces true come pieces others (last, h) (end, k) = sym (one_way come pieces others last end h k).0
same_pieces false come pieces others (front, last, is, h) (first, end, are, k) =
    let same = one_way come front first last end h k in
    is ∙ sym (are ∙ (λ i. same.0 i ++ same.1 i ∷ []))

module _ (files : List File) (text : List ℕ) (a b c d : DatabaseValue) (r s : Reply) (alike : AreAlike a b) (kept : IsWellKept a) (also : IsWellKept b) where
  one_answer : AnswersOne (Some files) a text r c → AnswersOne (Some files) b text s d → (r ≡ s) × AreAlike c d
  one_answer (without_file wants replied) (without_file asks answers) = one_reply a b c d text None r s alike kept also replied answers
  one_answer (without_file wants replied) (with_file other more asks there is answers) = absurd (not_nothing other (one_want a b text Nothing (AFile other) alike.schema wants asks))
  one_answer (without_file wants replied) (missing other asks none line same) = absurd (not_nothing other (one_want a b text Nothing (AFile other) alike.schema wants asks))
  one_answer (without_file wants replied) (too_long other asks there over line same) = absurd (not_nothing other (one_want a b text Nothing (AFile other) alike.schema wants asks))
  one_answer (with_file path bytes wants there is replied) (without_file asks answers) = absurd (not_nothing path (sym (one_want a b text (AFile path) Nothing alike.schema wants asks)))
  one_answer (with_file path bytes wants there is replied) (with_file other more asks here are answers) =
      let at = same_path path other (one_want a b text (AFile path) (AFile other) alike.schema wants asks) in
      let same : more ≡ bytes = are.0 ∙ sym (ap (contents files) at) ∙ sym is.0 in
      one_reply a b c d text (Some bytes) r s alike kept also replied (rw same at answers)
  one_answer (with_file path bytes wants there is replied) (missing other asks none line same) =
      let at = same_path path other (one_want a b text (AFile path) (AFile other) alike.schema wants asks) in
      absurd (not_both (has_file files path) there (ap (has_file files) at ∙ none))
  one_answer (with_file path bytes wants there is replied) (too_long other asks here over line same) =
      let at = same_path path other (one_want a b text (AFile path) (AFile other) alike.schema wants asks) in
      let long : length bytes ≡ length (contents files other) = ap (λ (x : List ℕ). length x) (is.0 ∙ ap (contents files) at) in
      absurd (omega (arith, over, long, is.1))
  one_answer (missing path wants none line same) (without_file asks answers) = absurd (not_nothing path (sym (one_want a b text (AFile path) Nothing alike.schema wants asks)))
  one_answer (missing path wants none line same) (with_file other more asks there is answers) =
      let at = same_path path other (one_want a b text (AFile path) (AFile other) alike.schema wants asks) in
      absurd (not_both (has_file files path) (ap (has_file files) at ∙ there) none)
  one_answer (missing path wants none line same) (missing other asks nor shown is) =
      let at = same_path path other (one_want a b text (AFile path) (AFile other) alike.schema wants asks) in
      (same_line (codes "can't read ") path other r s at line shown, alike_behind a b c d alike same is)
  one_answer (missing path wants none line same) (too_long other asks there over shown is) =
      let at = same_path path other (one_want a b text (AFile path) (AFile other) alike.schema wants asks) in
      absurd (not_both (has_file files path) (ap (has_file files) at ∙ there) none)
  one_answer (too_long path wants there over line same) (without_file asks answers) = absurd (not_nothing path (sym (one_want a b text (AFile path) Nothing alike.schema wants asks)))
  one_answer (too_long path wants there over line same) (with_file other more asks here is answers) =
      let at = same_path path other (one_want a b text (AFile path) (AFile other) alike.schema wants asks) in
      let long : length more ≡ length (contents files path) = ap (λ (x : List ℕ). length x) (is.0 ∙ ap (contents files) (sym at)) in
      absurd (omega (arith, over, long, is.1))
  one_answer (too_long path wants there over line same) (missing other asks none shown is) =
      let at = same_path path other (one_want a b text (AFile path) (AFile other) alike.schema wants asks) in
      absurd (not_both (has_file files path) there (ap (has_file files) at ∙ none))
  one_answer (too_long path wants there over line same) (too_long other asks here past shown is) =
      let at = same_path path other (one_want a b text (AFile path) (AFile other) alike.schema wants asks) in
      (same_line (codes "file too long ") path other r s at line shown, alike_behind a b c d alike same is)

-- two places that are told the same
told_same : (frames : Bool) (k : ℕ) (x : Span) (r : Reply) (m n : Option Fault) → told x.start m ≡ told x.start n → text_of frames k (Answer x r m) ≡ text_of frames k (Answer x r n)
told_same true k x r m n same = ap (λ (line : List ℕ). (((reply_head k x r ++ verdict_of r) ++ line) ++ 10 ∷ []) ++ r.bytes) same
told_same false k x r m n same = refl

module _ (frames : Bool) (files : List File) (come : List ℕ) where
  one_text : (k : ℕ) (x : Span) (r : Reply) (m n : Option Fault) (due : Bool) → IsPlaced due (text_at come x) m → IsPlaced due (text_at come x) n
      → text_of frames k (Answer x r m) ≡ text_of frames k (Answer x r n)
  one_text k x r m n true h j = told_same frames k x r m n (one_told AreEither (text_at come x) m n x.start h j)
  one_text k x r m n false h j = ap (λ (found : Option Fault). text_of frames k (Answer x r found)) (h ∙ sym j)

  -- the same texts, and the same refusals
  one_list : (k : ℕ) (es fs : List Entry) (a b c d : DatabaseValue) → AreAlike a b → pieces_of es ≡ pieces_of fs → Answered frames (Some files) come a es c → Answered frames (Some files) come b fs d
      → (texts_from frames k es ≡ texts_from frames k fs) × (some_refuses es ≡ some_refuses fs)
  one_list k [] [] a b c d alike same h j = (refl, refl)
  one_list k [] (f ∷ fs) a b c d alike same h j = absurd cc
  one_list k (e ∷ es) [] a b c d alike same h j = absurd cc
  one_list k (Answer x r m ∷ es) (Blank y ∷ fs) a b c d alike same h j =
      let heads : piece_of (Answer x r m) ≡ piece_of (Blank y) = cc in
      absurd (not_both true refl (ap (λ (p : Piece). p.blank) (sym heads) ∙ refl))
  one_list k (Blank x ∷ es) (Answer y s n ∷ fs) a b c d alike same h j =
      let heads : piece_of (Blank x) ≡ piece_of (Answer y s n) = cc in
      absurd (not_both true refl (ap (λ (p : Piece). p.blank) heads))
  one_list k (Blank x ∷ es) (Blank y ∷ fs) a b c d alike same (next, one, more) (then, other, rest) =
      let heads : piece_of (Blank x) ≡ piece_of (Blank y) = cc in
      let tails : pieces_of es ≡ pieces_of fs = cc in
      let spans : x ≡ y = ap (λ (p : Piece). p.span) heads in
      let later = one_list k es fs next then c d (alike_behind a b next then alike one other) tails more rest in
      ((λ i. text_of frames k (Blank (spans i)) ++ later.0 i), later.1)
  one_list k (Answer x r m ∷ es) (Answer y s n ∷ fs) a b c d alike same (next, (kept, one, placed), more) (then, (also, other, found), rest) =
      let heads : piece_of (Answer x r m) ≡ piece_of (Answer y s n) = cc in
      let tails : pieces_of es ≡ pieces_of fs = cc in
      let spans : x ≡ y = ap (λ (p : Piece). p.span) heads in
      let answer = one_answer files (text_at come x) a b next then r s alike kept also one (subst (λ (span : Span). AnswersOne (Some files) b (text_at come span) s then) (sym spans) other) in
      let later = one_list (k + 1) es fs next then c d answer.1 tails more rest in
      let at : IsPlaced (frames && r.refused) (text_at come x) n = rw (sym answer.0, sym spans) at found in
      let text = one_text k x r m n (frames && r.refused) placed at in
      let there : text_of frames k (Answer x r n) ≡ text_of frames k (Answer y s n) = λ i. text_of frames k (Answer (spans i) (answer.0 i) n) in
      ((λ i. (text ∙ there) i ++ later.0 i), λ i. (answer.0 i).refused || later.1 i)

abbrev status_by : Bool → Close
status_by true = SomeRefused
status_by false = Done

finished : (frames : Bool) (files : Option (List File)) (first : DatabaseValue) (events : List Event) (s : Close) → HasFinished s → Ends frames files first events s → (refused : Bool) × (s ≡ status_by refused) × IsFinished frames files first events refused
finished frames files first events Done has ends = (false, refl, ends)
finished frames files first events SomeRefused has ends = (true, refl, ends)
finished frames files first events InputFault (inl is) ends = absurd cc
finished frames files first events InputFault (inr is) ends = absurd cc
finished frames files first events WriteFault (inl is) ends = absurd cc
finished frames files first events WriteFault (inr is) ends = absurd cc
finished frames files first events TooLong (inl is) ends = absurd cc
finished frames files first events TooLong (inr is) ends = absurd cc
finished frames files first events NoMemory (inl is) ends = absurd cc
finished frames files first events NoMemory (inr is) ends = absurd cc
finished frames files first events KeepFault (inl is) ends = absurd cc
finished frames files first events KeepFault (inr is) ends = absurd cc

one_end : (frames : Bool) (files : List File) (a b : DatabaseValue) (one other : List Event) (m n : Bool) → AreAlike a b → IsFinished frames (Some files) a one m → IsFinished frames (Some files) b other n → come_of one ≡ come_of other
    → (told_of one ≡ told_of other) × (m ≡ n)
one_end frames files a b one other m n alike h k same =
    let pieces = same_pieces frames (come_of one) (pieces_of h.told) (pieces_of k.told) h.all (rw same k.all) in
    let entries = one_list frames files (come_of one) 0 h.told k.told a b h.settled.last k.settled.last alike pieces h.settled.answered.answered (rw same k.settled.answered.answered) in
    (h.settled.told_is ∙ entries.0 ∙ sym k.settled.told_is, sym h.refused_is ∙ entries.1 ∙ k.refused_is)

pub two_talks_agree : TwoTalksAgree
two_talks_agree frames files a b one other s t alike h k has also same =
    let (m, is, first) = finished frames (Some files) a one s has h.ends in
    let (n, are, second) = finished frames (Some files) b other t also k.ends in
    let agree = one_end frames files a b one other m n alike first second same in
    (agree.0, is ∙ ap status_by agree.1 ∙ sym are)
