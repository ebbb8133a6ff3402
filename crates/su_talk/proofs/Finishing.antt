-- The input is over.
use Rattle.std.proofs.Common.{◌≡◌, ◌++◌, ◌||◌, ◌∙◌, ℕ, Bool, true, false, List, [], ◌∷◌, Option, Result, Ok, Err, OnOk, IfErr, refl, ap, sym, subst, append_assoc, append-nil}
use Rattle.su_io.specs.declared.files.File.{File}
use Rattle.su_io.specs.Ends.{Grew}
use Rattle.su_io.proofs.WrittenPieces.{Grew-trans, Stays-refl}
use Rattle.su_stream.specs.declared.pieces.Piece.{Piece}
use Rattle.su_stream.specs.Coming.{Closes}
use Rattle.su_state.specs.DatabaseValue.{DatabaseValue}
use Rattle.su_talk.specs.declared.closes.Close.{Close}
use Rattle.su_talk.specs.declared.talking.Talk.{Talk}
use Rattle.su_talk.specs.Entries.{pieces_of}
use Rattle.su_talk.specs.Events.{Event, come_of, is_over}
use Rattle.su_talk.specs.Statements.{AreAll, AreWhole, BeginsWith}
use Rattle.su_talk.specs.inside.Groups.{closing, FailsToClose, IsEmpty}
use Rattle.su_talk.specs.inside.Turns.{IsNext, AnswersPiece, Stops, IsLast, EndsLast}
use Rattle.su_talk.proofs.Closing.{closed_settled, closed_at, come_same, over_same, stops_closing}
use Rattle.su_talk.proofs.Events.{come_of-append, is_over-append, or-false}
use Rattle.su_talk.proofs.GoingOn.{stops_behind}
use Rattle.su_talk.proofs.Pieces.{begins_whole}
use Rattle.su_talk.proofs.Turns.{settle}

module _ (files : Option (List File)) (first : DatabaseValue) (events : List Event) (pieces : List Piece) (talk : Talk) (is : IsLast files first events pieces talk) (empty : IsEmpty talk.group) where
  -- with frames an open text is not carried out
  pub finished_now : (told : Option (List Event)) → talk.manner.frames ≡ true → EndsLast files first events talk.manner.frames talk.refused told told (Ok tt)
  finished_now told frames =
      let stands = settle files first events pieces talk is.at empty in
      let entries = is.at.told ++ is.at.held in
      let none = append-nil events in (
        [],
        Stays-refl told,
        rw none stands.sound,
        rw none (record {
          over = is.over;
          told = entries;
          settled = record {
            told_is = stands.told_is;
            last = talk.session;
            answered = is.at.answered;
            kept = stands.kept;
            no_fault = stands.no_fault;
          };
          all = subst (λ (b : Bool). AreAll b (come_of events) (pieces_of entries)) (sym frames) (rw is.at.pieces_are is.ended);
          refused_is = sym is.at.refused;
        }),
      )

  -- without, it is the last piece
  module _ (last : Piece) (closes : Closes talk.stream last) where
    whole : AreWhole (come_of events) (pieces ++ last ∷ [])
    whole = (pieces, last, refl, closes (come_of events) pieces is.come)

    last_next : IsNext events pieces last talk
    last_next = record {
      before = pieces;
      come = is.come;
      front = subst (λ (over : Bool). BeginsWith (come_of events) over (pieces ++ last ∷ [])) (sym is.over) (begins_whole (come_of events) (pieces ++ last ∷ []) whole);
    }

    module _ (mid : Talk) (before between now : Option (List Event)) where
      pub last_stops : (close : Close) → AnswersPiece files last talk mid before between (Err close) → Stops talk.manner.frames files first events before between close
      last_stops close answers = answers first events pieces is.at last_next

      pub last_closed : (new : Talk) (unit : Unit {0}) (r : Result (Unit {0}) Close) → AnswersPiece files last talk mid before between (Ok unit) → talk.manner.frames ≡ false → mid.manner ≡ talk.manner
          → new ≡ record mid { group = new.group } → IsEmpty new.group → OnOk r (Grew between now (closing mid.group mid.session)) → IfErr r (λ close. FailsToClose close mid.group mid.session between now)
          → EndsLast files first events talk.manner.frames new.refused before now r
      last_closed new unit (Err close) answers frames same rest none grew failed =
          let (more, grows, come, over, at) = answers first events pieces is.at last_next in
          stops_behind talk.manner.frames files first events more before between now close grows
          (rw same at (stops_closing files first (events ++ more) (pieces ++ last ∷ []) mid at close between now failed))
      last_closed new unit (Ok u) answers frames same rest none grew failed =
          let (more, grows, come, over, at) = answers first events pieces is.at last_next in
          let tail = closing mid.group mid.session in
          let end = (events ++ more) ++ tail in
          let whole_end = append_assoc events more tail in
          let come_mid : come_of (events ++ more) ≡ come_of events = come_of-append events more ∙ ap (λ (l : List ℕ). come_of events ++ l) come ∙ append-nil (come_of events) in
          let come_end : come_of end ≡ come_of events = come_same files first (events ++ more) (pieces ++ last ∷ []) mid at ∙ come_mid in
          let over_mid : is_over (events ++ more) ≡ is_over events = is_over-append events more ∙ ap (λ (b : Bool). is_over events || b) over ∙ or-false (is_over events) in
          let over_end : is_over end ≡ true = over_same files first (events ++ more) (pieces ++ last ∷ []) mid at ∙ over_mid ∙ is.over in
          let settled = closed_settled files first (events ++ more) (pieces ++ last ∷ []) mid at in
          let standing = closed_at files first (events ++ more) (pieces ++ last ∷ []) mid at new rest none in
          let manner : new.manner ≡ talk.manner = ap (λ (t : Talk). t.manner) rest ∙ same in
          let entries = at.told ++ at.held in
          let all : AreWhole (come_of end) (pieces_of entries) = rw (come_end, at.pieces_are) whole in (
            more ++ tail,
            Grew-trans before between now more tail grows grew,
            rw (← whole_end) (rw manner at standing.sound),
            rw (← whole_end) (record {
              over = over_end;
              told = entries;
              settled = rw same at settled;
              all = subst (λ (b : Bool). AreAll b (come_of end) (pieces_of entries)) (sym frames) all;
              refused_is = sym (ap (λ (t : Talk). t.refused) rest ∙ at.refused);
            }),
          )
