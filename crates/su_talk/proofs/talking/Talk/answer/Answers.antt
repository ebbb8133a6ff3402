-- The text is that of the piece, so what comes of it answers the piece.
use Rattle.std.proofs.Common.{refl, sym, ap, ◌∙◌, ◌++◌, List, ℕ, Bool}
use Rattle.su_stream.specs.declared.pieces.Piece.{Piece}
use Rattle.su_talk.specs.Entries.Entry.{Answer}
use Rattle.su_talk.specs.Entries.{text_of}
use Rattle.su_talk.proofs.Effects.{leads_more, extends_more, same_more, same_replies}
use Rattle.su_talk.proofs.talking.Talk.answer.Goals as goal

pub returns-clause-up : goal.returns-clause-up
returns-clause-up g c come given has =
    let comes = c.in_ok-outcome.ensures.comes in
    let effect = c.in_ok-outcome.outcome.effect in
    record {
      entry = Answer c.args.piece.span c.in_ok-outcome.outcome.reply c.in_ok-found.found;
      is_of = ap (λ (b : Bool). let p : Piece = record { span = c.args.piece.span; blank = b } in p) (sym c.requires.statement);
      rest = refl;
      answered = (c.answer.ensures.kept, rw (sym (c.text-text.ensures come given has)) comes.answers, rw (sym (c.text-text.ensures come given has)) c.in_ok-found.ensures);
      count = refl;
      refused = refl;
      text = c.in_ok-push_reply.ensures ∙ ap (λ (l : List ℕ). l ++ text_of c.args.self.now.manner.frames c.args.self.now.count (Answer c.args.piece.span c.in_ok-outcome.outcome.reply c.in_ok-found.found)) (same_replies effect c.args.self.now.group c.take.new.self c.in_ok-take.ensures);
      same = λ none. same_more effect c.args.self.now.group c.take.new.self c.args.self.now.session c.answer.new.session c.in_ok-take.ensures comes.makes none;
    }

pub returns-clause-leads : goal.returns-clause-leads
returns-clause-leads g c = record {
  rest = refl;
  leads = λ before leads. leads_more c.in_ok-outcome.outcome.effect c.args.self.now.group c.take.new.self before c.args.self.now.session c.answer.new.session c.in_ok-take.ensures c.in_ok-outcome.ensures.comes.makes leads;
  extends = extends_more c.in_ok-outcome.outcome.effect c.args.self.now.session c.answer.new.session c.in_ok-outcome.ensures.comes.makes;
}
