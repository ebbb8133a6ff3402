-- A blank piece changes nothing but what is told of it.
use Rattle.std.proofs.Common.{refl, sym, ap, append-nil, Bool}
use Rattle.su_stream.specs.declared.pieces.Piece.{Piece}
use Rattle.su_changes.proofs.Extending.{IsExtension-self}
use Rattle.su_talk.specs.Entries.Entry.{Blank}
use Rattle.su_talk.proofs.Events.{or-false}
use Rattle.su_talk.proofs.Turns.{IsSame-self}
use Rattle.su_talk.proofs.talking.Talk.pass_over.Goals as goal

pub returns-in_ok-push_blank-clause-up : goal.returns-in_ok-push_blank-clause-up
returns-in_ok-push_blank-clause-up c files come = record {
  entry = Blank c.args.piece.span;
  is_of = ap (λ (b : Bool). let p : Piece = record { span = c.args.piece.span; blank = b } in p) (sym c.requires);
  rest = refl;
  answered = refl;
  count = refl;
  refused = sym (or-false c.args.self.now.refused);
  text = rw c.if-frames.true c.in_ok-push_blank.ensures;
  same = λ none. (none, IsSame-self c.args.self.now.session);
}

pub returns-else-frames-clause-up : goal.returns-else-frames-clause-up
returns-else-frames-clause-up c files come = record {
  entry = Blank c.args.piece.span;
  is_of = ap (λ (b : Bool). let p : Piece = record { span = c.args.piece.span; blank = b } in p) (sym c.requires);
  rest = refl;
  answered = refl;
  count = refl;
  refused = sym (or-false c.args.self.now.refused);
  text = rw c.if-frames.false (sym (append-nil c.args.self.now.group.replies.items));
  same = λ none. (none, IsSame-self c.args.self.now.session);
}

pub returns-in_ok-push_blank-clause-leads : goal.returns-in_ok-push_blank-clause-leads
returns-in_ok-push_blank-clause-leads c = record { rest = refl; leads = λ before leads. leads; extends = IsExtension-self c.args.self.now.session.schema }

pub returns-else-frames-clause-leads : goal.returns-else-frames-clause-leads
returns-else-frames-clause-leads c = record { rest = refl; leads = λ before leads. leads; extends = IsExtension-self c.args.self.now.session.schema }
