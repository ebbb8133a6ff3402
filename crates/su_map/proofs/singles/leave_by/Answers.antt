-- A row with one target is sent there by every sending, so what the near rows keep beside that target they keep in every sending.
use Rattle.su_map.proofs.singles.leave_by.Goals as goal

pub leave_near-requires-clause-target : goal.leave_near-requires-clause-target
leave_near-requires-clause-target c = c.requires.rows c.args.row c.in-Some.target c.requires.row (c.has.ensures.0 c.if-not-has.false) c.in-Some.ensures.member

pub returns-else-not-leave_near-clause-all : goal.returns-else-not-leave_near-clause-all
returns-else-not-leave_near-clause-all c = λ a f. c.leave_near.ensures.all a f (c.in-Some.ensures.only (a c.args.row) (f.within c.args.row c.requires.row (c.has.ensures.0 c.if-not-has.false)))

pub returns-then-not-leave_near-clause-all : goal.returns-then-not-leave_near-clause-all
returns-then-not-leave_near-clause-all c = λ a f. c.leave_near.ensures.all a f (c.in-Some.ensures.only (a c.args.row) (f.within c.args.row c.requires.row (c.has.ensures.0 c.if-not-has.false)))

pub returns-then-not-leave_near-clause-none : goal.returns-then-not-leave_near-clause-none
returns-then-not-leave_near-clause-none c = λ none a f. c.leave_near.ensures.none c.if-not-leave_near.true a f (c.in-Some.ensures.only (a c.args.row) (f.within c.args.row c.requires.row (c.has.ensures.0 c.if-not-has.false)))
