-- The effect was found for whatever is replied; so it is that of the reply that was made.
use Rattle.su_talk.proofs.Effects.{refused_makes}
use Rattle.su_talk.proofs.answering.carry_out.Goals as goal

pub returns-then-reply-clause-makes : goal.returns-then-reply-clause-makes
returns-then-reply-clause-makes g c =
    let is = (rw c.database.ensures at c.in_ok-effect.ensures) c.in_ok-reply.reply c.carry_out.new.self c.in_ok-reply.ensures.replied in
    refused_makes c.in_ok-effect.effect c.in_ok-reply.reply c.args.session.now c.carry_out.new.self is c.if-reply.true

pub returns-clause-makes : goal.returns-clause-makes
returns-clause-makes g c =
    let is = (rw c.database.ensures at c.in_ok-effect.ensures) c.in_ok-reply.reply c.carry_out.new.self c.in_ok-reply.ensures.replied in
    is.accepted c.if-reply.false
