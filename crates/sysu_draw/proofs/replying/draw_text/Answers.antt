-- What is told is the reply to the text, with the status that it has.
use Rattle.std.proofs.Common.{inl}
use Rattle.sysu_draw.proofs.replying.draw_text.Goals as goal

pub returns-in-Ok : goal.returns-in-Ok
returns-in-Ok g c = inl record { came = c.in-Ok.reply.status; bytes = c.in-Ok.reply.bytes; reply = c.in-Ok.ensures.reply; told = rw c.as_slice.ensures at c.tell.ensures }
