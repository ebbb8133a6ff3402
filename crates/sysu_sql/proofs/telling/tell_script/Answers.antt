-- What is told is the reply that writes the script, with its status.
use Rattle.std.proofs.Common.{inl}
use Rattle.sysu_sql.proofs.telling.tell_script.Goals as goal

pub returns-in-Ok : goal.returns-in-Ok
returns-in-Ok g c = inl record { reply = c.in-Ok.reply; writes = c.in-Ok.ensures; told = rw (c.status_of.ensures.by, c.as_slice.ensures) at c.tell.ensures }
