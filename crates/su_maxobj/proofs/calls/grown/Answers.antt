-- The dependencies and objects read are those of the schema, of which a seed has one growth.
use Rattle.su_maxobj.proofs.calls.grown.Goals as goal

pub returns-clause-only : goal.returns-clause-only
returns-clause-only c other g = c.grown_from.ensures.only other (rw (c.fds.ensures, c.objects.ensures, c.read_objects.ensures) g)
