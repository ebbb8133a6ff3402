-- A copy that is made changes nothing that is kept.
use Rattle.std.proofs.Common.{Some}
use Rattle.sysu_shell.proofs.homes.OpenFileHome.settle.Goals as goal

pub returns-in-Ok-clause-keeps : goal.returns-in-Ok-clause-keeps
returns-in-Ok-clause-keeps c = λ yes db kept clean. c.in-Ok.ensures.same (Some db) (kept (c.in-Ok.ensures.clean clean)) clean
