-- The changes lead from what is kept to the database.
use Rattle.std.proofs.Common.{Some}
use Rattle.sysu_shell.proofs.Kept.{kept_on}
use Rattle.sysu_shell.proofs.homes.OpenFileHome.keep.Goals as goal

pub returns-in-Ok-clause-kept : goal.returns-in-Ok-clause-kept
returns-in-Ok-clause-kept c =
    let it = c.requires in
    kept_on c.args.self.now c.keep.new.self it.0 c.args.db.now c.args.changes it.1 it.2 it.3 c.in-Ok.ensures.clean (c.in-Ok.ensures.done (Some it.0))
