-- The rows that are read are loaded.
use Rattle.std.proofs.Common.{ℕ, ◌+◌, ap}
use Rattle.su_keep.proofs.Found.{fills_table}
use Rattle.su_keep.proofs.reading.fill_table.Goals as goal

pub returns-in-Ok-load-clause-done : goal.returns-in-Ok-load-clause-done
returns-in-Ok-load-clause-done g c = λ now.
    fills_table c.args.r (c.from-tree.result + 1) (g.S.Store.view c.args.store.now).trees c.in-Ok.rows c.in-Ok-load.field-0 c.args.database.now c.load.new.self
    (ap (λ (n : ℕ). n + 1) c.from-tree.ensures) (c.in-Ok.ensures.rows now) c.in-Ok-load.ensures.done
