-- Each entry's position is below the number of marks, so it has a mark and a rank.
use Rattle.std.proofs.Common.{arith, length}
use Rattle.su_index.proofs.Entries.{position_within}
use Rattle.su_index.proofs.keeping.kept_run.Goals as goal

pub bounds-ranks-place : goal.bounds-ranks-place
bounds-ranks-place c =
    let h = position_within (length c.args.kept.now) c.args.run.now c.loop-entry.entry-index (record { lead = 0; position = 0 }) c.requires.positions (omega arith) in
    omega (arith, h, c.requires.len)

pub bounds-kept-place : goal.bounds-kept-place
bounds-kept-place c = position_within (length c.args.kept.now) c.args.run.now c.loop-entry.entry-index _ c.requires.positions (omega arith)
