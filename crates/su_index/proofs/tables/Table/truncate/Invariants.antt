-- The rows so far are a front of those at first, none shorter than what is asked for.
use Rattle.std.proofs.Common.{◌≡◌, length, take}
use Rattle.su_index.proofs.tables.Table.truncate.Given as goal

abbrev pub invariant-loop-self : goal.invariant-loop-self
invariant-loop-self l = (l.self.width ≡ l.initial.self.width) × (take l.len l.self.rows ≡ take l.len l.initial.self.rows) × (l.self.rows ≡ take (length l.self.rows) l.initial.self.rows)

abbrev pub decreases-loop-self : goal.decreases-loop-self
decreases-loop-self l = length l.self.rows
