-- What was noted stays, and the row is noted at the variables of its cells so far; no repetition so far means that no two of these cells have one variable.
use Rattle.std.proofs.Common.{arith}
use Rattle.su_tableau.specs.declared.symbols.Sym.TheVariants.{Var}
use Rattle.su_tableau.proofs.Rows.{contains_read}
use Rattle.su_map.proofs.Cells.{plain_from}
use Rattle.su_map.proofs.tables.note_row.Goals as goal

pub note-again-requires-clause-below : goal.note-again-requires-clause-below
note-again-requires-clause-below c = λ k e. let l = c.requires.below k (contains_read c.args.row.now c.loop-x.x-index c.x-item.result (Var k) c.loop-x-test.true c.x-item.is e) in omega arith

pub returns-clause-plain : goal.returns-clause-plain
returns-clause-plain c = λ no. plain_from c.args.row.now c.loop-x.x-index (omega arith) (c.loop-x.invariant.plain no)
