-- A dependency that lies in the row has its left cells among the row's own, so the key of their labels can be read and noted.
use Rattle.std.proofs.Common.{refl, length}
use Rattle.su_classes.proofs.Listed.{left_cells}
use Rattle.su_classes.proofs.firsts.first_of.Goals as goal

pub key_of-requires : goal.key_of-requires
key_of-requires c = left_cells (length c.args.side.now.table.now) c.args.side.now.fd.now c.args.row.now c.requires.cells (c.if-not-lies_in.ensures.0 refl) c.args.side.now.left.now c.requires.left
