use Rattle.std.proofs.Common.{◌≡◌, take}
use Rattle.su_reduce.specs.Sheets.{pick}
use Rattle.su_reduce.proofs.partners.put_key.Given as goal

abbrev pub invariant-loop-p : goal.invariant-loop-p
invariant-loop-p l = l.cells.items ≡ pick (take l.p-index l.key) l.row
