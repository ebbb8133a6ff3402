use Rattle.std.proofs.Common.{◌≡◌, length, take}
use Rattle.std.specs.Prelude.{map}
use Rattle.su_reduce.specs.Codes.{decode, Extends}
use Rattle.su_reduce.specs.Sheets.{AreBelow}
use Rattle.su_reduce.proofs.sheeting.put_codes.Given as goal

abbrev pub invariant-loop-value : goal.invariant-loop-value
invariant-loop-value l = record {
  codes : Extends l.fn.codes l.codes;
  coded : AreBelow l.cells.items (length l.codes);
  values : map (decode l.codes) l.cells.items ≡ take l.value-index l.row;
}
