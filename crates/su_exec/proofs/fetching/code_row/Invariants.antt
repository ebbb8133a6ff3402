use Rattle.std.proofs.Common.{◌≡◌, length, take}
use Rattle.std.specs.Prelude.{map}
use Rattle.su_reduce.specs.Codes.{decode, Extends}
use Rattle.su_exec.specs.inside.Coded.{picked}
use Rattle.su_reduce.specs.Sheets.{AreBelow}
use Rattle.su_exec.specs.Outputs.{values_at}
use Rattle.su_exec.proofs.fetching.code_row.Given as goal

abbrev pub invariant-loop-first : goal.invariant-loop-first
invariant-loop-first l = record {
  codes : Extends l.fn.codes l.codes;
  coded : AreBelow l.cells.items (length l.codes);
  values : map (decode l.codes) l.cells.items ≡ picked (take l.first-index l.firsts) (values_at l.columns l.stored);
}
