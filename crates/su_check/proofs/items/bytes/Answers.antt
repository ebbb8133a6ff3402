-- What was read are the bytes so far, and where no byte comes next the run ends; so no other list of bytes could be read.
use Rattle.std.proofs.Common.{refl, arith}
use Rattle.su_check.specs.NodeSymbols.{number}
use Rattle.su_check.specs.Ranges.{IsByte}
use Rattle.su_check.proofs.Runs.{map_ended}
use Rattle.su_check.proofs.Spelled.{one_number}
use Rattle.su_check.proofs.items.bytes.Goals as goal

pub returns-clause-only : goal.returns-clause-only
returns-clause-only c = λ ns r are ends e.
    map_ended number IsByte one_number c.loop-n.numbers ns _ c.loop-n.reader _ r c.loop-n.invariant.whole c.in_default.ensures.found c.loop-n.invariant.are
    (λ n h. c.in_default.ensures.none refl n (omega arith)) are ends e
