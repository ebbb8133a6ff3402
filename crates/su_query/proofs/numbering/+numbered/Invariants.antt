use Rattle.std.proofs.Common.{map, take, drop}
use Rattle.std.specs.List.{flat_map}
use Rattle.su_query.specs.Refs.{refs_of}
use Rattle.su_query.specs.NumberedConditions.{numbered}
use Rattle.su_query.specs.inside.RefNumbers.{HasNumbers, Takes}
use Rattle.su_query.proofs.numbering.+numbered.Given as goal

abbrev pub invariant-numbered_all-loop-part : goal.invariant-numbered_all-loop-part
invariant-numbered_all-loop-part l = record {
  taken : Takes (flat_map refs_of (take l.part-index l.parts)) l.fn.numbers l.numbers (λ number. map (numbered number) (take l.part-index l.parts)) l.conds;
  left : HasNumbers (flat_map refs_of (drop l.part-index l.parts)) l.numbers;
}
