use Rattle.std.proofs.Common.{◌≡◌, ◌<◌, ◌++◌, [], drop, length, get_or}
use Rattle.su_steps.specs.Choices.{combinations}
use Rattle.su_steps.proofs.choosing.choice_at.Given as goal

abbrev pub invariant-loop-numbers : goal.invariant-loop-numbers
invariant-loop-numbers l = record {
  place : l.left < l.rest;
  rest : l.rest ≡ length (combinations (drop l.numbers-index l.coverings));
  whole : l.choice ++ get_or (combinations (drop l.numbers-index l.coverings)) l.left [] ≡ get_or (combinations l.coverings) l.k [];
}
