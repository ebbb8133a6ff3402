use Rattle.std.proofs.Common.{◌≡◌, true, take}
use Rattle.su_exec.specs.inside.Checks.{all_pass}
use Rattle.su_exec.proofs.checks.passes.Given as goal

abbrev pub invariant-loop-test : goal.invariant-loop-test
invariant-loop-test l = all_pass l.codes (take l.test-index l.tests) l.row l.other ≡ true
