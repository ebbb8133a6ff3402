use Rattle.std.proofs.Common.{◌≡◌, take}
use Rattle.su_exec.proofs.tasks.copy_sources.Given as goal

abbrev pub invariant-loop-source : goal.invariant-loop-source
invariant-loop-source l = l.copied ≡ take l.source-index l.sources
