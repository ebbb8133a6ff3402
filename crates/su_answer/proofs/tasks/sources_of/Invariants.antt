use Rattle.su_answer.specs.inside.Joined.{AreSourcesOf}
use Rattle.su_answer.proofs.tasks.sources_of.Given as goal

abbrev pub invariant-loop-o : goal.invariant-loop-o
invariant-loop-o l = AreSourcesOf l.schema l.attributes l.o l.objects l.sources
