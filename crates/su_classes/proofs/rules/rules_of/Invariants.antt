use Rattle.std.proofs.Common.{Contains}
use Rattle.std.specs.Prelude.{All}
use Rattle.su_classes.specs.inside.Worklists.{IsRule}
use Rattle.su_classes.proofs.rules.rules_of.Given as goal

abbrev pub invariant-loop-fd : goal.invariant-loop-fd
invariant-loop-fd l = record {
  rules : All IsRule l.rules;
  given : All (λ r. Contains l.fds r.fd) l.rules;
}
