use Rattle.std.proofs.Common.{◌++◌, List, map, take}
use Rattle.su_steps.specs.Objects.{width}
use Rattle.su_steps.specs.Choices.{choices}
use Rattle.su_steps.specs.Cases.{Case}
use Rattle.su_steps.specs.Terms.{case_of, AreTermsOf}
use Rattle.su_steps.specs.inside.Ready.{IsReady}
use Rattle.su_steps.proofs.making.push_terms.Given as goal

abbrev pub invariant-loop-k : goal.invariant-loop-k
invariant-loop-k l = record {
  ready : IsReady (width l.question.schema.now) l.question.resolved.now l.literals l.classes;
  are : (cs : List Case) → AreTermsOf l.question.schema.now l.question.maximal.now l.question.resolved.now cs l.fn.terms → AreTermsOf l.question.schema.now l.question.maximal.now l.question.resolved.now (cs ++ map (case_of l.disjunct) (take l.k (choices l.question.schema.now l.question.maximal.now l.question.resolved.now))) l.terms;
}
