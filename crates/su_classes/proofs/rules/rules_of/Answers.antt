-- Each rule so far has the attributes of its dependency, and this is one of those given.
use Rattle.std.proofs.Common.{◌∷◌, [], List, Contains, subst, sym}
use Rattle.std.specs.Prelude.{All}
use Rattle.std.proofs.lemmas.List.Elements.{All-append}
use Rattle.su_fd.specs.declared.dependencies.Fd.{Fd}
use Rattle.su_classes.specs.declared.rules.Rule.{Rule}
use Rattle.su_classes.specs.inside.Worklists.{IsRule}
use Rattle.su_classes.proofs.Rings.{all_one}
use Rattle.su_classes.proofs.rules.rules_of.Goals as goal

pub loop-fd-preserved : goal.loop-fd-preserved
loop-fd-preserved c =
    let fds = c.args.fds.now in
    let old = c.loop-fd.rules in
    let r = c.in_ok-rule_of.field-0 in
    let given : Contains fds r.fd = subst (λ (f : Fd). Contains fds f) (sym c.in_ok-rule_of.ensures.fd) (c.loop-fd.fd-index, c.loop-fd-test.true, sym c.fd-item.is) in
    record {
      rules = subst (λ (rules : List Rule). All IsRule rules) (sym c.in_ok-push.ensures.ok) (All-append IsRule old (r ∷ []) c.loop-fd.invariant.rules (all_one IsRule r c.in_ok-rule_of.ensures.rule));
      given = subst (λ (rules : List Rule). All (λ u. Contains fds u.fd) rules) (sym c.in_ok-push.ensures.ok) (All-append (λ u. Contains fds u.fd) old (r ∷ []) c.loop-fd.invariant.given (all_one (λ u. Contains fds u.fd) r given));
    }
