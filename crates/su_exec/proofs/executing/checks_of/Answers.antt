-- The checks so far are those of the comparisons so far, and stay right as the codes grow.
use Rattle.std.proofs.Common.{◌≡◌, ◌<◌, List, length, get_or, take, ap, subst, ◌∙◌, rules}
use Rattle.su_base.proofs.Items.{AllZip-more}
use Rattle.su_exec.specs.declared.tasks.Compared.{Compared}
use Rattle.su_exec.specs.inside.Shown.{IsCheckOf}
use Rattle.su_reduce.proofs.CodeExtensions.{extends_self, extends_then}
use Rattle.su_exec.proofs.Outputs.{checks_up}
use Rattle.su_exec.proofs.executing.checks_of.Goals as goal

pub loop-compared-init : goal.loop-compared-init
loop-compared-init c = record { codes = extends_self c.args.codes.now; checks = search (rules, c.new-checks.ensures) }

pub loop-compared-preserved : goal.loop-compared-preserved
loop-compared-preserved c =
    let list : List Compared = c.args.task.now.comparisons in
    let i = c.loop-compared.compared-index in
    let item : Compared = c.compared-item.result in
    let low : i < length list = subst (λ (xs : List Compared). i < length xs) c.as_slice-compared-items.ensures c.loop-compared-test.true in
    let is : item ≡ get_or list i item = c.compared-item.is ∙ ap (λ (xs : List Compared). get_or xs i item) c.as_slice-compared-items.ensures in
    let more = c.in_ok-check.ensures.codes in
    record {
      codes = extends_then c.args.codes.now c.loop-compared.codes c.check_of.new.codes c.loop-compared.invariant.codes more;
      checks = AllZip-more (IsCheckOf c.check_of.new.codes) list c.loop-compared.checks.items c.push.new.self.items i item c.in_ok-check.check low is (checks_up c.loop-compared.codes c.check_of.new.codes (take i list) c.loop-compared.checks.items more c.loop-compared.invariant.checks) c.in_ok-check.ensures.check c.in_ok-push.ensures.items;
    }

pub returns-clause-codes : goal.returns-clause-codes
returns-clause-codes c = c.loop-compared.invariant.codes
