-- The variables so far are the needed ones, those of the edges and those of the checks so far.
use Rattle.std.proofs.Common.{◌≡◌, ◌<◌, ◌++◌, ℕ, List, length, get_or, ap, ◌∙◌, arith}
use Rattle.su_where.specs.declared.operators.Op.TheVariants.{Equal}
use Rattle.su_exec.specs.declared.checks.Check.{Check}
use Rattle.su_exec.specs.declared.checks.CodedSymbol.TheVariants.{Code}
use Rattle.su_exec.specs.inside.Checks.{vars_of}
use Rattle.su_exec.specs.inside.Edges.{Edge}
use Rattle.su_exec.proofs.WantedVariables.{checks_wanted, only_wanted, stays_wanted}
use Rattle.su_exec.proofs.merging.wanted_by.Goals as goal

pub loop-check-preserved : goal.loop-check-preserved
loop-check-preserved c =
    let needed = c.args.needed.now in
    let es : List (Edge ℕ) = c.args.body.now.edges.items in
    let cs : List Check = c.args.body.now.checks.items in
    let i = c.loop-check.check-index in
    let d : Check = record { left = Code 0; op = Equal; right = Code 0 } in
    let len : length c.deref-check-items.result.now ≡ length cs = ap length c.deref-check-items.ensures.value in
    let test = c.loop-check-test.true in
    let low : i < length cs = omega arith in
    let olds = c.loop-check.wanted.items in
    let middle = c.add_variable.new.vars.items in
    let news = c.add_variable-in-loop-check.new.vars.items in
    let first : middle ≡ olds ++ vars_of (get_or cs i d).left = c.in_ok-add_variable.ensures ∙ ap (λ (xs : List Check). olds ++ vars_of (get_or xs i d).left) c.deref-check-items.ensures.value in
    let second : news ≡ middle ++ vars_of (get_or cs i d).right = c.in_ok-add_variable-2.ensures ∙ ap (λ (xs : List Check). middle ++ vars_of (get_or xs i d).right) c.deref-check-items.ensures.value in
    record {
      needed = λ k h. stays_wanted needed es cs i d low olds middle news first second k (c.loop-check.invariant.needed k h);
      edges = λ k h. stays_wanted needed es cs i d low olds middle news first second k (c.loop-check.invariant.edges k h);
      checks = checks_wanted needed es cs i d low olds middle news first second c.loop-check.invariant.checks;
      only = only_wanted needed es cs i d low olds middle news first second c.loop-check.invariant.only;
    }
