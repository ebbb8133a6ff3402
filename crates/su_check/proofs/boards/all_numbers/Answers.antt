-- The numbers so far are those of the cells of the rows so far, and each variable of a row is among the variables, so that it has one.
use Rattle.std.proofs.Common.{◌+◌, [], length, ap, subst, ◌∙◌, arith, Contains}
use Rattle.std.proofs.lemmas.List.{get_or_default, length_push}
use Rattle.su_tableau.specs.declared.symbols.Sym.TheVariants.{Var}
use Rattle.su_check.specs.inside.Boards.{AreNumbers}
use Rattle.su_check.proofs.Boarded.{numbers_push}
use Rattle.su_check.proofs.boards.all_numbers.Goals as goal

pub numbers_of-requires-clause-there : goal.numbers_of-requires-clause-there
numbers_of-requires-clause-there c = λ k has.
    let is = c.as_slice.ensures ∙ c.row-item.is ∙ get_or_default c.args.rows.now c.loop-row.row-index c.row-item.result [] c.loop-row-test.true in
    c.requires.there k (c.loop-row.row-index, c.loop-row-test.true, subst (λ r. Contains r (Var k)) is has)

pub loop-row-preserved : goal.loop-row-preserved
loop-row-preserved c =
    let is = c.as_slice.ensures ∙ c.row-item.is ∙ get_or_default c.args.rows.now c.loop-row.row-index c.row-item.result [] c.loop-row-test.true in
    record {
      one_each = ap length c.in_ok-push.ensures.ok ∙ length_push c.loop-row.all c.in_ok-numbers_of.field-0 ∙ ap (λ n. n + 1) c.loop-row.invariant.one_each;
      rows = λ head are.
          numbers_push head c.args.variables.now c.args.rows.now c.loop-row.all c.push.new.self c.loop-row.row-index c.in_ok-numbers_of.field-0 c.loop-row.invariant.one_each c.in_ok-push.ensures.ok (c.loop-row.invariant.rows head are)
          (subst (λ r. AreNumbers head c.args.variables.now r c.in_ok-numbers_of.field-0) is (c.in_ok-numbers_of.ensures head are));
    }

pub returns-clause-rows : goal.returns-clause-rows
returns-clause-rows c = λ head are i h. c.loop-row.invariant.rows head are i (let l = c.loop-row-test.false in omega arith)
