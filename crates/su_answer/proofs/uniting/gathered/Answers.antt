-- The rows so far and those of the lists that are left are together what was asked for; a missing list is one of them.
use Rattle.std.proofs.Common.{◌≡◌, inl, inr, List, Result, sym, subst}
use Rattle.std.specs.Prelude.{IfErr}
use Rattle.std.proofs.lemmas.Result.{err_from_is_err_and}
use Rattle.su_base.specs.declared.values.Value.{Value}
use Rattle.su_answer.specs.declared.faults.AnswerFault.{AnswerFault}
use Rattle.su_answer.specs.declared.faults.AnswerFault.TheVariants.{Limit}
use Rattle.su_answer.specs.inside.Executed.{ArePastLimit}
use Rattle.su_answer.proofs.FoundLists.{begun, one_list, all_rows, all_some, last_in, rows_ascend, too_many}
use Rattle.su_answer.proofs.uniting.gathered.Goals as goal

pub loop-list-init : goal.loop-list-init
loop-list-init c = begun c.args.lists c.args.so_far c.requires.ascending c.requires.few

pub returns-in_default-rows-clause-limit : goal.returns-in_default-rows-clause-limit
returns-in_default-rows-clause-limit c = λ _. inl (c.in-Some.list, last_in c.args.lists c.loop-list.lists c.pop.new.self c.in-Some.list c.args.so_far c.loop-list.all c.loop-list.invariant.gathered c.in-Some.ensures, c.in_default-rows.is)

pub united-requires-clause-more : goal.united-requires-clause-more
united-requires-clause-more c =
    rows_ascend c.args.lists c.in-Some.list c.in-Some-rows.more c.requires.lists
    (last_in c.args.lists c.loop-list.lists c.pop.new.self c.in-Some.list c.args.so_far c.loop-list.all c.loop-list.invariant.gathered c.in-Some.ensures) c.in-Some-rows.is

pub returns-in_err-all-clause-limit : goal.returns-in_err-all-clause-limit
returns-in_err-all-clause-limit c =
    let limit : AnswerFault → Type 0 = λ fault. fault ≡ Limit → ArePastLimit c.args.so_far c.args.lists in
    let e = err_from_is_err_and c.from_residual.result c.from_residual.ensures.1 in
    subst (λ (r : Result (List (List Value)) AnswerFault). IfErr r limit) (sym e.1)
    (subst limit (sym e.2)
    (λ is. inr (too_many c.args.lists c.loop-list.lists c.pop.new.self c.in-Some.list c.args.so_far c.in-Some-rows.more c.loop-list.all c.loop-list.invariant.gathered c.in-Some.ensures c.in-Some-rows.is (c.in_err-all.ensures.limit is))))

pub loop-list-preserved : goal.loop-list-preserved
loop-list-preserved c = record {
  gathered = one_list c.args.lists c.loop-list.lists c.pop.new.self c.in-Some.list c.args.so_far c.in-Some-rows.more c.loop-list.all c.in_ok-all.all c.loop-list.invariant.gathered c.in-Some.ensures c.in-Some-rows.is c.in_ok-all.ensures.members;
  ascending = c.in_ok-all.ensures.ascending;
  few = c.in_ok-all.ensures.few;
}

pub returns-clause-rows : goal.returns-clause-rows
returns-clause-rows c = λ h. all_rows c.args.lists c.loop-list.lists c.args.so_far c.loop-list.all c.loop-list.invariant.gathered c.in_default.ensures.0 h

pub returns-clause-ascending : goal.returns-clause-ascending
returns-clause-ascending c = c.loop-list.invariant.ascending

pub returns-clause-few : goal.returns-clause-few
returns-clause-few c = c.loop-list.invariant.few

pub returns-clause-all : goal.returns-clause-all
returns-clause-all c = all_some c.args.lists c.loop-list.lists c.args.so_far c.loop-list.all c.loop-list.invariant.gathered c.in_default.ensures.0
