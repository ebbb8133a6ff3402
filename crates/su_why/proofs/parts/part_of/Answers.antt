-- The comparisons of the set, and behind them the fixed ones that count.
use Rattle.std.proofs.Common.{refl, subst}
use Rattle.std.proofs.Common.{List}
use Rattle.su_exec.specs.declared.tasks.TaskRow.{TaskRow}
use Rattle.su_why.specs.inside.Parts.{AreComparisonsOf, AreThoseIn}
use Rattle.su_why.proofs.PartTasks.{part_is}
use Rattle.su_why.proofs.parts.part_of.Goals as goal

pub returns : goal.returns
returns c =
    let task = c.args.task.now in let fixed = c.args.fixed.now in let set = c.args.set.now in
    let rows = c.in_ok-rows.rows in
    part_is task fixed set rows c.in_ok-rows.ensures c.in_ok-comparisons.comparisons c.in_ok-more.more c.append.new.self _
    (subst (λ (rs : List TaskRow). AreComparisonsOf task set rs c.in_ok-comparisons.comparisons) c.as_slice.ensures c.in_ok-comparisons.ensures)
    (subst (λ (rs : List TaskRow). AreThoseIn fixed rs c.in_ok-more.more) c.as_slice-2.ensures c.in_ok-more.ensures)
    c.in_ok-append.ensures.ok refl refl c.new.ensures
