-- The merges under the dependencies so far follow from all of them, since what one dependency puts together all do.
use Rattle.std.proofs.Common.{sym, ◌∙◌}
use Rattle.std.proofs.lemmas.List.{length-set}
use Rattle.std.proofs.lemmas.List.Elements.{All-contains}
use Rattle.su_classes.specs.inside.Worklists.{IsRule}
use Rattle.su_classes.proofs.Rings.{same_then}
use Rattle.su_classes.proofs.Rushed.{rule_more}
use Rattle.su_classes.proofs.rushing.look_at_row.Goals as goal

pub look-requires-clause-rule : goal.look-requires-clause-rule
look-requires-clause-rule c = All-contains IsRule c.args.ruled.now.rules.now c.index-rules-number.result c.requires.rules (c.loop-number.number, c.loop-number-test.true, sym c.index-rules-number.is)

pub loop-number-preserved : goal.loop-number-preserved
loop-number-preserved c = record {
  merging = rule_more c.args.ruled.now.rows.now c.args.ruled.now.rules.now c.args.table.now c.loop-number.table c.look.new.table c.index-rules-number.result (c.loop-number.number, c.loop-number-test.true, sym c.index-rules-number.is)
      c.loop-number.invariant.merging c.in_ok-look.ensures.merging;
  same = same_then c.args.work.now c.loop-number.work c.look.new.work c.loop-number.invariant.same c.in_ok-look.ensures.same;
  notes = length-set c.loop-number.notes c.loop-number.number c.look.new.notes ∙ c.loop-number.invariant.notes;
}
