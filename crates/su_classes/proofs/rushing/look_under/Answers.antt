-- The numbers are those of given dependencies, and merges under one of these follow from all; so the merges so far do.
use Rattle.std.proofs.Common.{get_or, sym, ◌∙◌}
use Rattle.std.proofs.lemmas.List.{length-set}
use Rattle.std.proofs.lemmas.List.Elements.{All-contains}
use Rattle.su_classes.specs.inside.Worklists.{IsRule}
use Rattle.su_classes.proofs.Rings.{same_then}
use Rattle.su_classes.proofs.Rushed.{rule_more}
use Rattle.su_classes.proofs.rushing.look_under.Goals as goal

pub look-requires-clause-rule : goal.look-requires-clause-rule
look-requires-clause-rule c =
    let i = c.loop-number.number-index in
    All-contains IsRule c.args.ruled.now.rules.now c.index-rules-number.result c.requires.rules (get_or c.args.numbers.now i 0, c.requires.numbers i 0 c.loop-number-test.true, sym c.index-rules-number.is)

pub loop-number-preserved : goal.loop-number-preserved
loop-number-preserved c =
    let i = c.loop-number.number-index in
    record {
      merging = rule_more c.args.ruled.now.rows.now c.args.ruled.now.rules.now c.args.table.now c.loop-number.table c.look.new.table c.index-rules-number.result (get_or c.args.numbers.now i 0, c.requires.numbers i 0 c.loop-number-test.true, sym c.index-rules-number.is)
          c.loop-number.invariant.merging c.in_ok-look.ensures.merging;
      same = same_then c.args.work.now c.loop-number.work c.look.new.work c.loop-number.invariant.same c.in_ok-look.ensures.same;
      notes = length-set c.loop-number.notes (get_or c.args.numbers.now i 0) c.look.new.notes ∙ c.loop-number.invariant.notes;
    }
