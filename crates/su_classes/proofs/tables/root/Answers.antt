-- Each step goes to a lesser item of the same label and shortens the way there, which keeps what labellings are sound; an item that is its own parent is the root.
use Rattle.std.proofs.Common.{◌≤◌, ◌∙◌, arith}
use Rattle.su_classes.specs.Tables.{rep}
use Rattle.su_classes.proofs.Trees.{shortened_then, shortened_step}
use Rattle.su_classes.proofs.tables.root.Goals as goal

pub path-preserved : goal.path-preserved
path-preserved c =
    let t = c.path.table in
    let at = c.path.at in
    let f = c.path.invariant.shortened.ordered in
    let at_in = c.path.invariant.at_in in
    let at_le = c.path.invariant.at_least in
    let step = shortened_step t at f at_in in
    let parent : rep t at ≤ at = f at at_in in
    let above : rep t (rep t at) ≤ rep t at = f (rep t at) (omega arith) in
    let len = step.same_length in
    record {
      shortened = shortened_then c.args.table.now t _ c.path.invariant.shortened step;
      at_in = omega (arith, len);
      at_least = omega arith;
      of = λ label s. let m = (step.exact label).0 s in c.path.invariant.of label m ∙ m at at_in ∙ m (rep t at) (omega arith);
    }
