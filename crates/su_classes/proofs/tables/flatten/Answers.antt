-- Parents of lesser items are roots already, so the parent's parent is the root of the item; shortening the ways keeps the classes.
use Rattle.std.proofs.Common.{◌<◌, length, arith}
use Rattle.su_classes.proofs.Trees.{shortened_then, shortened_step, flat_more}
use Rattle.su_classes.proofs.tables.flatten.Goals as goal

pub loop-i-preserved : goal.loop-i-preserved
loop-i-preserved c =
    let t = c.loop-i.table in
    let i = c.loop-i.i in
    let f = c.loop-i.invariant.shortened.ordered in
    let l : i < length t = omega arith in
    record {
      shortened = shortened_then c.args.table.now t _ c.loop-i.invariant.shortened (shortened_step t i f l);
      flat = flat_more t i f l c.loop-i.invariant.flat;
    }
