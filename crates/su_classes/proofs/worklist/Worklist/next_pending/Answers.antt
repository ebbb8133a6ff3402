-- What is pending are spots of the list, so the one that is taken is a spot, and those that are left still are.
use Rattle.std.proofs.Common.{Contains, refl}
use Rattle.su_classes.proofs.Rings.{all_popped}
use Rattle.su_classes.proofs.worklist.Worklist.next_pending.Goals as goal

pub returns-clause-same : goal.returns-clause-same
returns-clause-same c =
    let old = c.args.self.now in
    record {
      well = record {
        marks = c.requires.marks;
        sizes = c.requires.sizes;
        members = c.requires.members;
        ring = c.requires.ring;
        pending = all_popped (Contains old.spots) old.pending c.pop.new.self c.pop.result c.pop.ensures c.requires.pending;
      };
      items = refl;
      spots = refl;
    }
