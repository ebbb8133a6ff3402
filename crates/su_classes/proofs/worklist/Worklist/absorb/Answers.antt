-- Exchanging the next members of x and y, which both lie in the list, leaves it a list of members, and the spots stay.
use Rattle.std.proofs.Common.{◌<◌, ℕ, length, set, subst, sym, ◌∙◌, arith}
use Rattle.std.proofs.lemmas.List.{length-set}
use Rattle.su_classes.proofs.Rings.{ring_set}
use Rattle.su_classes.proofs.worklist.Worklist.absorb.Goals as goal

pub returns : goal.returns
returns c =
    let same = c.in_ok-change_marks.ensures in
    let next = c.change_marks.new.self.next.items in
    let x = c.args.x in
    let y = c.args.y in
    let after = c.index-after.result.now in
    let other = c.index.result.now in
    let x_in : x < length next = omega (arith, same.items, same.well.members, c.requires.left) in
    let y_in : y < length next = omega (arith, same.items, same.well.members, c.requires.right) in
    let after_in : after < length next = subst (λ (k : ℕ). k < length next) (sym c.index-after.ensures) (same.well.ring x after x_in) in
    let other_in : other < length next = subst (λ (k : ℕ). k < length next) (sym c.index.ensures) (same.well.ring y other y_in) in
    let size = length-set next x other in
    record {
      well = record {
        marks = same.well.marks;
        sizes = same.well.sizes;
        members = length-set (set next x other) y after ∙ size ∙ same.well.members;
        ring = ring_set (set next x other) y after (omega (arith, size, after_in)) (ring_set next x other other_in same.well.ring);
        pending = same.well.pending;
      };
      items = same.items;
      spots = same.spots;
    }
