-- The new member is the last, and it goes into its item's ring between the item and what came next; so all of them still point to members.
use Rattle.std.proofs.Common.{◌<◌, ◌++◌, ◌∷◌, [], List, ℕ, length, set, Contains, subst, sym, ap, ◌∙◌, arith}
use Rattle.std.specs.Prelude.{All}
use Rattle.std.proofs.lemmas.List.{length-set, length-append}
use Rattle.su_classes.specs.declared.worklist.Spot.{Spot}
use Rattle.su_classes.proofs.Rings.{ring_enter, members_more}
use Rattle.su_classes.proofs.worklist.Worklist.enter.Goals as goal

pub returns-clause-well : goal.returns-clause-well
returns-clause-well c =
    let well = c.requires.well in
    let next = c.args.self.now.next.items in
    let spots = c.args.self.now.spots in
    let item = c.args.item in
    let after = c.index-after.result.now in
    let item_in : item < length next = omega (arith, well.members, c.requires.item) in
    let after_in : after < length next = subst (λ (k : ℕ). k < length next) (sym c.index-after.ensures) (well.ring item after item_in) in
    let longer = ap length c.in_ok-append.ensures ∙ length-append next (after ∷ []) in
    let more = ap length c.in_ok-push.ensures.ok ∙ length-append spots (c.args.spot ∷ []) in
    let same = length-set c.append.new.list.items item c.len-member.result in
    record {
      marks = well.marks;
      sizes = length-set c.args.self.now.sizes.items c.index-mark.result.now c.saturating_add.result ∙ well.sizes;
      members = omega (arith, longer, more, same, well.members);
      ring = subst (λ (list : List ℕ). All (λ k. k < length (set list item c.len-member.result)) (set list item c.len-member.result)) (sym c.in_ok-append.ensures)
          (subst (λ (n : ℕ). All (λ k. k < length (set (next ++ after ∷ []) item n)) (set (next ++ after ∷ []) item n)) (sym (c.len-member.ensures ∙ c.args.self.now.next.ok.0)) (ring_enter next item after after_in well.ring));
      pending = subst (λ (list : List Spot). All (Contains list) c.args.self.now.pending) (sym c.in_ok-push.ensures.ok) (members_more spots c.args.self.now.pending (c.args.spot ∷ []) well.pending);
    }
