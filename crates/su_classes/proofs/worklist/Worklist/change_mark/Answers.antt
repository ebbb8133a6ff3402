-- A member past the items is a spot, and what is pushed as pending is one of the spots; marks stay below the items.
use Rattle.std.proofs.Common.{◌-◌, ◌∷◌, [], List, Contains, refl, subst, sym}
use Rattle.std.specs.Prelude.{All}
use Rattle.std.proofs.lemmas.List.Elements.{All-append}
use Rattle.std.proofs.lemmas.Option.{slice_get_within, get_or_from_slice_get}
use Rattle.su_classes.specs.declared.worklist.Spot.{Spot}
use Rattle.su_classes.proofs.Rings.{all_one}
use Rattle.su_classes.proofs.worklist.Worklist.change_mark.Goals as goal

pub returns-in_ok-push : goal.returns-in_ok-push
returns-in_ok-push c =
    let well = c.requires.well in
    let old = c.args.self.now in
    let at = c.args.member - c.len-items.result in
    let spot = c.get.result.now in
    let there : Contains old.spots spot = (at, slice_get_within old.spots at spot c.get.ensures, get_or_from_slice_get old.spots at spot spot c.get.ensures) in
    record {
      well = record {
        marks = well.marks;
        sizes = well.sizes;
        members = well.members;
        ring = well.ring;
        pending = subst (λ (list : List Spot). All (Contains old.spots) list) (sym c.in_ok-push.ensures.ok)
            (All-append (Contains old.spots) old.pending (spot ∷ []) well.pending (all_one (Contains old.spots) spot there));
      };
      items = refl;
      spots = refl;
    }
