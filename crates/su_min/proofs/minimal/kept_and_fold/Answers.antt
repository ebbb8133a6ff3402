-- A room that is prepared for all rows serves for fewer targets, and a fold of all rows into the kept ones is among its mappings; so the first one found is the fold.
use Rattle.std.proofs.Common.{◌^◌, ◌∙◌, sym, ap, subst, arith}
use Rattle.su_map.specs.Rooms.{IsPreparedFor}
use Rattle.su_min.specs.Kept.{IsFold}
use Rattle.su_min.proofs.KeptRows.{fold_from, full_is, kept_within, prepared_for}
use Rattle.su_min.proofs.minimal.kept_and_fold.Goals as goal

pub first_prepared-requires-clause-prepared : goal.first_prepared-requires-clause-prepared
first_prepared-requires-clause-prepared g c =
    let t = c.args.t.now in
    let all = c.full.result in
    let e = c.full.ensures ∙ ap (λ n. 2 ^ n) c.row_count-2.ensures.is in
    let mask = c.kept_mask-mask.result in
    let room = c.kept_mask-mask.new.room in
    let is = subst (λ a. IsPreparedFor t a t a room) (sym (full_is t all e)) c.kept_mask-mask.ensures.prepared in
    let w = kept_within t mask c.kept_mask-mask.ensures.kept in
    prepared_for t all all mask room e is (omega arith) (omega arith)

pub returns : goal.returns
returns g c =
    let t = c.args.t.now in
    let kept = c.kept_mask-mask.ensures.kept in
    let all = c.full.result in
    let e = c.full.ensures ∙ ap (λ n. 2 ^ n) c.row_count-2.ensures.is in
    let fold = fold_from t all c.kept_mask-mask.result c.first_prepared.new.room.list c.first_prepared.result e kept c.first_prepared.ensures.found c.first_prepared.ensures.none.0 in
    record { kept = kept; fold = subst (IsFold t c.kept_mask-mask.result) (sym c.in_ok-found_list.ensures) fold }
