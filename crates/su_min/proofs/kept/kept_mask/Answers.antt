-- Rows are left out from the last to the first wherever the tableau still maps into the rest, which gives the least set; a room that is prepared for all rows serves each of these searches.
use Rattle.std.proofs.Common.{◌≡◌, ◌-◌, ◌^◌, ◌∙◌, suc, refl, sym, ap, subst, arith}
use Rattle.su_map.specs.Rooms.{IsPreparedFor}
use Rattle.su_min.proofs.Parts.{maps_sub}
use Rattle.su_min.proofs.Greedy.{IsGreedy, greedy_start, greedy_drop, greedy_keep, greedy_end}
use Rattle.su_min.proofs.KeptRows.{Fits, fits_all, is_prepared, prepared_for, full_is, fits_fewer, none_fewer, kept_from}
use Rattle.su_min.proofs.kept.kept_mask.Goals as goal

pub loop-i-init : goal.loop-i-init
loop-i-init g c =
    let t = c.args.t.now in let all = c.full-all.result in
    let rows = c.row_count-i.ensures.is in
    let e = c.full-all.ensures ∙ ap (λ n. 2 ^ n) c.row_count.ensures.is in
    record {
      sizes = record { rows = refl; symbols = refl };
      prepared = is_prepared t all c.prepare.new.room c.prepare.result e c.prepare.ensures.prepared c.prepare.ensures.none;
      small = omega arith;
      greedy = greedy_start (Fits t) (maps_sub t) c.row_count-i.result all (e ∙ ap (λ n. 2 ^ n) (sym rows)) (fits_all t all e);
    }

pub exists_prepared-requires-clause-prepared : goal.exists_prepared-requires-clause-prepared
exists_prepared-requires-clause-prepared g c =
    let all = c.full-all.result in
    let e = c.full-all.ensures ∙ ap (λ n. 2 ^ n) c.row_count.ensures.is in
    let small = c.loop-i.invariant.small in
    prepared_for c.args.t.now all c.loop-i.kept (c.loop-i.kept - c.bit.result) c.loop-i.room e c.loop-i.invariant.prepared small (omega arith)

pub loop-i-preserved-then-exists_prepared : goal.loop-i-preserved-then-exists_prepared
loop-i-preserved-then-exists_prepared g c =
    let t = c.args.t.now in let all = c.full-all.result in
    let kept = c.loop-i.kept in
    let small = c.loop-i.invariant.small in
    let s = c.exists_prepared.ensures.sizes in
    let r = c.loop-i.invariant.sizes in
    let e : c.loop-i.i ≡ suc (c.loop-i.i - 1) = omega arith in
    let w : kept - c.bit.result ≡ kept - 2 ^ (c.loop-i.i - 1) = ap (λ b. kept - b) c.bit.ensures in
    let f = fits_fewer t kept (kept - c.bit.result) c.exists_prepared.new.room.list c.loop-i.invariant.greedy.holds (c.exists_prepared.ensures.found c.if-exists_prepared.true) in
    record {
      sizes = record { rows = s.rows ∙ r.rows; symbols = s.symbols ∙ r.symbols };
      prepared = c.exists_prepared.ensures.prepared t all t all c.loop-i.invariant.prepared;
      small = omega arith;
      greedy = subst (IsGreedy (Fits t) (c.loop-i.i - 1)) (sym w)
          (greedy_drop (Fits t) (maps_sub t) (c.loop-i.i - 1) kept (subst (λ i. IsGreedy (Fits t) i kept) e c.loop-i.invariant.greedy) (subst (Fits t) w f));
    }

pub loop-i-preserved : goal.loop-i-preserved
loop-i-preserved g c =
    let t = c.args.t.now in let all = c.full-all.result in
    let kept = c.loop-i.kept in
    let small = c.loop-i.invariant.small in
    let s = c.exists_prepared.ensures.sizes in
    let r = c.loop-i.invariant.sizes in
    let e : c.loop-i.i ≡ suc (c.loop-i.i - 1) = omega arith in
    let w : kept - 2 ^ (c.loop-i.i - 1) ≡ kept - c.bit.result = ap (λ b. kept - b) (sym c.bit.ensures) in
    record {
      sizes = record { rows = s.rows ∙ r.rows; symbols = s.symbols ∙ r.symbols };
      prepared = c.exists_prepared.ensures.prepared t all t all c.loop-i.invariant.prepared;
      small = omega arith;
      greedy = greedy_keep (Fits t) (maps_sub t) (c.loop-i.i - 1) kept (subst (λ i. IsGreedy (Fits t) i kept) e c.loop-i.invariant.greedy)
          (λ f. none_fewer t kept (kept - c.bit.result) (c.exists_prepared.ensures.none.0 c.if-exists_prepared.false) (subst (Fits t) w f));
    }

pub returns-clause-kept : goal.returns-clause-kept
returns-clause-kept g c =
    let t = c.args.t.now in
    kept_from t c.loop-i.kept c.loop-i.invariant.greedy.holds (greedy_end (Fits t) (maps_sub t) c.loop-i.i c.loop-i.kept c.loop-i-test.false c.loop-i.invariant.greedy)

pub returns-clause-prepared : goal.returns-clause-prepared
returns-clause-prepared g c =
    let t = c.args.t.now in
    let e = c.full-all.ensures ∙ ap (λ n. 2 ^ n) c.row_count.ensures.is in
    subst (λ a. IsPreparedFor t a t a c.loop-i.room) (full_is t c.full-all.result e) c.loop-i.invariant.prepared
