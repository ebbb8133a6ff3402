-- No term before maps into the tableau, so the first that does is the first of all; the room stays wide enough for each search.
use Rattle.std.proofs.Common.{◌≡◌, ◌+◌, ◌^◌, ◌∙◌, ℕ, length, get_or, ap, sym, subst, below_more}
use Rattle.su_tableau.specs.Tableaux.{Tab}
use Rattle.su_tableau.specs.Mapping.{Maps}
use Rattle.su_map.specs.Rooms.{IsRoomFor}
use Rattle.su_compare.specs.Settled.{tab_at}
use Rattle.su_compare.specs.inside.Settlements.{IsAlike}
use Rattle.su_compare.proofs.Settled.{tab_here, heads_same, room_same, no_list_no_mapping, found_is}
use Rattle.su_compare.proofs.settling.found_counted.Goals as goal

pub first-requires-clause-room : goal.first-requires-clause-room
first-requires-clause-room g c =
    let at = tab_here c.args.terms.now c.loop-j.j c.index-terms-j.result c.loop-j-test.true in
    subst (λ (t : Tab). IsRoomFor t c.loop-j.room) at (c.loop-j.invariant.room_for c.loop-j.j c.loop-j-test.true)

pub first-requires-clause-width : goal.first-requires-clause-width
first-requires-clause-width g c =
    let at = tab_here c.args.terms.now c.loop-j.j c.index-terms-j.result c.loop-j-test.true in
    (subst (λ (t : Tab). IsAlike c.args.c.now t) at (c.requires.alike c.loop-j.j c.loop-j-test.true)).width

pub first-requires-clause-heads : goal.first-requires-clause-heads
first-requires-clause-heads g c =
    let at = tab_here c.args.terms.now c.loop-j.j c.index-terms-j.result c.loop-j-test.true in
    heads_same c.args.c.now (get_or c.args.terms.now c.loop-j.j c.index-terms-j.result).tableau c.keeps_its_rules.ensures.valid c.keeps_its_rules-in-loop-j.ensures.valid
    (subst (λ (t : Tab). IsAlike c.args.c.now t) at (c.requires.alike c.loop-j.j c.loop-j-test.true))

pub loop-j-preserved : goal.loop-j-preserved
loop-j-preserved g c =
    let terms = c.args.terms.now in
    let to = c.args.c.now in
    let at = tab_here terms c.loop-j.j c.index-terms-j.result c.loop-j-test.true in
    let all : c.full-to.result + 1 ≡ 2 ^ length to.rows = c.full-to.ensures ∙ ap (λ (n : ℕ). 2 ^ n) c.row_count.ensures.is in
    record {
      room_for = room_same terms c.loop-j.room c.first.new.room c.loop-j.invariant.room_for c.first.ensures.sizes;
      none = below_more (λ i. ¬ Maps (tab_at terms i) to) c.loop-j.j c.loop-j.invariant.none
          (subst (λ (t : Tab). ¬ Maps t to) (sym at)
          (no_list_no_mapping (get_or terms c.loop-j.j c.index-terms-j.result).tableau to c.full-from.result c.full-to.result all (c.first.ensures.none.0 c.if-first.false)));
    }

pub returns-then-first-clause-found : goal.returns-then-first-clause-found
returns-then-first-clause-found g c =
    let terms = c.args.terms.now in
    let to = c.args.c.now in
    let s = (get_or terms c.loop-j.j c.index-terms-j.result).tableau in
    let at = tab_here terms c.loop-j.j c.index-terms-j.result c.loop-j-test.true in
    let all_c : c.full-to.result + 1 ≡ 2 ^ length to.rows = c.full-to.ensures ∙ ap (λ (n : ℕ). 2 ^ n) c.row_count.ensures.is in
    let all_s : c.full-from.result + 1 ≡ 2 ^ length s.rows = c.full-from.ensures ∙ ap (λ (n : ℕ). 2 ^ n) c.row_count-in-loop-j.ensures.is in
    found_is terms to s c.loop-j.j c.full-from.result c.full-to.result c.first.new.room.list c.in_ok-mapping.mapping c.loop-j-test.true at all_s all_c (c.first.ensures.found c.if-first.true) c.in_ok-mapping.ensures.is
    c.loop-j.invariant.none
