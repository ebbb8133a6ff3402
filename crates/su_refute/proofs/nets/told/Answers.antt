-- The sets so far are the targets of the rows so far that agree with this target; the places shared lie within the width, so they can be compared in any two rows.
use Rattle.std.proofs.Common.{◌≡◌, ◌<◌, ◌∙◌, length, arith}
use Rattle.su_base.proofs.Items.{length-pushed, get_or-pushed_each}
use Rattle.su_map.specs.Lists.{row_of}
use Rattle.su_refute.specs.inside.Nets.{IsTold}
use Rattle.su_refute.proofs.SharedPlaces.{shared_within, shared_as, width_at, told_by}
use Rattle.su_refute.proofs.nets.told.Goals as goal

pub agreeing-requires-clause-places : goal.agreeing-requires-clause-places
agreeing-requires-clause-places c =
    let t = c.args.t.now in let q = c.loop-list.list-index in
    let places = c.as_slice.result.now in
    let low : q < length t.rows = omega (arith, c.loop-list-test.true, c.requires.one_each) in
    shared_within (row_of t c.args.row) (row_of t q) t.width t.width places (shared_as t c.args.row q c.args.lists.now places _ c.list-item.is c.as_slice.ensures c.requires.one_each low (c.requires.shared q low))
    (width_at t c.args.row c.keeps_its_rules.ensures.valid c.requires.row) (width_at t q c.keeps_its_rules.ensures.valid low)

pub loop-list-preserved : goal.loop-list-preserved
loop-list-preserved c =
    let t = c.args.t.now in let n = c.loop-list.list-index in
    let places = c.as_slice.result.now in
    let low : n < length t.rows = omega (arith, c.loop-list-test.true, c.requires.one_each) in
    let shared = shared_as t c.args.row n c.args.lists.now places _ c.list-item.is c.as_slice.ensures c.requires.one_each low (c.requires.shared n low) in
    record {
      one_each = length-pushed c.loop-list.sets c.push.new.self c.agreeing.result n c.in_ok-push.ensures.ok c.loop-list.invariant.one_each;
      told = get_or-pushed_each (λ q v. IsTold t c.args.mask c.args.row c.args.target q v) 0 c.loop-list.sets c.push.new.self c.agreeing.result n c.in_ok-push.ensures.ok c.loop-list.invariant.one_each c.loop-list.invariant.told
          (told_by t c.args.mask c.args.row c.args.target n c.agreeing.result c.row.result.now places shared c.row.ensures.is c.agreeing.ensures);
    }

pub returns : goal.returns
returns c =
    let all : c.loop-list.list-index ≡ length c.args.t.now.rows = omega (arith, c.loop-list-test.false, c.loop-list.auto.list-index-end, c.requires.one_each) in
    record {
      one_each = c.loop-list.invariant.one_each ∙ all;
      told = λ q h. c.loop-list.invariant.told q (omega (arith, h, all));
    }
