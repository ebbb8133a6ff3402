-- Once the members are those of the object's rows up to its last, they are those so far up to the next object with no row of it read.
use Rattle.std.proofs.Common.{◌≡◌, List, length, map, ap, arith}
use Rattle.su_base.specs.declared.values.Value.{Value}
use Rattle.su_window.specs.Padded.{rows_under}
use Rattle.su_window.proofs.Counted.{object_done}
use Rattle.su_clash.specs.Clash.{reading_of}
use Rattle.su_clash.proofs.members.read_object.Goals as goal

pub returns-clause-so_far : goal.returns-clause-so_far
returns-clause-so_far c =
    let long : length c.rows_under-rows.result.now ≡ length (rows_under c.args.db.now c.args.object) = ap (λ (rows : List (List Value)). length rows) c.rows_under-rows.ensures in
    let done = c.loop-position-test.false in
    let within = c.loop-position.auto.position-end in
    object_done c.args.db.now c.args.object c.loop-position.position (map reading_of c.loop-position.members) (omega (arith, long, done, within)) c.loop-position.invariant.1
