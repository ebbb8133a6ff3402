-- The dependency is kept through the objects so far, and it could be broken only through one of the schema's; so at the end it is kept.
use Rattle.std.proofs.Common.{◌<◌, ◌++◌, length, arith, below_more}
use Rattle.std.proofs.lemmas.Bool.{OnTrue_at}
use Rattle.std.proofs.lemmas.Option.{slice_get_within}
use Rattle.su_state.specs.inside.AdmissibleRows.{KeepThrough}
use Rattle.su_state.proofs.filling.keep_fd.Goals as goal

pub loop-object-preserved : goal.loop-object-preserved
loop-object-preserved c =
    below_more (λ o. KeepThrough c.args.schema.now c.args.both.now.relation (c.args.both.now.stored.now ++ c.args.both.now.more.now) c.args.fd o) c.loop-object.object c.loop-object.invariant (OnTrue_at c.if-not-branch.false c.in_ok-keep_through.ensures)

pub returns : goal.returns
returns c = λ o fd object numbered placed.
    let within : o < length c.args.schema.now.objects = slice_get_within c.args.schema.now.objects o object placed in
    c.loop-object.invariant o (omega (arith, within, c.objects-object-end.ensures)) fd object numbered placed
