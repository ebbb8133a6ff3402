-- The dependencies so far are kept through every object, and what could be broken is one of the schema's; so at the end all are kept.
use Rattle.std.proofs.Common.{◌<◌, ◌++◌, ℕ, length, ap, arith, below_more}
use Rattle.std.proofs.lemmas.Bool.{OnTrue_at}
use Rattle.std.proofs.lemmas.Option.{slice_get_within}
use Rattle.su_state.specs.inside.AdmissibleRows.{KeepThrough}
use Rattle.su_state.proofs.filling.keep_all.Goals as goal

pub loop-fd-preserved : goal.loop-fd-preserved
loop-fd-preserved c =
    below_more (λ f. (o : ℕ) → KeepThrough c.args.schema.now c.args.both.now.relation (c.args.both.now.stored.now ++ c.args.both.now.more.now) f o) c.loop-fd.fd c.loop-fd.invariant (OnTrue_at c.if-not-branch.false c.in_ok-keep_fd.ensures)

pub returns : goal.returns
returns c = λ f o fd object numbered placed.
    let within : f < length c.args.schema.now.fds = slice_get_within c.args.schema.now.fds f fd numbered in
    c.loop-fd.invariant f (omega (arith, within, ap length c.fds.ensures)) o fd object numbered placed
