-- With the pair tried as the last one sent, the test tells whether all of them go; places kept for one pair more serve for the pairs before it.
use Rattle.std.proofs.Common.{subst, ◌∙◌}
use Rattle.su_check.specs.Certificate.{lines_of}
use Rattle.su_check.specs.inside.Boards.{Keeps}
use Rattle.su_check.proofs.ImagePlaces.{keeps_less}
use Rattle.su_check.proofs.fitting.fits.Goals as goal

pub returns-clause-keeps : goal.returns-clause-keeps
returns-clause-keeps c =
    let t = lines_of c.args.term.now in
    keeps_less t c.args.board.now c.args.sent.now (record { row = c.args.row; target = c.args.target }) c.args.places.now c.last_goes-goes.new.places
    (subst (λ p. Keeps t c.args.board.now p c.args.places.now c.last_goes-goes.new.places) (c.as_slice.ensures ∙ c.in_ok-push.ensures.ok) c.last_goes-goes.ensures.keeps)
