-- Few members are not too many, and what fits one database fits those alike.
use Rattle.su_once.proofs.Windowed.{refused_or_fitting}
use Rattle.su_once.proofs.windows.a_refused_window_fits_nothing.Goals as goal

pub returns : goal.returns
returns c = refused_or_fitting
