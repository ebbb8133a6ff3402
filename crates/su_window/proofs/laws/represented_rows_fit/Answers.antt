-- The chased rows with new values for their variables fit.
use Rattle.su_window.proofs.Represented.{represented_fit}
use Rattle.su_window.proofs.laws.represented_rows_fit.Goals as goal

pub returns : goal.returns
returns c = represented_fit
