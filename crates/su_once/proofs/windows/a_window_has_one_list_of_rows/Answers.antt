-- Equal rows give equal windows, and ascending lists of the same rows are one.
use Rattle.su_once.proofs.Windowed.{one_window}
use Rattle.su_once.proofs.windows.a_window_has_one_list_of_rows.Goals as goal

pub returns : goal.returns
returns c = one_window
