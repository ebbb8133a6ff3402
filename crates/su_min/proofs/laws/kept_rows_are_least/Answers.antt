-- A tableau with the same answers passes through rows that the whole maps into; none are fewer.
use Rattle.su_min.proofs.Least.{kept_least_part}
use Rattle.su_min.proofs.laws.kept_rows_are_least.Goals as goal

pub returns : goal.returns
returns c = λ kinds t m valid typed kept. kept_least_part kinds t m valid kept typed
