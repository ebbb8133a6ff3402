-- Of more members than the list of all is long, two would stand at one place of it.
use Rattle.su_window.proofs.Exact.{not_both}
use Rattle.su_window.proofs.laws.few_are_not_many.Goals as goal

pub returns : goal.returns
returns c = λ db few many. not_both db few many
