-- Each class has one value over a universal relation that fits, so that two constants of one class are equal.
use Rattle.su_window.proofs.Represented.{clashes_fit_none}
use Rattle.su_window.proofs.laws.clashes_fit_nothing.Goals as goal

pub returns : goal.returns
returns c = clashes_fit_none
