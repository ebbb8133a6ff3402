-- A row of constants stands for a row of any universal relation that fits; and the chased rows with new values are one where no other row has these values.
use Rattle.su_window.proofs.Represented.{constant_rows}
use Rattle.su_window.proofs.laws.windows_are_constant_rows.Goals as goal

pub returns : goal.returns
returns c = constant_rows
