-- A valuation may change the variables that stand once, so that cells not essential fit.
use Rattle.su_tableau.proofs.ChangedValuations.{essential_ext, ext_essential}
use Rattle.su_tableau.proofs.laws.essential_columns_suffice.Goals as goal

pub returns : goal.returns
returns c = λ t m universe h valid widths wide. (essential_ext t m universe h valid widths wide, ext_essential t m universe h)
