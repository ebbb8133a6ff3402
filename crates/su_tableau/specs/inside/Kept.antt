-- What is true of a tableau as it is kept.
-- valid: its rows have its width, and its head stands in them
-- No public contract cites this module.
use Rattle.su_tableau.specs.Tableaux.{Tab, IsValid, IsSmall}

-- valid, with at most 64 rows and 128 columns
abbrev pub IsValidAndSmall : Tab → Type 0
IsValidAndSmall t = IsValid t × IsSmall t
