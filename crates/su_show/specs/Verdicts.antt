-- The line of a verdict on a certificate. Terms are counted from 0.
-- fault: as in su_check
use Rattle.std.specs.Prelude.{ℕ, List, ◌++◌, codes, decimal}
use Rattle.su_check.specs.declared.verdicts.Checked.{Checked}
use Rattle.su_check.specs.declared.verdicts.Checked.TheVariants.{Yes, No}
use Rattle.su_check.specs.declared.verdicts.Fault.{Fault}
use Rattle.su_check.specs.declared.verdicts.Fault.TheVariants.{Syntax, Form, Fold, Tree}

-- the term at this place, and what is at fault in it
abbrev pub term_text : ℕ → List ℕ → List ℕ
term_text place part = codes "term " ++ decimal place ++ part

-- what is at fault in a certificate
abbrev pub fault_text : Fault → List ℕ
fault_text Syntax = codes "syntax"
fault_text (Form place) = term_text place (codes " form")
fault_text (Fold place) = term_text place (codes " fold")
fault_text (Tree place row) = term_text place (codes " tree ") ++ decimal row

-- the verdict on a certificate
abbrev pub verdict_text : Checked → List ℕ
verdict_text (Yes count) = codes "yes terms " ++ decimal count
verdict_text (No fault) = codes "no: " ++ fault_text fault

-- the verdict as a line
abbrev pub verdict_line : Checked → List ℕ
verdict_line verdict = verdict_text verdict ++ codes "\n"
