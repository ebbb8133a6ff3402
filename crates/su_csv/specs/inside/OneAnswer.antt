-- How a row and the rows under a header are answered.
-- result: what came out; answer: what the definitions ask for, a value or a fault
-- No public contract cites this module.
use Rattle.std.specs.Prelude.{◌≡◌, ◌⊎◌, MatchResult, Result, Ok, Err}
use Rattle.su_csv.specs.declared.faults.CsvFault.{CsvFault}
use Rattle.su_csv.specs.declared.faults.CsvFault.TheVariants.{NoMemory}

-- the result is this answer, unless memory is wanting
abbrev pub Answers : {A : Type 0} → Result A CsvFault → Result A CsvFault → Type 0
Answers result answer = MatchResult result (λ value. answer ≡ Ok value) (λ fault. (fault ≡ NoMemory) ⊎ (answer ≡ Err fault))
