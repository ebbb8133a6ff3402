-- The fault of a record of which some field has no value.
-- record: the fields of one line; number: which record it is, from 1 after the header; place, column: which column, from 0
-- columns: names and kinds; without a value: not written as its column's kind asks
-- No public contract cites this module.
use Rattle.std.specs.Prelude.{◌≡◌, ℕ, List, MatchOption}
use Rattle.su_base.specs.declared.values.Column.{Column}
use Rattle.su_base.specs.declared.values.Kind.TheVariants.{Int as IntKind}
use Rattle.su_csv.specs.declared.faults.CsvFault.{CsvFault}
use Rattle.su_csv.specs.declared.faults.CsvFault.TheVariants.{NotInt, NotText}
use Rattle.su_csv.specs.Record.{place_without}

-- that of the first number column without a number; else that of a text column, at the place
abbrev pub IsFaultAt : List Column → List (List ℕ) → ℕ → ℕ → CsvFault → Type 0
IsFaultAt columns fields number place fault = MatchOption (place_without IntKind 0 columns fields) (fault ≡ NotText number place) (λ column. fault ≡ NotInt number column)
