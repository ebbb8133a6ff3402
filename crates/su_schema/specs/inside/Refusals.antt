-- Refusals of checks that are made in their order.
-- check: whether it fails and what is then answered
-- No public contract cites this module.
use Rattle.std.specs.Prelude.{◌≡◌, ◌⊎◌, List, Some}
use Rattle.su_schema.specs.declared.faults.SchemaFault.{SchemaFault}
use Rattle.su_schema.specs.declared.faults.SchemaFault.TheVariants.{NoMemory}
use Rattle.su_schema.specs.NameChecks.{Check, first_failing}

-- want of memory, or the fault of the first check that fails
abbrev pub IsRefusalBy : List Check → SchemaFault → Type 0
IsRefusalBy checks fault = (fault ≡ NoMemory) ⊎ (first_failing checks ≡ Some fault)
