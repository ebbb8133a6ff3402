-- Whether two queries can be compared by their terms, and why not.
-- of one form: all names are known, only equalities are asked for, and the outputs are of equal kinds
use Rattle.std.specs.Prelude.{◌≡◌, ◌⊎◌, IsTrue}
use Rattle.su_schema.specs.SchemaValue.{SchemaValue}
use Rattle.su_query.specs.declared.statements.Query.{Query as AQuery}
use Rattle.su_query.specs.declared.resolving.Resolved.{Resolved}
use Rattle.su_query.specs.Lookup.{IsKnownQuery, IsQueryRefusal}
use Rattle.su_query.specs.NumberedConditions.{resolved_of}
use Rattle.su_compare.specs.Equalities.{has_only_equalities}
use Rattle.su_compare.specs.Outputs.{output_kinds}
use Rattle.su_show.specs.declared.statement_refusal.Refusal.{Refusal}
use Rattle.su_show.specs.declared.statement_refusal.Refusal.TheVariants.{Query, OnlyEqual, OutputsDiffer}

-- the names of both are known
abbrev pub AreKnown : SchemaValue → AQuery → AQuery → Type 0
AreKnown schema first second = IsKnownQuery schema first × IsKnownQuery schema second

-- both ask for equalities alone
abbrev pub AskEqualities : Resolved → Resolved → Type 0
AskEqualities p q = IsTrue (has_only_equalities p.cond) × IsTrue (has_only_equalities q.cond)

-- equally many outputs, of equal kinds in their order
abbrev pub OutputsAgree : SchemaValue → Resolved → Resolved → Type 0
OutputsAgree schema p q = output_kinds schema p ≡ output_kinds schema q

-- the names are known, and the two can be compared by their terms
pub record AreOfOneForm (schema : SchemaValue) (first second : AQuery) : Type 0 where
  pub known : AreKnown schema first second
  pub equalities : AskEqualities (resolved_of schema first) (resolved_of schema second)
  pub outputs : OutputsAgree schema (resolved_of schema first) (resolved_of schema second)

-- why they are not: the first cause
abbrev pub IsFormRefusal : SchemaValue → AQuery → AQuery → Refusal → Type 0
IsFormRefusal schema first second (Query fault) = IsQueryRefusal schema first fault ⊎ (IsKnownQuery schema first × IsQueryRefusal schema second fault)
IsFormRefusal schema first second OnlyEqual = AreKnown schema first second × (¬ AskEqualities (resolved_of schema first) (resolved_of schema second))
IsFormRefusal schema first second OutputsDiffer =
    AreKnown schema first second × AskEqualities (resolved_of schema first) (resolved_of schema second) × (¬ OutputsAgree schema (resolved_of schema first) (resolved_of schema second))
IsFormRefusal schema first second _ = ⊥
