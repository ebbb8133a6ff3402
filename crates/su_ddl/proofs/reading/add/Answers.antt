-- A text that is no definition is at fault by its syntax, and one that is a definition is at fault as the schema's refusal says, unless memory was wanting.
use Rattle.std.proofs.Common.{inl, inr, refl, sym, ap, subst, Err}
use Rattle.su_ddl.specs.Files.{IsAtFault}
use Rattle.su_ddl.specs.declared.faults.DdlFault.{DdlFault}
use Rattle.su_ddl.proofs.reading.add.Goals as goal

pub returns-in-Err-Syntax-clause-fault : goal.returns-in-Err-Syntax-clause-fault
returns-in-Err-Syntax-clause-fault c = inr (refl, c.in-Err-Syntax.ensures.syntax (ap Err c.in-Err-Syntax.field-0-is))

pub returns-clause-fault : goal.returns-clause-fault
returns-clause-fault c = elim c.in-Err.ensures.refused [
  | inl memory ↦ inl (c.refusal.ensures.memory memory)
  | inr why ↦ elim (c.refusal.ensures.told) [
    | inl memory ↦ inl memory
    | inr is ↦ inr (subst (λ (f : DdlFault). IsAtFault c.args.number c.args.schema.now c.args.text.now f) (sym is) (refl, c.in-Ok.definition, c.in-Ok.ensures.definition, why))
  ]
]
