-- The reply to a definition, by how it ends.
use Rattle.std.proofs.Common.{◌≡◌, List, Ok, Err, Result, sym, ◌∙◌, subst}
use Rattle.std.specs.Ordering.{nat_cmp}
use Rattle.std.specs.FinSet.{FinSet}
use Rattle.su_schema.specs.SchemaValue.{SchemaValue}
use Rattle.su_schema.specs.Definitions.{applied}
use Rattle.su_schema.specs.declared.definitions.Definition.{Definition}
use Rattle.su_schema.specs.declared.faults.SchemaFault.{SchemaFault}
use Rattle.su_maxobj.specs.MaximalObjects.{AreMaximalObjects}
use Rattle.su_state.specs.declared.faults.DefineFault.{DefineFault}
use Rattle.su_state.specs.declared.faults.DefineFault.TheVariants.{Schema, Breaks, NoMemory}
use Rattle.su_state.specs.DatabaseValue.{DatabaseValue}
use Rattle.su_state.specs.Definitions.{Defines}
use Rattle.su_show.specs.declared.statement_refusal.Refusal.TheVariants.{Define}
use Rattle.su_session.specs.declared.replies.Reply.{Reply}
use Rattle.su_session.specs.Outcomes.{Refuses}
use Rattle.su_session.specs.Reply.{AddsDefinition}

same_Ok : (a b : SchemaValue) → ◌≡◌ {A = Result SchemaValue SchemaFault} (Ok a) (Ok b) → a ≡ b
same_Ok a b e = cc

-- a refused definition leaves the database as it was
pub same_when_refused : (db new : DatabaseValue) (d : Definition) (fault : DefineFault) → Defines db d (Err fault) new → new ≡ db
same_when_refused db new d (Schema fault) h = h.1
same_when_refused db new d (Breaks fd name first second) h = h.1
same_when_refused db new d NoMemory h = absurd h

module _ (db new : DatabaseValue) (d : Definition) (reply : Reply) where
  pub refused_schema : (fault : SchemaFault) → applied db.schema d ≡ Err fault → Refuses db (Define (Schema fault)) reply new → AddsDefinition db d reply new
  refused_schema fault fails refuses = (Err (Schema fault), (fails, refuses.same), refuses)

  pub refused_rows : (fault : DefineFault) → Defines db d (Err fault) new → Refuses new (Define fault) reply new → AddsDefinition db d reply new
  refused_rows fault defines refuses = (Err fault, defines, subst (λ (old : DatabaseValue). Refuses old (Define fault) reply new) (same_when_refused db new d fault defines) refuses)

-- the maximal objects of the schema that was tried are those of the new schema
pub maximal_kept : (db new : DatabaseValue) (d : Definition) (schema : SchemaValue) (sets : List (FinSet nat_cmp)) → applied db.schema d ≡ Ok schema → Defines db d (Ok tt) new → AreMaximalObjects schema sets → AreMaximalObjects new.schema sets
maximal_kept db new d schema sets tried defines are =
    let same : schema ≡ new.schema = same_Ok schema new.schema (sym tried ∙ defines.0) in
    subst (λ (s : SchemaValue). AreMaximalObjects s sets) same are
