-- A limit that the statement passes refuses each text of its symbols.
use Rattle.std.proofs.Common.{inl, inr}
use Rattle.su_query.proofs.Uniqueness.{limit_refusal}
use Rattle.su_query.proofs.reading.statement_of.Goals as goal

pub returns-in-Err-clause-refused : goal.returns-in-Err-clause-refused
returns-in-Err-clause-refused c =
    elim c.in-Err.ensures.passed [
      | inl e ↦ inl e
      | inr passed ↦ inr (λ text spelled. limit_refusal text c.in_ok-statement.statement c.in-Err.fault (c.in_ok-statement.ensures.found text spelled) passed)
    ]
